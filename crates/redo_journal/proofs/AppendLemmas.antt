-- The exits of the calls that write to a journal.
use Rattle.std.proofs.Common.{◌≡◌, ℕ, ◌+◌, ◌≤◌, Option, Some, None, List, [], length, Result, Ok, Err, OnOk, IsTrue, refl, sym, ◌∙◌, ap, subst, arith}
use Rattle.std.specs.Prelude.{is_some}
use Rattle.disk_model.specs.declared.storage.Failed.{Failed}
use Rattle.disk_model.specs.File.{File, Writes, Syncs, IsSettled}
use Rattle.disk_model.specs.Disk.{Disk, now, contents, Called, Keeps}
use Rattle.disk_model.proofs.Moments.{started, both, weaker, done_ok}
use Rattle.framed_file.proofs.PrefixLemmas.{prefix_refl, prefix_push}
use Rattle.redo_journal.specs.declared.record.Record.{Record}
use Rattle.redo_journal.specs.declared.journal.Area.{Area}
use Rattle.redo_journal.specs.declared.journal.Journal.{Journal}
use Rattle.framed_file.specs.Framed.{header_len}
use Rattle.redo_journal.specs.Replays.{start, after_records, Fits, AllFit}
use Rattle.redo_journal.specs.Journals.{Holds, OnlyBoth, file_on, IsBehind, IsJournalOn, IsJournal, IsKeptIn}
use Rattle.redo_journal.specs.Making.{Makes}
use Rattle.redo_journal.specs.Appending.{Spells, FitsBehind, with_one, IsFirst, GoesTo, Admits, IsNextFrame, HasFiles, KeepsAll, KeepsMore, KeepsSynced, SettlesFile, has_area, file_with, open_file, LosesNone, LosesNoneBehind, OfFrame}
use Rattle.redo_journal.proofs.AreaLemmas.{length-area_of}
use Rattle.redo_journal.proofs.SideLemmas.{holds_wider}
use Rattle.redo_journal.proofs.KeptLemmas.{behind_of, kept_of, journal_of, on_of, kept_holds, spelt_room, next_behind, write_moments, write_kept, sync_moments, sync_kept, begin_moments, begin_behind, begin_kept, begin_settled}

-- A sync.

pub sync_ok : (journal : Journal) (it : Area) (old new : Disk) (file : ℕ) (result : Result Unit Failed) → journal.area ≡ Some it → file ≡ file_on it.side journal.first_file → Called file (Syncs result) result old new
    → OnOk result (KeepsSynced journal old journal new)
sync_ok journal it old new file (Ok v) is file_is called = λ wanted synced records told kept. record {
  is = kept.is;
  kept = on_of journal.area it wanted records records journal.first_file (now new) is
      (sync_kept it wanted synced records journal.first_file (behind_of journal.area it records is kept.is) old new file v told (kept_of journal.area it wanted synced records journal.first_file (now old) is kept.kept) file_is called);
}
sync_ok journal it old new file (Err e) is file_is called = tt

pub sync_settles : (journal : Journal) (it : Area) (old new : Disk) (file : ℕ) (result : Result Unit Failed) → journal.area ≡ Some it → file ≡ file_on it.side journal.first_file → Called file (Syncs result) result old new
    → OnOk result (SettlesFile journal new)
sync_settles journal it old new file (Ok v) is file_is called = λ told there.
    let synced = (done_ok old new file (Syncs (Ok v)) v (subst IsTrue called.told told) called).ok in
    let here : file ≡ open_file journal = file_is ∙ ap (λ (o : Option Area). file_with o journal.first_file) (sym is) in
    subst (λ (n : ℕ). IsSettled (now new n)) here (subst IsSettled (sym synced) (record { synced = refl; steps = refl }))
sync_settles journal it old new file (Err e) is file_is called = tt

pub sync_holds : (journal : Journal) (it : Area) (old new : Disk) (file : ℕ) (result : Result Unit Failed) → journal.area ≡ Some it → file ≡ file_on it.side journal.first_file → Called file (Syncs result) result old new
    → LosesNone journal old new
sync_holds journal it old new file result is file_is called = λ wanted synced records told kept.
    sync_moments it wanted synced records journal.first_file (behind_of journal.area it records is kept.is) old new file result told (kept_of journal.area it wanted synced records journal.first_file (now old) is kept.kept) file_is called

-- with no area there is none open
pub no_area : {P : Type 0} (journal : Journal) → journal.area ≡ None → IsTrue (has_area journal) → P
no_area journal none there = absurd (let no = sym (ap is_some none) ∙ there in cc)

-- no call
pub rest_holds : (journal : Journal) (d : Disk) → LosesNone journal d d
rest_holds journal d = λ wanted synced records told kept.
    started d (OnlyBoth journal.first_file (now d) (Holds wanted synced records)) (λ f n m. refl, kept_holds journal.area wanted synced records journal.first_file (now d) kept.is kept.kept)

-- Making the first area.

pub ready_settled : (journal : Journal) (d : Disk) → journal.area ≡ None → HasFiles journal d → IsTrue d.told → IsSettled (now d journal.first_file)
ready_settled journal d none some told = let kept = some told in begin_settled journal.area kept.0 kept.1 kept.2 journal.first_file (now d) none kept.3.kept

pub ready_holds : (journal : Journal) (old new : Disk) (result : Result Unit Failed) → journal.area ≡ None → Makes journal.first_file 0 result old new
    → LosesNone journal old new
ready_holds journal old new result none makes = λ wanted synced records told kept.
    begin_moments journal.area wanted synced records journal.first_file old new result none told kept.is kept.kept makes

no_records : (journal : Journal) (records : List Record) → journal.area ≡ None → IsJournal journal records → records ≡ []
no_records journal records none is = of journal.area none is
  where
    of : (area : Option Area) → area ≡ None → IsJournalOn area records → records ≡ []
    of None e on = on
    of (Some it) e on = absurd (cc)

pub ready_journal : (journal : Journal) (it : Area) (records : List Record) → journal.area ≡ None → IsFirst it → IsJournal journal records → IsBehind it records
ready_journal journal it records none first is = begin_behind it records first (no_records journal records none is)

pub ready_kept : (journal later : Journal) (it : Area) (old new : Disk) (v : Unit) → journal.area ≡ None → later.area ≡ Some it → later.first_file ≡ journal.first_file → IsFirst it → Makes journal.first_file 0 (Ok v) old new
    → KeepsAll journal old later new
ready_kept journal later it old new v none some same first makes = λ wanted synced records told kept. record {
  is = journal_of later.area it records some (ready_journal journal it records none first kept.is);
  kept = on_of later.area it wanted synced records later.first_file (now new) some (subst (λ (n : ℕ). IsKeptIn it wanted synced records n (now new)) (sym same)
      (begin_kept journal.area it wanted synced records journal.first_file old new v none told kept.is kept.kept makes first));
}

-- One record more.

pub fit_room : (area : Area) (bytes : List ℕ) (sum : ℕ) → IsNextFrame area bytes sum → (area.len + length bytes ≤ 2147483647) × (1 ≤ length bytes)
fit_room area bytes sum some = spelt_room area some.0 some.1 bytes sum some.2 some.3 some.4

pub write_place : (journal : Journal) (it : Area) (d : Disk) (file at : ℕ) → journal.area ≡ Some it → file ≡ file_on it.side journal.first_file → at ≡ it.len
    → HasFiles journal d → IsTrue d.told → at ≤ length (contents d file)
write_place journal it d file at is file_is at_is some told =
    let kept = some told in
    let has = (kept_of journal.area it kept.0 kept.1 kept.2 journal.first_file (now d) is kept.3.kept).area in
    let behind = behind_of journal.area it kept.2 is kept.3.is in
    omega (arith, at_is, behind.len, ap length has.bytes, length-area_of it.sequence kept.2, ap (λ (f : ℕ). length (contents d f)) file_is)

-- the next area, behind one record more
pub record IsNext (area next : Area) (bytes : List ℕ) (sum : ℕ) : Type 0 where
  pub side : next.side ≡ area.side
  pub sequence : next.sequence ≡ area.sequence
  pub len : next.len ≡ area.len + length bytes
  pub crc : next.crc ≡ sum
  pub count : next.records ≡ area.records + 1

pub write_journal : (journal : Journal) (it next : Area) (bytes : List ℕ) (sum : ℕ) → journal.area ≡ Some it → IsNext it next bytes sum
    → OfFrame it bytes sum (λ entry. (records : List Record) → IsJournal journal records → FitsBehind records entry → IsBehind next (with_one records entry))
write_journal journal it next bytes sum some next_is = λ entry spells records is fits.
    next_behind it next records entry bytes sum (behind_of journal.area it records some is) fits spells next_is.sequence next_is.len next_is.crc next_is.count

pub write_holds : (journal : Journal) (it : Area) (old new : Disk) (file at : ℕ) (bytes : List ℕ) (sum : ℕ) (result : Result Unit Failed) → journal.area ≡ Some it → file ≡ file_on it.side journal.first_file → at ≡ it.len
    → Called file (Writes at bytes result) result old new → OfFrame it bytes sum (λ entry. LosesNoneBehind entry journal old new)
write_holds journal it old new file at bytes sum result some file_is at_is called = λ entry spells wanted synced records told kept fits.
    write_moments it wanted synced records entry bytes sum journal.first_file (behind_of journal.area it records some kept.is) fits spells old new file at result told
    (kept_of journal.area it wanted synced records journal.first_file (now old) some kept.kept) file_is at_is called

pub write_ok : (journal later : Journal) (it next : Area) (old new : Disk) (file at : ℕ) (bytes : List ℕ) (sum : ℕ) (v : Unit) → journal.area ≡ Some it → later.area ≡ Some next → later.first_file ≡ journal.first_file
    → IsNext it next bytes sum → file ≡ file_on it.side journal.first_file → at ≡ it.len → Called {T = Unit} file (Writes at bytes (Ok v)) (Ok v) old new
    → OfFrame it bytes sum (λ entry. KeepsMore entry journal old later new)
write_ok journal later it next old new file at bytes sum v some then same next_is file_is at_is called = λ entry spells wanted synced records told kept fits. record {
  is = journal_of later.area next (with_one records entry) then (write_journal journal it next bytes sum some next_is entry spells records kept.is fits);
  kept = on_of later.area next wanted synced (with_one records entry) later.first_file (now new) then (subst (λ (n : ℕ). IsKeptIn next wanted synced (with_one records entry) n (now new)) (sym same)
      (write_kept it wanted synced records entry bytes sum journal.first_file (behind_of journal.area it records some kept.is) fits spells old new next file at v told
      (kept_of journal.area it wanted synced records journal.first_file (now old) some kept.kept) file_is at_is called next_is.side next_is.sequence));
}

-- Appending.

pub one_more_holds : (old new : Disk) (first : ℕ) (was : ℕ → File) (wanted : Option ℕ) (synced records : List Record) (entry : Record) → Keeps old new (OnlyBoth first was (Holds wanted synced records))
    → Keeps old new (OnlyBoth first was (Holds wanted synced (with_one records entry)))
one_more_holds old new first was wanted synced records entry run = weaker old new (OnlyBoth first was (Holds wanted synced records)) (OnlyBoth first was (Holds wanted synced (with_one records entry)))
    (λ files p. (p.0, holds_wider wanted synced synced records (with_one records entry) (files first) (files (first + 1)) (prefix_refl synced) (prefix_push records entry) p.1)) run

-- nothing was done
pub rest_more : (journal : Journal) (entry : Record) (d : Disk) → LosesNoneBehind entry journal d d
rest_more journal entry d = λ wanted synced records told kept fits. one_more_holds d d journal.first_file (now d) wanted synced records entry (rest_holds journal d wanted synced records told kept)

-- the first area was made, and then the record written
pub then_holds : (a b c : Disk) (first then_first : ℕ) (wanted : Option ℕ) (synced records : List Record) (entry : Record) → then_first ≡ first → Keeps a b (OnlyBoth first (now a) (Holds wanted synced records))
    → Keeps b c (OnlyBoth then_first (now b) (Holds wanted synced (with_one records entry))) → Keeps a c (OnlyBoth first (now a) (Holds wanted synced (with_one records entry)))
then_holds a b c first then_first wanted synced records entry same one other =
    let P = OnlyBoth first (now a) (Holds wanted synced (with_one records entry)) in
    let before = (one.each b.calls one.later (omega arith)).0 in
    both a b c P (one_more_holds a b first (now a) wanted synced records entry one)
    (weaker b c (OnlyBoth first (now b) (Holds wanted synced (with_one records entry))) P (λ files p. (λ f n m. p.0 f n m ∙ before f n m, p.1))
    (subst (λ (n : ℕ). Keeps b c (OnlyBoth n (now b) (Holds wanted synced (with_one records entry)))) same other))

-- the frame as it is passed on
pub spells_as : (at prev : ℕ) (entry : Record) (bytes passed : List ℕ) (sum told : ℕ) → Spells at prev entry bytes sum → passed ≡ bytes → told ≡ sum → Spells at prev entry passed told
spells_as at prev entry bytes passed sum told spells same sum_is = record { frame = same ∙ spells.frame; sum_is = sum_is ∙ spells.sum_is }

-- Where the next record goes.

pub goes_behind : (journal : Journal) (it : Area) (records : List Record) → GoesTo journal.area it → IsJournal journal records → IsBehind it records
goes_behind journal it records goes is = of journal.area goes is
  where
    of : (area : Option Area) → GoesTo area it → IsJournalOn area records → IsBehind it records
    of None first none = begin_behind it records first none
    of (Some area) same behind = subst (λ (a : Area). IsBehind a records) same behind

-- what is needed to spell it there
pub goes_fit : (journal : Journal) (it : Area) (entry : Record) → GoesTo journal.area it → Admits journal entry → (records : List Record) × AllFit header_len start records × Fits it.len (after_records records start) entry
goes_fit journal it entry goes admits =
    let behind = goes_behind journal it admits.0 goes admits.1 in
    (admits.0, behind.fit, subst (λ (n : ℕ). Fits n (after_records admits.0 start) entry) (sym behind.len) admits.2)

-- what is needed to write it there
pub goes_next : (journal : Journal) (it : Area) (entry : Record) (bytes : List ℕ) (sum : ℕ) → GoesTo journal.area it → Admits journal entry → Spells it.len it.crc entry bytes sum → IsNextFrame it bytes sum
goes_next journal it entry bytes sum goes admits spells = (admits.0, entry, goes_behind journal it admits.0 goes admits.1, admits.2, spells)

-- the journal's files go on holding what it stands for
pub goes_on_files : (old new : Journal) (before after : Disk) → HasFiles old before → KeepsAll old before new after → after.told ≡ before.told → HasFiles new after
goes_on_files old new before after files keeps same told =
    let was = subst IsTrue same told in
    let kept = files was in
    (kept.0, kept.1, kept.2, keeps kept.0 kept.1 kept.2 was kept.3)

-- where an area is open, the next record goes there
pub goes_there : (area : Option Area) (it that : Area) → area ≡ Some that → GoesTo area it → area ≡ Some it
goes_there None it that none goes = absurd (cc)
goes_there (Some area) it that some same = ap (λ (a : Area). Some a) same

-- where none is open, it goes to the first
pub goes_first : (area : Option Area) (it : Area) → area ≡ None → GoesTo area it → IsFirst it
goes_first None it none first = first
goes_first (Some area) it none same = absurd (cc)
