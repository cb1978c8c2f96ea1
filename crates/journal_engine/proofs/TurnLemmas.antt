-- One call on the device: a record more, or a sync, and what the engine tells then.
use Rattle.std.proofs.Common.{◌≡◌, ℕ, zero, suc, ◌+◌, ◌<◌, ◌^◌, Option, Some, None, List, [], ◌∷◌, ◌++◌, map, Result, Ok, Err, OnOk, IsTrue, Bool, true, false, refl, sym, ap, subst, ◌∙◌, arith}
use Rattle.std.specs.Prelude.{Contains, All, is_some}
use Rattle.std.specs.Prelude.{slice_index_or}
use Rattle.std.proofs.lemmas.List.Elements.{Contains-append_left}
use Rattle.std.proofs.lemmas.Bool.{false_from_ne_true}
use Rattle.disk_model.specs.File.{File, IsSettled}
use Rattle.disk_model.specs.Disk.{Disk, now, Keeps}
use Rattle.disk_model.proofs.Moments.{started, weaker}
use Rattle.log_tables.specs.declared.gist.Gist.{Gist}
use Rattle.log_tables.specs.Gists.{empty_gist}
use Rattle.redo_journal.specs.declared.record.Record.{Record}
use Rattle.redo_journal.specs.declared.journal.Area.{Area}
use Rattle.redo_journal.specs.declared.journal.Side.{Side}
use Rattle.redo_journal.specs.declared.journal.Side.TheVariants.{First, Second}
use Rattle.redo_journal.specs.declared.journal.Journal.{Journal}
use Rattle.redo_journal.specs.Journals.{Holds, OnlyBoth, file_on, file_beside, IsJournal, IsKeptOn}
use Rattle.redo_journal.specs.Appending.{FitsBehind, with_one, file_with, SettlesFile, KeepsSynced, LosesNone, LosesNoneBehind}
use Rattle.engine_api.specs.declared.fault.Code.{Code}
use Rattle.engine_api.specs.declared.fault.EngineFault.{EngineFault}
use Rattle.engine_api.specs.declared.fault.EngineFault.TheVariants.{Code as code, Device, NotAVolume, Memory}
use Rattle.engine_api.specs.States.{EngineState, begun_state, synced_state}
use Rattle.engine_api.specs.Reads.{EachReads, files_in, OnlyIn}
use Rattle.engine_api.specs.Calls.{IsDevice, IsRefused, GoesOn, AnswersOnly, MayCome, Turns}
use Rattle.journal_engine.specs.Engine.{gist_with, Journaled, kind_of, files_of, gist_of, journal_reading, StandsFor, IsHeld, CanBeSpelt, IsWell}
use Rattle.journal_engine.specs.Writing.{AdmitsIn, HasFilesIn, Puts, Flushes, GoesOnWith, OfBoth, OfJournal, IsEmptied, AreSame}
use Rattle.journal_engine.proofs.RecordLemmas.{gist_more}
use Rattle.journal_engine.proofs.HeldLemmas.{all_read, one_more_read, only_in, held_now, now_held, held_read}

-- An engine with no journal holds nothing.
pub held_journal : (first : ℕ) (journal : Option Journal) (gist : Gist) (files : List File) → IsHeld first journal gist files → journal ≡ None → ⊥
held_journal first None gist files held none = held
held_journal first (Some it) gist files held none = cc

-- the engine's files read as its gist
pub held_reads : (first : ℕ) (journal : Option Journal) (gist : Gist) (d : Disk) → StandsFor first journal gist → IsHeld first journal gist (files_in (files_of first) d)
    → EachReads journal_reading (gist ∷ []) (files_in (files_of first) d)
held_reads first None gist d stands held = absurd held
held_reads first (Some journal) gist d stands held = held_read journal first gist d stands.0 held

-- Reading as one of some gists is reading as one of more.
more_reads : (few more : List Gist) (files : List File) → ((g : Gist) → Contains few g → Contains more g) → EachReads journal_reading few files → EachReads journal_reading more files
more_reads few more files wider reads images faithful = let so = reads images faithful in (so.0, wider so.0 so.1, so.2)

-- A call with no device call.
pub turns_quiet : {T : Type 0} (e : Journaled) (result : Result T EngineFault) (next new : EngineState) (d : Disk) → OnOk result (new ≡ next) → (IsRefused result → new ≡ e.live) → (IsDevice result → ⊥)
    → e.live.kept ≡ e.live.gist ∷ [] → new.kept ≡ e.live.kept → new.gist ≡ e.live.gist → StandsFor e.first_file e.journal e.live.gist
    → (IsTrue d.told → IsHeld e.first_file e.journal e.live.gist (files_in (files_of e.first_file) d))
    → Turns (kind_of e) journal_reading result next e.live new (λ files. IsHeld e.first_file e.journal new.gist files) d d
turns_quiet e result next new d ok refused no_device alone kept same stands held = record {
  ok = ok;
  refused = refused;
  cause = record { told = refl; later = omega arith; no_fewer = omega arith; cause = λ is. absurd (no_device is) };
  moments = λ told. started d (OnlyIn (files_of e.first_file) (now d) (EachReads journal_reading (e.live.kept ++ next.kept)))
      ((λ f not. refl), subst (λ (gs : List Gist). EachReads journal_reading (gs ++ next.kept) (files_in (files_of e.first_file) d)) (sym alone) (more_reads (e.live.gist ∷ []) (e.live.gist ∷ next.kept) (files_in (files_of e.first_file) d) (Contains-append_left (e.live.gist ∷ []) next.kept) (reads told)));
  files = λ told goes. (
    subst (λ (g : Gist). IsHeld e.first_file e.journal g (files_in (files_of e.first_file) d)) (sym same) (held told),
    subst (λ (gs : List Gist). EachReads journal_reading gs (files_in (files_of e.first_file) d)) (sym (kept ∙ alone)) (reads told),
  );
}
  where
    reads : IsTrue d.told → EachReads journal_reading (e.live.gist ∷ []) (files_in (files_of e.first_file) d)
    reads told = held_reads e.first_file e.journal e.live.gist d stands (held told)

-- One record more.

-- the record fits behind all that the journal may stand for
abbrev pub FitsIn : Option Journal → Gist → Record → Type 0
FitsIn None gist it = Unit {0}
FitsIn (Some journal) gist it = (records : List Record) → IsJournal journal records → gist_of records ≡ gist → FitsBehind records it

-- where the engine has something, it has a journal
pub journal_there : (first : ℕ) (journal : Option Journal) (gist : Gist) → StandsFor first journal gist → (gist ≡ empty_gist → ⊥) → journal ≡ None → ⊥
journal_there first None gist stands some none = some stands
journal_there first (Some it) gist stands some none = cc

pub put_admits : (first : ℕ) (journal : Option Journal) (gist : Gist) (it : Record) → StandsFor first journal gist → FitsIn journal gist it → (journal ≡ None → ⊥) → AdmitsIn journal it
put_admits first None gist it stands fits there = there refl
put_admits first (Some journal) gist it stands fits there = (stands.1.0, stands.1.1, fits stands.1.0 stands.1.1 stands.1.2)

pub put_files : (first : ℕ) (journal : Option Journal) (gist : Gist) (d : Disk) → StandsFor first journal gist → (IsTrue d.told → IsHeld first journal gist (files_in (files_of first) d)) → (journal ≡ None → ⊥) → HasFilesIn journal d
put_files first None gist d stands held there = there refl
put_files first (Some journal) gist d stands held there = λ told. let is = held_now journal first gist d stands.0 (held told) in (None, is.0, is.0, is.1)

put_moments : (first : ℕ) (was : Option Journal) (gist : Gist) (it : Record) (before after : Disk) → StandsFor first was gist → FitsIn was gist it → IsTrue before.told → IsHeld first was gist (files_in (files_of first) before)
    → OfJournal (λ old. LosesNoneBehind it old before after) was → Keeps before after (OnlyIn (files_of first) (now before) (EachReads journal_reading (gist ∷ gist_with it gist ∷ [])))
put_moments first None gist it before after stands fits told held loses = absurd held
put_moments first (Some journal) gist it before after stands fits told held loses =
    let is = held_now journal first gist before stands.0 held in
    let keeps = loses None is.0 is.0 told is.1 (fits is.0 is.1.is is.2) in
    only_in first before after (Holds None is.0 (with_one is.0 it)) (EachReads journal_reading (gist ∷ gist_with it gist ∷ [])) (λ one other holds. one_more_read is.0 it gist one other is.2 holds)
    (subst (λ (n : ℕ). Keeps before after (OnlyBoth n (now before) (Holds None is.0 (with_one is.0 it)))) stands.0 keeps)

put_held : (first : ℕ) (was is : Option Journal) (gist : Gist) (it : Record) (before after : Disk) → StandsFor first was gist → FitsIn was gist it → IsTrue before.told → IsHeld first was gist (files_in (files_of first) before)
    → OfBoth (GoesOnWith it before after) was is → IsHeld first is (gist_with it gist) (files_in (files_of first) after)
put_held first None is gist it before after stands fits told held more = absurd held
put_held first (Some old) None gist it before after stands fits told held more = absurd more
put_held first (Some old) (Some new) gist it before after stands fits told held more =
    let has = held_now old first gist before stands.0 held in
    now_held new (with_one has.0 it) first (gist_with it gist) after (more.2 None has.0 has.0 told has.1 (fits has.0 has.1.is has.2)) (gist_more has.0 it gist has.2)

-- the journal then stands for the gist with one record more
pub put_stands : (first : ℕ) (was is : Option Journal) (gist : Gist) (it : Record) (before after : Disk) → StandsFor first was gist → FitsIn was gist it → OfBoth (GoesOnWith it before after) was is
    → StandsFor first is (gist_with it gist)
put_stands first None None gist it before after stands fits more = absurd more
put_stands first None (Some new) gist it before after stands fits more = absurd more
put_stands first (Some old) None gist it before after stands fits more = absurd more
put_stands first (Some old) (Some new) gist it before after stands fits more =
    (more.0 ∙ stands.0, (with_one stands.1.0 it, more.1 stands.1.0 stands.1.1 (fits stands.1.0 stands.1.1 stands.1.2), gist_more stands.1.0 it gist stands.1.2))

module _ (e : Journaled) (it : Record) (is : Option Journal) (mid next : EngineState) (before after : Disk)
    (stands : StandsFor e.first_file e.journal e.live.gist) (fits : FitsIn e.journal e.live.gist it) (held : IsTrue before.told → IsHeld e.first_file e.journal e.live.gist (files_in (files_of e.first_file) before))
    (alone : e.live.kept ≡ e.live.gist ∷ []) (next_alone : next.kept ≡ next.gist ∷ []) (next_is : next.gist ≡ gist_with it e.live.gist) where
  both_kept : e.live.gist ∷ gist_with it e.live.gist ∷ [] ≡ e.live.kept ++ next.kept
  both_kept = ap (λ (g : Gist). e.live.gist ∷ g ∷ []) (sym next_is) ∙ ap (λ (gs : List Gist). e.live.gist ∷ gs) (sym next_alone) ∙ ap (λ (gs : List Gist). gs ++ next.kept) (sym alone)

  moments : (result : Result (Unit {0}) EngineFault) → Puts it result e.journal is e.live mid before after → IsTrue before.told
      → Keeps before after (OnlyIn (files_of e.first_file) (now before) (EachReads journal_reading (e.live.kept ++ next.kept)))
  moments result puts told = subst (λ (gs : List Gist). Keeps before after (OnlyIn (files_of e.first_file) (now before) (EachReads journal_reading gs))) both_kept
      (put_moments e.first_file e.journal e.live.gist it before after stands fits told (held told) puts.moments)

  -- it was written
  pub turns_put : (v : Unit {0}) (new : EngineState) → Puts it (Ok v) e.journal is e.live mid before after → new ≡ next
      → Turns {T = Unit {0}} (kind_of e) journal_reading (Ok tt) next e.live new (λ files. IsHeld e.first_file is new.gist files) before after
  turns_put v new puts new_is = subst (λ (s : EngineState). Turns {T = Unit {0}} (kind_of e) journal_reading (Ok tt) next e.live s (λ files. IsHeld e.first_file is s.gist files) before after) (sym new_is) (record {
    ok = refl;
    refused = λ refused. absurd refused;
    cause = record { told = puts.cause.told; later = puts.cause.later; no_fewer = puts.cause.no_fewer; cause = λ device. let e = device in cc };
    moments = moments (Ok v) puts;
    files = λ told goes.
        let holds = subst (λ (g : Gist). IsHeld e.first_file is g (files_in (files_of e.first_file) after)) (sym next_is) (put_held e.first_file e.journal is e.live.gist it before after stands fits told (held told) puts.more) in
        let so = subst (λ (g : Gist). StandsFor e.first_file is g) (sym next_is) (put_stands e.first_file e.journal is e.live.gist it before after stands fits puts.more) in
        (holds, subst (λ (gs : List Gist). EachReads journal_reading gs (files_in (files_of e.first_file) after)) (sym next_alone) (held_reads e.first_file is next.gist after so holds));
  })

  -- it was not
  pub turns_not_put : (fault : EngineFault) → Puts it (Err fault) e.journal is e.live mid before after
      → Turns {T = Unit {0}} (kind_of e) journal_reading (Err fault) next e.live mid (λ files. IsHeld e.first_file is mid.gist files) before after
  turns_not_put fault puts = record {
    ok = tt;
    refused = λ refused. (puts.refused refused).0.1;
    cause = puts.cause;
    moments = moments (Err fault) puts;
    files = λ told goes. stays (puts.refused (goes_refused fault goes)) told;
  }
    where
      goes_refused : (f : EngineFault) → GoesOn {T = Unit {0}} (Err f) → IsRefused {T = Unit {0}} (Err f)
      goes_refused (code c) goes = tt
      goes_refused Device goes = absurd goes
      goes_refused (NotAVolume f) goes = tt
      goes_refused Memory goes = tt

      stays : ((is ≡ e.journal) × (mid ≡ e.live)) × (after ≡ before) → IsTrue before.told
          → IsHeld e.first_file is mid.gist (files_in (files_of e.first_file) after) × EachReads journal_reading mid.kept (files_in (files_of e.first_file) after)
      stays same told =
          let reads = subst (λ (gs : List Gist). EachReads journal_reading gs (files_in (files_of e.first_file) before)) (sym alone) (held_reads e.first_file e.journal e.live.gist before stands (held told)) in
          subst (λ (d : Disk). IsHeld e.first_file is mid.gist (files_in (files_of e.first_file) d) × EachReads journal_reading mid.kept (files_in (files_of e.first_file) d)) (sym same.1)
          (subst (λ (s : EngineState). IsHeld e.first_file is s.gist (files_in (files_of e.first_file) before) × EachReads journal_reading s.kept (files_in (files_of e.first_file) before)) (sym same.0.1)
          (subst (λ (j : Option Journal). IsHeld e.first_file j e.live.gist (files_in (files_of e.first_file) before) × EachReads journal_reading e.live.kept (files_in (files_of e.first_file) before)) (sym same.0.0) (held told, reads)))

-- What is always so, with nothing in memory.
emptied_well : (first : ℕ) (is : Option Journal) (state : EngineState) → first + 1 < 2 ^ 32 → IsEmptied is state → IsWell first is state
emptied_well first is state small emptied = subst (λ (s : EngineState). IsWell first is s) (sym emptied.1) (subst (λ (j : Option Journal). IsWell first j (begun_state empty_gist)) (sym emptied.0)
    (record { files_fit = small; stands = refl; alone = refl; spelt = record { tables = tt; prepared = tt; pending = tt } }))

same_well : (first : ℕ) (was is : Option Journal) (old new : EngineState) → IsWell first was old → (is ≡ was) × (new ≡ old) → IsWell first is new
same_well first was is old new well same = subst (λ (s : EngineState). IsWell first is s) (sym same.1) (subst (λ (j : Option Journal). IsWell first j old) (sym same.0) well)

-- a fault is one of the device, or a refusal
device_or_not : (P : Type 0) (fault : EngineFault) → (IsDevice {T = Unit {0}} (Err fault) → P) → (IsRefused {T = Unit {0}} (Err fault) → P) → P
device_or_not P (code c) device refused = refused tt
device_or_not P Device device refused = device refl
device_or_not P (NotAVolume f) device refused = refused tt
device_or_not P Memory device refused = refused tt

pub not_put_well : (first : ℕ) (it : Record) (fault : EngineFault) (was is : Option Journal) (old mid : EngineState) (before after : Disk) → IsWell first was old → Puts it (Err fault) was is old mid before after → IsWell first is mid
not_put_well first it fault was is old mid before after well puts =
    device_or_not (IsWell first is mid) fault (λ device. emptied_well first is mid well.files_fit (puts.emptied device)) (λ refused. same_well first was is old mid well (puts.refused refused).0)

pub put_well : (first : ℕ) (it : Record) (v : Unit {0}) (was is : Option Journal) (old mid new : EngineState) (before after : Disk) → IsWell first was old → FitsIn was old.gist it → Puts it (Ok v) was is old mid before after
    → new.gist ≡ gist_with it old.gist → new.kept ≡ new.gist ∷ [] → CanBeSpelt new → IsWell first is new
put_well first it v was is old mid new before after well fits puts gist_is alone spelt = record {
  files_fit = well.files_fit;
  stands = subst (λ (g : Gist). StandsFor first is g) (sym gist_is) (put_stands first was is old.gist it before after well.stands fits puts.more);
  alone = alone;
  spelt = spelt;
}

-- no other fault is answered
pub no_more_answers : (codes : List Code) (files : List ℕ) (told : Bool) (result : Result (Unit {0}) EngineFault) → AnswersOnly [] [] true result → AnswersOnly codes files told result
no_more_answers codes files told result answers fault is = wider fault (answers fault is)
  where
    wider : (f : EngineFault) → MayCome [] [] true f → MayCome codes files told f
    wider (code it) may = none may
      where
        none : (k : ℕ) × (k < 0) × (slice_index_or [] k it ≡ it) → MayCome codes files told (code it)
        none (k, lt, e) = absurd (let below : k < 0 = lt in omega (arith, below))
    wider Device may = tt
    wider (NotAVolume file) may = absurd may
    wider Memory may = memory files
      where
        memory : (fs : List ℕ) → MayCome codes fs told Memory
        memory [] = tt
        memory (f ∷ fs) = tt

-- A sync.

flush_moments : (first : ℕ) (was : Option Journal) (gist : Gist) (before after : Disk) → StandsFor first was gist → IsTrue before.told → IsHeld first was gist (files_in (files_of first) before)
    → OfJournal (λ journal. LosesNone journal before after) was → Keeps before after (OnlyIn (files_of first) (now before) (EachReads journal_reading (gist ∷ [])))
flush_moments first None gist before after stands told held loses = absurd held
flush_moments first (Some journal) gist before after stands told held loses =
    let is = held_now journal first gist before stands.0 held in
    let keeps = loses None is.0 is.0 told is.1 in
    only_in first before after (Holds None is.0 is.0) (EachReads journal_reading (gist ∷ [])) (λ one other holds. all_read is.0 gist one other is.2 holds)
    (subst (λ (n : ℕ). Keeps before after (OnlyBoth n (now before) (Holds None is.0 is.0))) stands.0 keeps)

-- The engine's turn: the journal was synced, or there is none.
pub turns_flush : (e : Journaled) (result : Result (Unit {0}) EngineFault) (is : Option Journal) (mid : EngineState) (before after : Disk) → IsWell e.first_file e.journal e.live
    → (IsTrue before.told → IsHeld e.first_file e.journal e.live.gist (files_in (files_of e.first_file) before)) → Flushes e.first_file result e.journal is e.live mid before after
    → Turns {T = Unit {0}} (kind_of e) journal_reading result (synced_state e.live) e.live mid (λ files. IsHeld e.first_file is mid.gist files) before after
turns_flush e result is mid before after well held flushes = record {
  ok = ok result flushes.same;
  refused = λ refused. (flushes.refused refused).0.1;
  cause = flushes.cause;
  moments = λ told. subst (λ (gs : List Gist). Keeps before after (OnlyIn (files_of e.first_file) (now before) (EachReads journal_reading (gs ++ e.live.gist ∷ [])))) (sym well.alone)
      (twice (flush_moments e.first_file e.journal e.live.gist before after well.stands told (held told) flushes.moments));
  files = λ told goes. files result refl flushes told goes;
}
  where
    ok : (r : Result (Unit {0}) EngineFault) → OnOk r (AreSame e.journal is e.live mid) → OnOk r (mid ≡ synced_state e.live)
    ok (Ok v) same = same.1 ∙ ap (λ (gs : List Gist). record { gist = e.live.gist; pending = e.live.pending; kept = gs }) well.alone
    ok (Err f) same = tt

    twice : Keeps before after (OnlyIn (files_of e.first_file) (now before) (EachReads journal_reading (e.live.gist ∷ [])))
        → Keeps before after (OnlyIn (files_of e.first_file) (now before) (EachReads journal_reading (e.live.gist ∷ e.live.gist ∷ [])))
    twice run = weaker before after (OnlyIn (files_of e.first_file) (now before) (EachReads journal_reading (e.live.gist ∷ []))) (OnlyIn (files_of e.first_file) (now before) (EachReads journal_reading (e.live.gist ∷ e.live.gist ∷ [])))
        (λ files p. (p.0, more_reads (e.live.gist ∷ []) (e.live.gist ∷ e.live.gist ∷ []) (map files (files_of e.first_file)) (Contains-append_left (e.live.gist ∷ []) (e.live.gist ∷ [])) p.1)) run

    synced : (first : ℕ) (was : Option Journal) (gist : Gist) → StandsFor first was gist → IsTrue before.told → IsHeld first was gist (files_in (files_of first) before) → OfJournal (λ journal. KeepsSynced journal before journal after) was
        → IsHeld first was gist (files_in (files_of first) after)
    synced first None gist stands told h keeps = absurd h
    synced first (Some journal) gist stands told h keeps =
        let has = held_now journal first gist before stands.0 h in
        now_held journal has.0 first gist after (keeps None has.0 has.0 told has.1) has.2

    of_ok : (was : Option Journal) (v : Unit {0}) → (r : Result (Unit {0}) EngineFault) → r ≡ Ok v → OfJournal (λ journal. OnOk r (KeepsSynced journal before journal after)) was → OfJournal (λ journal. KeepsSynced journal before journal after) was
    of_ok None v r is h = tt
    of_ok (Some journal) v (Ok w) is h = h
    of_ok (Some journal) v (Err f) is h = absurd (let e = is in cc)

    both : IsHeld e.first_file is mid.gist (files_in (files_of e.first_file) after) → (is ≡ e.journal) × (mid ≡ e.live)
        → IsHeld e.first_file is mid.gist (files_in (files_of e.first_file) after) × EachReads journal_reading mid.kept (files_in (files_of e.first_file) after)
    both holds same =
        let stands = (same_well e.first_file e.journal is e.live mid well same) in
        (holds, subst (λ (gs : List Gist). EachReads journal_reading gs (files_in (files_of e.first_file) after)) (sym stands.alone) (held_reads e.first_file is mid.gist after stands.stands holds))

    moved : (is ≡ e.journal) × (mid ≡ e.live) → IsHeld e.first_file e.journal e.live.gist (files_in (files_of e.first_file) after) → IsHeld e.first_file is mid.gist (files_in (files_of e.first_file) after)
    moved same holds = subst (λ (s : EngineState). IsHeld e.first_file is s.gist (files_in (files_of e.first_file) after)) (sym same.1) (subst (λ (j : Option Journal). IsHeld e.first_file j e.live.gist (files_in (files_of e.first_file) after)) (sym same.0) holds)

    files : (r : Result (Unit {0}) EngineFault) → result ≡ r → Flushes e.first_file r e.journal is e.live mid before after → IsTrue before.told → GoesOn r
        → IsHeld e.first_file is mid.gist (files_in (files_of e.first_file) after) × EachReads journal_reading mid.kept (files_in (files_of e.first_file) after)
    files (Ok v) same it told goes = both (moved it.same (synced e.first_file e.journal e.live.gist well.stands told (held told) (of_ok e.journal v (Ok v) refl it.synced))) it.same
    files (Err Device) same it told goes = absurd goes
    files (Err (code c)) same it told goes = absurd (held_journal e.first_file e.journal e.live.gist (files_in (files_of e.first_file) before) (held told) (it.refused tt).2)
    files (Err (NotAVolume f)) same it told goes = absurd (held_journal e.first_file e.journal e.live.gist (files_in (files_of e.first_file) before) (held told) (it.refused tt).2)
    files (Err Memory) same it told goes = absurd (held_journal e.first_file e.journal e.live.gist (files_in (files_of e.first_file) before) (held told) (it.refused tt).2)

-- That a file is none comes only where there is no journal, and so where contents are not told.
pub flush_answers : (e : Journaled) (result : Result (Unit {0}) EngineFault) (is : Option Journal) (mid : EngineState) (before after : Disk) → (IsTrue before.told → IsHeld e.first_file e.journal e.live.gist (files_in (files_of e.first_file) before))
    → Flushes e.first_file result e.journal is e.live mid before after → AnswersOnly [] (files_of e.first_file) before.told result
flush_answers e result is mid before after held flushes fault answer = of fault answer (flushes.answers fault answer)
  where
    of : (f : EngineFault) → result ≡ Err f → MayCome [] (e.first_file ∷ []) false f → MayCome [] (files_of e.first_file) before.told f
    of (code c) said may = may
    of Device said may = tt
    of (NotAVolume n) said may =
        let none = (flushes.refused (subst (λ (r : Result (Unit {0}) EngineFault). IsRefused r) (sym said) tt)).2 in
        (false_from_ne_true before.told (λ told. held_journal e.first_file e.journal e.live.gist (files_in (files_of e.first_file) before) (held told) none), may.1)
    of Memory said may = tt

-- After a sync nothing is pending in the engine's files.
settled_on : (area : Option Area) (records : List Record) (first : ℕ) (d : Disk) → IsKeptOn area None records records first (now d) → (is_some area ≡ true → IsSettled (now d (file_with area first))) → IsSettled (now d first) × IsSettled (now d (first + 1))
settled_on None records first d kept there = (kept.0.first_settled, kept.0.second_settled)
settled_on (Some area) records first d kept there = of area.side kept.beside (there refl)
  where
    of : (side : Side) → IsSettled (now d (file_beside side first)) → IsSettled (now d (file_on side first)) → IsSettled (now d first) × IsSettled (now d (first + 1))
    of First beside here = (here, beside)
    of Second beside here = (beside, here)

pair_all : (P : File → Type 0) (a b : File) → P a → P b → All P (a ∷ b ∷ [])
pair_all P a b of_a of_b zero d lt = of_a
pair_all P a b of_a of_b (suc zero) d lt = of_b
pair_all P a b of_a of_b (suc (suc k)) d lt = absurd (let below : suc (suc k) < 2 = lt in omega (arith, below))

settled_held : (first : ℕ) (journal : Option Journal) (gist : Gist) (d : Disk) → StandsFor first journal gist → IsTrue d.told → IsHeld first journal gist (files_in (files_of first) d) → OfJournal (λ j. SettlesFile j d) journal → All IsSettled (files_in (files_of first) d)
settled_held first None gist d stands told held settles = absurd held
settled_held first (Some journal) gist d stands told held settles =
    let is = held_now journal first gist d stands.0 held in
    let both = subst (λ (n : ℕ). IsSettled (now d n) × IsSettled (now d (n + 1))) stands.0 (settled_on journal.area is.0 journal.first_file d is.1.kept (settles told)) in
    pair_all IsSettled (now d first) (now d (first + 1)) both.0 both.1

pub flush_settles : (e : Journaled) (result : Result (Unit {0}) EngineFault) (is : Option Journal) (mid : EngineState) (before after : Disk) → IsWell e.first_file e.journal e.live
    → (IsTrue before.told → IsHeld e.first_file e.journal e.live.gist (files_in (files_of e.first_file) before)) → Flushes e.first_file result e.journal is e.live mid before after
    → IsTrue before.told → OnOk result (All IsSettled (files_in (files_of e.first_file) after))
flush_settles e (Err f) is mid before after well held flushes told = tt
flush_settles e (Ok v) is mid before after well held flushes told =
    let turns = turns_flush e (Ok v) is mid before after well held flushes in
    let holds = (turns.files told tt).0 in
    let back = subst (λ (s : EngineState). IsHeld e.first_file e.journal s.gist (files_in (files_of e.first_file) after)) flushes.same.1 (subst (λ (j : Option Journal). IsHeld e.first_file j mid.gist (files_in (files_of e.first_file) after)) flushes.same.0 holds) in
    settled_held e.first_file e.journal e.live.gist after well.stands (subst IsTrue (sym flushes.cause.told) told) back flushes.settled
