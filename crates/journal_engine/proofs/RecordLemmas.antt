-- One record more: the gist behind it, and that it fits.
use Rattle.std.proofs.Common.{◌≡◌, ◌⊎◌, inl, inr, ℕ, ◌+◌, ◌*◌, ◌≤◌, ◌<◌, ◌^◌, List, [], ◌∷◌, ◌++◌, length, length-append, Option, Some, None, true, not, is_some, refl, sym, ap, subst, ◌∙◌, arith}
use Rattle.std.proofs.lemmas.Bool.Decides.{Decides-eqb}
use Rattle.frame_codec.specs.Bytes.{le64}
use Rattle.frame_codec.specs.Frame.{limit}
use Rattle.frame_codec.proofs.FrameLemmas.{length-le64}
use Rattle.framed_file.specs.Framed.{IsPrefix, header_len}
use Rattle.log_tables.specs.declared.gist.Prepared.{Prepared}
use Rattle.log_tables.specs.declared.gist.Gist.{Gist}
use Rattle.log_tables.specs.Changes.{all_apply}
use Rattle.log_tables.specs.Gists.{has_xid, prepared_with, is_prepared, without_xid, after_commit}
use Rattle.log_tables.proofs.PartLemmas.{cases, cond_true, cond_false}
use Rattle.redo_journal.specs.declared.record.Record.{Record}
use Rattle.redo_journal.specs.declared.record.Record.TheVariants.{SnapTable, SnapRow, SnapLast, Prepare, Commit, Rollback}
use Rattle.redo_journal.specs.declared.journal.Area.{Area}
use Rattle.redo_journal.specs.Replays.{Replay, start, after_record, after_records, end_behind, end_of_records, commit_size, AllFit, CanCommit, committed}
use Rattle.redo_journal.specs.Journals.{IsJournalOn}
use Rattle.redo_journal.specs.Appending.{FitsBehind, with_one}
use Rattle.redo_journal.proofs.WalkLemmas.{after_records-append}
use Rattle.journal_engine.specs.Engine.{gist_of, gist_with, end_on}

pub gist_record : (it : Record) (replay : Replay) (gist : Gist) → replay.gist ≡ gist → (after_record it replay).gist ≡ gist_with it gist
gist_record (SnapTable it) replay gist is = ap (λ (g : Gist). gist_with (SnapTable it) g) is
gist_record (SnapRow table row) replay gist is = ap (λ (g : Gist). gist_with (SnapRow table row) g) is
gist_record (SnapLast number) replay gist is = ap (λ (g : Gist). gist_with (SnapLast number) g) is
gist_record (Prepare it) replay gist is = ap (λ (g : Gist). gist_with (Prepare it) g) is
gist_record (Commit xid number) replay gist is = ap (λ (g : Gist). gist_with (Commit xid number) g) is
gist_record (Rollback xid) replay gist is = ap (λ (g : Gist). gist_with (Rollback xid) g) is

pub gist_more : (records : List Record) (it : Record) (gist : Gist) → gist_of records ≡ gist → gist_of (with_one records it) ≡ gist_with it gist
gist_more records it gist is = ap (λ (r : Replay). r.gist) (after_records-append records (it ∷ []) start) ∙ gist_record it (after_records records start) gist is

-- Behind records there is room for a Commit of each transaction that is prepared.
room_behind : (at : ℕ) (replay : Replay) (records : List Record) → AllFit at replay records → at + commit_size * length replay.gist.prepared ≤ limit
    → end_of_records at records + commit_size * length (after_records records replay).gist.prepared ≤ limit
room_behind at replay [] fit room = room
room_behind at replay (it ∷ rest) fit room = room_behind (end_behind at it) (after_record it replay) rest fit.1 fit.0.room

pub room_on : (area : Option Area) (records : List Record) → IsJournalOn area records → end_of_records header_len records + commit_size * length (gist_of records).prepared ≤ limit
room_on None records none = subst (λ (l : List Record). end_of_records header_len l + commit_size * length (gist_of l).prepared ≤ limit) (sym none) (omega arith)
room_on (Some area) records behind = room_behind header_len start records behind.fit (omega arith)

-- where the next record goes
pub ends_on : (area : Option Area) (records : List Record) → IsJournalOn area records → end_on area ≡ end_of_records header_len records
ends_on None records none = ap (λ (l : List Record). end_of_records header_len l) (sym none)
ends_on (Some area) records behind = behind.len

-- what is found under an xid has it
pub found_has : (xid : ℕ) (ps : List Prepared) (it : Prepared) → prepared_with xid ps ≡ Some it → it.xid ≡ xid
found_has xid [] it found = cc
found_has xid (p ∷ ps) it found = elim (cases (has_xid xid p)) [
  | inl own ↦
      let same : Some p ≡ Some it = sym (cond_true (has_xid xid p) (Some p) (prepared_with xid ps) own) ∙ found in
      let is : p ≡ it = cc in
      ap (λ (q : Prepared). q.xid) (sym is) ∙ (Decides-eqb p.xid xid).0 own
  | inr other ↦ found_has xid ps it (sym (cond_false (has_xid xid p) (Some p) (prepared_with xid ps) other) ∙ found)
]

no_more : (xid : ℕ) (ps : List Prepared) → length (without_xid xid ps) ≤ length ps
no_more xid [] = omega arith
no_more xid (p ∷ ps) = elim (cases (has_xid xid p)) [
  | inl own ↦ let out = ap length (cond_false (not (has_xid xid p)) (p ∷ without_xid xid ps) (without_xid xid ps) (ap not own)) in omega (arith, out, no_more xid ps)
  | inr other ↦ let «in» = ap length (cond_true (not (has_xid xid p)) (p ∷ without_xid xid ps) (without_xid xid ps) (ap not other)) in omega (arith, «in», no_more xid ps)
]

-- without an xid that is prepared there is one less
pub one_less : (xid : ℕ) (ps : List Prepared) → is_prepared xid ps ≡ true → length (without_xid xid ps) + 1 ≤ length ps
one_less xid [] is = absurd (cc)
one_less xid (p ∷ ps) is = elim (cases (has_xid xid p)) [
  | inl own ↦ let out = ap length (cond_false (not (has_xid xid p)) (p ∷ without_xid xid ps) (without_xid xid ps) (ap not own)) in omega (arith, out, no_more xid ps)
  | inr other ↦
      let kept = ap length (cond_true (not (has_xid xid p)) (p ∷ without_xid xid ps) (without_xid xid ps) (ap not other)) in
      let rest = one_less xid ps (sym (ap is_some (cond_false (has_xid xid p) (Some p) (prepared_with xid ps) other)) ∙ is) in
      omega (arith, kept, rest)
]

-- A Rollback of what is prepared fits.
pub fits_rollback : (area : Option Area) (records : List Record) (gist : Gist) (xid : ℕ) → IsJournalOn area records → gist_of records ≡ gist → is_prepared xid gist.prepared ≡ true → xid < 2 ^ 64
    → FitsBehind records (Rollback xid)
fits_rollback area records gist xid on is prepared small =
    let there : is_prepared xid (gist_of records).prepared ≡ true = subst (λ (g : Gist). is_prepared xid g.prepared ≡ true) (sym is) prepared in
    record {
      allowed = (small, there);
      room = omega (arith, room_on area records on, one_less xid (gist_of records).prepared there, length-le64 xid);
    }

can_commit : (number : ℕ) (gist : Gist) (o : Option Prepared) (it : Prepared) → o ≡ Some it → gist.last < number → number < 2 ^ 64 → all_apply it.changes gist.tables ≡ true → CanCommit number gist o
can_commit number gist o it is later small fit = subst (λ (p : Option Prepared). CanCommit number gist p) (sym is) (later, small, fit)

-- the gist after the Commit of what was found prepared
pub commit_gives : (xid number : ℕ) (it : Prepared) (gist : Gist) → prepared_with xid gist.prepared ≡ Some it → gist_with (Commit xid number) gist ≡ after_commit it number gist
commit_gives xid number it gist found = ap (λ (o : Option Prepared). committed o number gist) found

-- A Commit of what is prepared fits, where its number is above the last one and its changes apply.
pub fits_commit : (area : Option Area) (records : List Record) (gist : Gist) (xid number : ℕ) (it : Prepared) → IsJournalOn area records → gist_of records ≡ gist → prepared_with xid gist.prepared ≡ Some it
    → gist.last < number → all_apply it.changes gist.tables ≡ true → xid < 2 ^ 64 → number < 2 ^ 64 → FitsBehind records (Commit xid number)
fits_commit area records gist xid number it on is found later fit small_xid small =
    let there : prepared_with xid (gist_of records).prepared ≡ Some it = subst (λ (g : Gist). prepared_with xid g.prepared ≡ Some it) (sym is) found in
    let own = found_has xid gist.prepared it found in
    let prepared : is_prepared it.xid (gist_of records).prepared ≡ true = subst (λ (n : ℕ). is_prepared n (gist_of records).prepared ≡ true) (sym own) (ap is_some there) in
    let less = one_less it.xid (gist_of records).prepared prepared in
    let after = ap (λ (g : Gist). length g.prepared) (gist_record (Commit xid number) (after_records records start) (gist_of records) refl ∙ commit_gives xid number it (gist_of records) there) in
    record {
      allowed = (small_xid, can_commit number (gist_of records) (prepared_with xid (gist_of records).prepared) it there (subst (λ (g : Gist). g.last < number) (sym is) later) small (subst (λ (g : Gist). all_apply it.changes g.tables ≡ true) (sym is) fit));
      room = omega (arith, room_on area records on, less, after, length-le64 xid, length-le64 number, length-append (le64 xid) (le64 number));
    }

-- one element alone is the first of a list that is a first part of it
one_only : (it x : Record) (xs rest : List Record) → it ∷ [] ≡ x ∷ (xs ++ rest) → (x ∷ xs ≡ []) ⊎ (x ∷ xs ≡ it ∷ [])
one_only it x [] rest e = inr (cc)
one_only it x (y ∷ ys) rest e = cc

-- A list between another and that one with one element more is one of the two.
pub between : (low : List Record) (it : Record) (r : List Record) → IsPrefix low r → IsPrefix r (with_one low it) → (r ≡ low) ⊎ (r ≡ with_one low it)
between [] it [] first second = inl refl
between [] it (x ∷ xs) first second = let e = second.1 in one_only it x xs second.0 e
between (x ∷ low) it [] first second = let e = first.1 in cc
between (x ∷ low) it (y ∷ r) first second =
    let e = first.1 in
    let f = second.1 in
    let same : y ≡ x = cc in
    let more : r ≡ low ++ first.0 = cc in
    let less : with_one low it ≡ r ++ second.0 = cc in
    elim (between low it r (first.0, more) (second.0, less)) [
      | inl is ↦ inl (cc)
      | inr is ↦ inr (cc)
    ]

-- two lists are one where each is a first part of the other
pub prefixes_one : (xs ys : List Record) → IsPrefix xs ys → IsPrefix ys xs → ys ≡ xs
prefixes_one [] [] first second = refl
prefixes_one [] (y ∷ ys) first second = let e = second.1 in cc
prefixes_one (x ∷ xs) [] first second = let e = first.1 in cc
prefixes_one (x ∷ xs) (y ∷ ys) first second =
    let e = first.1 in
    let f = second.1 in
    let same : y ≡ x = cc in
    let more : ys ≡ xs ++ first.0 = cc in
    let less : xs ≡ ys ++ second.0 = cc in
    let rest = prefixes_one xs ys (first.0, more) (second.0, less) in
    cc
