-- What becomes of an index where a record is taken.
use Rattle.std.proofs.Common.{◌≡◌, ℕ, ◌≤◌, ◌<◌, List, [], ◌∷◌, ◌++◌, Some, None, Bool, true, false, refl, sym, ap, ◌∙◌, arith, subst}
use Rattle.std.specs.Prelude.{Option, is_some, is_none, not, nat_lt, ◌&&◌, IfOk, slice_get}
use Rattle.std.specs.List.{find, filter}
use Rattle.std.proofs.lemmas.Bool.{le-ltb, lt-ltb}
use Rattle.std.specs.declared.alloc.AllocError.{AllocError}
use Rattle.std.specs.declared.result.Result.{Result}
use Rattle.std.proofs.Common.{get_or}
use Rattle.std.proofs.lemmas.Option.{get_or_from_slice_get}
use Rattle.sql_value.specs.declared.value.Value.{Value}
use Rattle.log_tables.specs.declared.table.Definition.{Definition}
use Rattle.log_tables.specs.Tables.{table_named, at_table}
use Rattle.log_tables.specs.declared.gist.Prepared.{Prepared}
use Rattle.log_tables.specs.Changes.{all_apply, after_changes}
use Rattle.log_tables.specs.Gists.{is_prepared, without_xid}
use Rattle.redo_journal.specs.declared.record.Record.{Record}
use Rattle.redo_journal.specs.declared.record.Record.TheVariants.{SnapTable, SnapRow, Prepare, Commit, Rollback}
use Rattle.redo_journal.specs.declared.tables.TableIndex.{TableIndex}
use Rattle.redo_journal.specs.declared.prepared.PreparedIndex.{PreparedIndex}
use Rattle.redo_journal.specs.declared.replay.Replay.{Replay as ReplayIndex}
use Rattle.redo_journal.specs.Replays.{Replay, after_record, committed}
use Rattle.redo_journal.specs.Index.{definition_of, row_of, prepared_of, definition_at, row_at, prepared_at, has_xid_at, adding, can_edit, edited, AreTablesAt, ArePreparedAt, IsPreparedAt, IsReplay, can_commit, is_possible, Becomes}
use Rattle.redo_journal.proofs.IndexLemmas.{zip_append}
use Rattle.redo_journal.proofs.TableLemmas.{becomes, never}
use Rattle.redo_journal.proofs.PreparedLemmas.{FoundFor, prepared_found, prepared_is, prepared_without, prepared_xid}

prepared_same : (records : List Record) (number : ℕ) (same it : Prepared) → Some same ≡ prepared_at records number → prepared_at records number ≡ Some it → same ≡ it
prepared_same records number same it found at = some_same same it (found ∙ at)
  where
    some_same : (x y : Prepared) → Some x ≡ Some y → x ≡ y
    some_same x y e = cc

-- whether a Prepare is possible
pub prepare_possible : (index : ReplayIndex) (records : List Record) (replay : Replay) (number : ℕ) (same it : Prepared) (o : Option ℕ) → IsReplay index records replay → Some same ≡ prepared_at records number
    → prepared_at records number ≡ Some it → o ≡ find (has_xid_at records same.xid) index.prepared.numbers.items → is_some o ≡ is_prepared it.xid replay.gist.prepared
prepare_possible index records replay number same it o is found at looked =
    let one = prepared_same records number same it found at in
    let for_it = looked ∙ ap (λ (p : Prepared). find (has_xid_at records p.xid) index.prepared.numbers.items) one in
    sym (prepared_is records it.xid replay.gist.prepared o (prepared_found records it.xid index.prepared.numbers.items replay.gist.prepared o is.prepared for_it))

-- a Prepare that was taken
pub prepare_taken : (index : ReplayIndex) (records : List Record) (replay : Replay) (number : ℕ) (it : Prepared) (prepared : PreparedIndex) → IsReplay index records replay → prepared_at records number ≡ Some it
    → prepared.numbers.items ≡ index.prepared.numbers.items ++ number ∷ [] → IsReplay (record { tables = index.tables; prepared = prepared; last = index.last; numbered = index.numbered }) records (after_record (Prepare it) replay)
prepare_taken index records replay number it prepared is at added = record {
  tables = is.tables;
  prepared = subst (λ (l : List ℕ). ArePreparedAt records l (replay.gist.prepared ++ it ∷ [])) (sym added)
      (zip_append (IsPreparedAt records) index.prepared.numbers.items replay.gist.prepared (number ∷ []) (it ∷ []) is.prepared (at, tt));
  last = is.last;
  numbered = is.numbered;
}

-- a Rollback that was taken
pub rollback_taken : (index : ReplayIndex) (records : List Record) (replay : Replay) (xid : ℕ) (prepared : PreparedIndex) → IsReplay index records replay
    → prepared.numbers.items ≡ filter (λ number. not (has_xid_at records xid number)) index.prepared.numbers.items
    → IsReplay (record { tables = index.tables; prepared = prepared; last = index.last; numbered = index.numbered }) records (after_record (Rollback xid) replay)
rollback_taken index records replay xid prepared is removed = record {
  tables = is.tables;
  prepared = subst (λ (l : List ℕ). ArePreparedAt records l (without_xid xid replay.gist.prepared)) (sym removed) (prepared_without records xid index.prepared.numbers.items replay.gist.prepared is.prepared);
  last = is.last;
  numbered = is.numbered;
}

-- a Commit of what is not prepared
pub commit_unknown : (P : Type 0) (records : List Record) (replay : Replay) (xid number : ℕ) → FoundFor records xid replay.gist.prepared None → Becomes (is_possible replay (Commit xid number)) P false
commit_unknown P records replay xid number found = (sym (ap (can_commit number replay.gist) found), never)

-- a Commit with a number that is not above the last
pub commit_late : (P : Type 0) (index : ReplayIndex) (records : List Record) (replay : Replay) (xid number at : ℕ) → IsReplay index records replay → FoundFor records xid replay.gist.prepared (Some at) → number ≤ index.last
    → Becomes (is_possible replay (Commit xid number)) P false
commit_late P index records replay xid number at is found late =
    let past : nat_lt replay.gist.last number ≡ false = le-ltb replay.gist.last number (omega (arith, is.last)) in
    (sym (ap (can_commit number replay.gist) found.2 ∙ ap (λ (b : Bool). b && all_apply found.0.changes replay.gist.tables) past), never)

-- whether a Commit with a number above the last is possible
pub commit_possible : (index : ReplayIndex) (records : List Record) (replay : Replay) (xid number at : ℕ) (b : Bool) → IsReplay index records replay → (found : FoundFor records xid replay.gist.prepared (Some at)) → index.last < number
    → b ≡ all_apply found.0.changes replay.gist.tables → b ≡ is_possible replay (Commit xid number)
commit_possible index records replay xid number at b is found above all =
    let later : nat_lt replay.gist.last number ≡ true = lt-ltb replay.gist.last number (omega (arith, is.last)) in
    all ∙ sym (ap (can_commit number replay.gist) found.2 ∙ ap (λ (c : Bool). c && all_apply found.0.changes replay.gist.tables) later)

-- a Commit that was taken
pub commit_taken : (index : ReplayIndex) (records : List Record) (replay : Replay) (xid number at : ℕ) (tables : TableIndex) (prepared : PreparedIndex) → IsReplay index records replay
    → (found : FoundFor records xid replay.gist.prepared (Some at)) → AreTablesAt records tables.tables.items (after_changes found.0.changes replay.gist.tables)
    → prepared.numbers.items ≡ filter (λ n. not (has_xid_at records xid n)) index.prepared.numbers.items
    → IsReplay (record { tables = tables; prepared = prepared; last = number; numbered = true }) records (after_record (Commit xid number) replay)
commit_taken index records replay xid number at tables prepared is found stand removed =
    let without = prepared_without records xid index.prepared.numbers.items replay.gist.prepared is.prepared in
    let stays = subst (λ (x : ℕ). ArePreparedAt records prepared.numbers.items (without_xid x replay.gist.prepared)) (sym (prepared_xid xid replay.gist.prepared found.0 found.2))
    (subst (λ (l : List ℕ). ArePreparedAt records l (without_xid xid replay.gist.prepared)) (sym removed) without) in
    subst (λ (o : Option Prepared). IsReplay (record { tables = tables; prepared = prepared; last = number; numbered = true }) records (record { gist = committed o number replay.gist; numbered = true })) (sym found.2)
    (record { tables = stand; prepared = stays; last = refl; numbered = refl })

-- a record that was taken, or not
abbrev pub Taken : Result Bool AllocError → ReplayIndex → List Record → Replay → Record → Type 0
Taken result index records replay it = IfOk result (Becomes (is_possible replay it) (IsReplay index records (after_record it replay)))

-- the record of an arm is the one at its number
pub arm_same : (records : List Record) (number : ℕ) (it found arm : Record) → slice_get records number ≡ Some it → ((d : Record) → found ≡ get_or records number d) → found ≡ arm → arm ≡ it
arm_same records number it found arm at here is = sym is ∙ here it ∙ get_or_from_slice_get records number it it at

-- what was shown of the record of an arm holds of the record at its number
pub arm_taken : (result : Result Bool AllocError) (index : ReplayIndex) (records : List Record) (replay : Replay) (it arm : Record) → arm ≡ it → Taken result index records replay arm → Taken result index records replay it
arm_taken result index records replay it arm same taken = subst (Taken result index records replay) same taken

pub at_arm : (records : List Record) (number : ℕ) (it arm : Record) → slice_get records number ≡ Some it → arm ≡ it → slice_get records number ≡ Some arm
at_arm records number it arm at same = at ∙ ap Some (sym same)

-- a SnapTable that was taken
pub table_taken : (result : Result Bool AllocError) (index : ReplayIndex) (records : List Record) (replay : Replay) (number : ℕ) (d : Definition) (tables : TableIndex) → IsReplay index records replay
    → slice_get records number ≡ Some (SnapTable d)
    → (definition_at records (record { number = number; change = 0 }) ≡ Some d
    → IfOk result (Becomes (is_none (table_named d.table replay.gist.tables)) (AreTablesAt records tables.tables.items (replay.gist.tables ++ record { definition = d; rows = [] } ∷ []))))
    → Taken result (record { tables = tables; prepared = index.prepared; last = index.last; numbered = index.numbered }) records replay (SnapTable d)
table_taken result index records replay number d tables is at made =
    becomes result (is_possible replay (SnapTable d)) (is_possible replay (SnapTable d)) (AreTablesAt records tables.tables.items (replay.gist.tables ++ record { definition = d; rows = [] } ∷ []))
    (IsReplay (record { tables = tables; prepared = index.prepared; last = index.last; numbered = index.numbered }) records (after_record (SnapTable d) replay)) refl
    (λ possible stand. record { tables = stand; prepared = is.prepared; last = is.last; numbered = is.numbered }) (made (ap (λ o. definition_of o 0) at))

-- a SnapRow that was taken
pub row_taken : (result : Result Bool AllocError) (index : ReplayIndex) (records : List Record) (replay : Replay) (number : ℕ) (table : List ℕ) (row : List Value) (tables : TableIndex) → IsReplay index records replay
    → slice_get records number ≡ Some (SnapRow table row)
    → (row_at records (record { number = number; change = 0 }) ≡ Some row
    → IfOk result (Becomes (can_edit None (adding row) (table_named table replay.gist.tables)) (AreTablesAt records tables.tables.items (at_table table (edited None (adding row)) replay.gist.tables))))
    → Taken result (record { tables = tables; prepared = index.prepared; last = index.last; numbered = index.numbered }) records replay (SnapRow table row)
row_taken result index records replay number table row tables is at made =
    becomes result (is_possible replay (SnapRow table row)) (is_possible replay (SnapRow table row)) (AreTablesAt records tables.tables.items (at_table table (edited None (adding row)) replay.gist.tables))
    (IsReplay (record { tables = tables; prepared = index.prepared; last = index.last; numbered = index.numbered }) records (after_record (SnapRow table row) replay)) refl
    (λ possible stand. record { tables = stand; prepared = is.prepared; last = is.last; numbered = is.numbered }) (made (ap (λ o. row_of o 0) at))

-- the record at the number is a Prepare
pub prepared_here : (records : List Record) (number : ℕ) (it : Prepared) → slice_get records number ≡ Some (Prepare it) → prepared_at records number ≡ Some it
prepared_here records number it at = ap prepared_of at
