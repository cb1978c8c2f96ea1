-- Records read back.
use Rattle.std.proofs.Common.{◌≡◌, ℕ, Option, Some, None, List, [], ◌∷◌, ◌++◌, true, false, is_some, refl, sym, ap, subst, ◌∙◌, inl, inr}
use Rattle.std.specs.Prelude.{is_none}
use Rattle.std.specs.List.{list_any}
use Rattle.sql_value.specs.declared.value.Value.{Value}
use Rattle.row_format.specs.Schemas.{IsSchema}
use Rattle.log_tables.specs.declared.table.Definition.{Definition}
use Rattle.log_tables.specs.declared.table.Table.{Table}
use Rattle.log_tables.specs.declared.gist.Prepared.{Prepared}
use Rattle.log_tables.specs.declared.gist.Gist.{Gist}
use Rattle.log_tables.specs.Tables.{is_named, table_named, at_table, new_table}
use Rattle.log_tables.specs.Keys.{inserted}
use Rattle.log_tables.specs.Changes.{all_apply}
use Rattle.log_tables.specs.Gists.{prepared_with, is_prepared, after_commit, after_rollback}
use Rattle.log_tables.proofs.PartLemmas.{cases, cond_true, cond_false}
use Rattle.framed_file.specs.Framed.{header_len}
use Rattle.redo_journal.specs.declared.record.Record.{Record}
use Rattle.redo_journal.specs.declared.record.Record.TheVariants.{SnapTable, SnapRow, SnapLast, Prepare, Commit, Rollback}
use Rattle.redo_journal.specs.Replays.{Replay, start, with_row, IsRowFor, CanCommit, committed, Allows, end_behind, after_record, after_records, AllFit}
use Rattle.engine_api.specs.States.{EngineState, begun_state, with_gist}
use Rattle.engine_api.specs.Live.{has_under, IsLeft}
use Rattle.live_tables.specs.Loads.{CanTake}
use Rattle.journal_engine.specs.Engine.{gist_of, gist_with, MayFollow, HaveSchemas, PreparedFit, CanBeSpelt}
use Rattle.journal_engine.proofs.SpeltLemmas.{schemas_append, rows_keep, schemas_behind, prepared_append, prepared_without, found_fit}

none_is : {X : Type 0} (o : Option X) → is_none o ≡ true → o ≡ None
none_is None is = refl
none_is (Some x) is = absurd (cc)

-- a new table
pub table_free : (state : EngineState) (it : Definition) → MayFollow (SnapTable it) state → table_named it.table state.gist.tables ≡ None
table_free state it may = subst (λ (g : Gist). table_named it.table g.tables ≡ None) may.1.1 (none_is (table_named it.table may.1.0.gist.tables) may.1.2.1)

can_take : (row : List Value) (o : Option Table) → IsRowFor row o → CanTake row o
can_take row None may = may
can_take row (Some table) may = may.1

-- a row that can be added
pub row_taken : (state : EngineState) (table : List ℕ) (row : List Value) → MayFollow (SnapRow table row) state → CanTake row (table_named table state.gist.tables)
row_taken state table row may = subst (λ (g : Gist). CanTake row (table_named table g.tables)) may.1.1 (can_take row (table_named table may.1.0.gist.tables) may.1.2.1)

-- an xid that is not prepared
pub xid_free : (state : EngineState) (it : Prepared) → MayFollow (Prepare it) state → is_prepared it.xid state.gist.prepared ≡ false
xid_free state it may = subst (λ (g : Gist). is_prepared it.xid g.prepared ≡ false) may.1.1 may.1.2.2

-- where nothing is pending, what is prepared was left
left_alone : (xid : ℕ) (state : EngineState) → state.pending ≡ [] → is_prepared xid state.gist.prepared ≡ true → IsLeft xid state
left_alone xid state idle prepared = (prepared, ap (list_any (has_under xid)) idle)

pub rollback_left : (state : EngineState) (xid : ℕ) → MayFollow (Rollback xid) state → IsLeft xid state
rollback_left state xid may = left_alone xid state may.0 (subst (λ (g : Gist). is_prepared xid g.prepared ≡ true) may.1.1 may.1.2.1)

committable : (number : ℕ) (gist : Gist) (o : Option Prepared) → CanCommit number gist o → (it : Prepared) × (o ≡ Some it) × (all_apply it.changes gist.tables ≡ true)
committable number gist None can = absurd can
committable number gist (Some it) can = (it, refl, can.2)

-- what a Commit commits
pub commit_finds : (state : EngineState) (xid number : ℕ) → MayFollow (Commit xid number) state → (it : Prepared) × (prepared_with xid state.gist.prepared ≡ Some it) × (all_apply it.changes state.gist.tables ≡ true)
commit_finds state xid number may = subst (λ (g : Gist). (it : Prepared) × (prepared_with xid g.prepared ≡ Some it) × (all_apply it.changes g.tables ≡ true)) may.1.1
    (committable number may.1.0.gist (prepared_with xid may.1.0.gist.prepared) may.1.2.1)

pub commit_left : (state : EngineState) (xid number : ℕ) → MayFollow (Commit xid number) state → IsLeft xid state
commit_left state xid number may = left_alone xid state may.0 (ap is_some (commit_finds state xid number may).1)

pub commit_applies : (state : EngineState) (xid number : ℕ) → MayFollow (Commit xid number) state → (it : Prepared) → prepared_with xid state.gist.prepared ≡ Some it → all_apply it.changes state.gist.tables ≡ true
commit_applies state xid number may it found =
    let one = commit_finds state xid number may in
    let both : Some one.0 ≡ Some it = sym one.1 ∙ found in
    let same : one.0 ≡ it = cc in
    subst (λ (p : Prepared). all_apply p.changes state.gist.tables ≡ true) same one.2

-- a state with nothing pending is one that has just begun
pub begun_again : (gist : Gist) (state : EngineState) → state.pending ≡ [] → with_gist gist state ≡ begun_state gist
begun_again gist state idle = ap (λ ps. record { gist = gist; pending = ps; kept = gist ∷ [] }) idle

pub committed_again : (state new : EngineState) (xid number : ℕ) → MayFollow (Commit xid number) state → ((it : Prepared) → prepared_with xid state.gist.prepared ≡ Some it → new ≡ with_gist (after_commit it number state.gist) state)
    → new ≡ begun_state (gist_with (Commit xid number) state.gist)
committed_again state new xid number may is =
    let one = commit_finds state xid number may in
    is one.0 one.1 ∙ begun_again (after_commit one.0 number state.gist) state may.0 ∙ ap begun_state (sym (ap (λ (o : Option Prepared). committed o number state.gist) one.1))

pub rolled_again : (state new : EngineState) (xid : ℕ) → MayFollow (Rollback xid) state → new ≡ with_gist (after_rollback xid state.gist) state → new ≡ begun_state (gist_with (Rollback xid) state.gist)
rolled_again state new xid may is = is ∙ begun_again (after_rollback xid state.gist) state may.0

-- All that records stand for can be spelt.

rows_spelt : (name : List ℕ) (row : List Value) (ts : List Table) → HaveSchemas ts → HaveSchemas (at_table name (with_row row) ts)
rows_spelt name row [] have = tt
rows_spelt name row (t ∷ ts) have = elim (cases (is_named name t)) [
  | inl own ↦ subst HaveSchemas (sym (cond_true (is_named name t) (with_row row t ++ ts) (t ∷ at_table name (with_row row) ts) own))
      (subst (λ d. IsSchema d.schema) (sym (rows_keep t (inserted t.definition.schema.key row t.rows))) have.0, have.1)
  | inr other ↦ subst HaveSchemas (sym (cond_false (is_named name t) (with_row row t ++ ts) (t ∷ at_table name (with_row row) ts) other)) (have.0, rows_spelt name row ts have.1)
]

-- what can be spelt of a gist
abbrev GistSpelt : Gist → Type 0
GistSpelt gist = HaveSchemas gist.tables × PreparedFit gist.prepared

committed_spelt : (xid number : ℕ) (gist : Gist) (o : Option Prepared) → prepared_with xid gist.prepared ≡ o → GistSpelt gist → GistSpelt (committed o number gist)
committed_spelt xid number gist None found spelt = spelt
committed_spelt xid number gist (Some it) found spelt = (schemas_behind it.changes gist.tables (found_fit xid gist.prepared it spelt.1 found) spelt.0, prepared_without it.xid gist.prepared spelt.1)

record_spelt : (it : Record) (replay : Replay) → Allows replay it → GistSpelt replay.gist → GistSpelt (after_record it replay).gist
record_spelt (SnapTable it) replay allowed spelt = (schemas_append replay.gist.tables (new_table it.table it.engine it.schema ∷ []) spelt.0 (allowed.0.schema, tt), spelt.1)
record_spelt (SnapRow table row) replay allowed spelt = (rows_spelt table row replay.gist.tables spelt.0, spelt.1)
record_spelt (SnapLast number) replay allowed spelt = spelt
record_spelt (Prepare it) replay allowed spelt = (spelt.0, prepared_append replay.gist.prepared (it ∷ []) spelt.1 (allowed.1.fit, tt))
record_spelt (Commit xid number) replay allowed spelt = committed_spelt xid number replay.gist (prepared_with xid replay.gist.prepared) refl spelt
record_spelt (Rollback xid) replay allowed spelt = (spelt.0, prepared_without xid replay.gist.prepared spelt.1)

records_spelt : (at : ℕ) (replay : Replay) (records : List Record) → AllFit at replay records → GistSpelt replay.gist → GistSpelt (after_records records replay).gist
records_spelt at replay [] fit spelt = spelt
records_spelt at replay (it ∷ rest) fit spelt = records_spelt (end_behind at it) (after_record it replay) rest fit.1 (record_spelt it replay fit.0.allowed spelt)

pub begun_spelt : (records : List Record) → AllFit header_len start records → CanBeSpelt (begun_state (gist_of records))
begun_spelt records fit = let spelt = records_spelt header_len start records fit (tt, tt) in record { tables = spelt.0; prepared = spelt.1; pending = tt }
