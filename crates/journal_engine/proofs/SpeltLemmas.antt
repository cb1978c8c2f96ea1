-- All that the engine has can be spelt, and stays so.
use Rattle.std.proofs.Common.{◌≡◌, inl, inr, ℕ, List, [], ◌∷◌, ◌++◌, Option, Some, None, true, not, is_some, refl, sym, ap, subst, ◌∙◌, map}
use Rattle.std.specs.List.{list_all}
use Rattle.std.proofs.lemmas.Bool.{and_from}
use Rattle.std.proofs.lemmas.List.Folds.{list_all-append}
use Rattle.sql_value.specs.declared.value.Value.{Value}
use Rattle.sql_value.specs.Names.{IsName}
use Rattle.row_format.specs.declared.schema.Schema.{Schema}
use Rattle.row_format.specs.declared.change.Change.{Change}
use Rattle.row_format.specs.declared.change.Change.TheVariants.{Install, Uninstall, Create, Drop, Insert, Update, Delete}
use Rattle.row_format.specs.Schemas.{IsSchema}
use Rattle.row_format.specs.Changes.{IsFitChange, AreFitChanges}
use Rattle.binlog_events.specs.Items.{is_on_table}
use Rattle.log_tables.specs.declared.table.Table.{Table}
use Rattle.log_tables.specs.declared.gist.Prepared.{Prepared}
use Rattle.log_tables.specs.declared.gist.Gist.{Gist}
use Rattle.log_tables.specs.Tables.{is_named, table_named, at_table, new_table}
use Rattle.log_tables.specs.Changes.{with_rows, rows_after, changed, after_change, after_changes}
use Rattle.log_tables.specs.Gists.{has_xid, prepared_with, without_xid, after_commit, after_rollback}
use Rattle.log_tables.proofs.PartLemmas.{cases, cond_true, cond_false}
use Rattle.engine_api.specs.States.{EngineState, Pending, is_by, pending_of, changes_of, changes_by, without_txn, changes_in, with_change, with_gist, share_of, prepared_state, committed_state, rolled_back_state, gist_without, xid_by, live_tables}
use Rattle.engine_api.specs.Live.{schema_found, live_schema, IsRowFor, insert_into, wrote_state}
use Rattle.journal_engine.specs.Engine.{AreWritable, HaveSchemas, PreparedFit, PendingFit, CanBeSpelt}

-- Lists of changes.

pub fit_append : (xs ys : List Change) → AreFitChanges xs → AreFitChanges ys → AreFitChanges (xs ++ ys)
fit_append [] ys of_xs of_ys = of_ys
fit_append (x ∷ xs) ys of_xs of_ys = (of_xs.0, fit_append xs ys of_xs.1 of_ys)

pub writable_append : (xs ys : List Change) → AreWritable xs → AreWritable ys → AreWritable (xs ++ ys)
writable_append xs ys of_xs of_ys = (fit_append xs ys of_xs.0 of_ys.0, list_all-append is_on_table xs ys ∙ and_from (list_all is_on_table xs) (list_all is_on_table ys) of_xs.1 of_ys.1)

pub writable_one : (change : Change) → IsFitChange change → is_on_table change ≡ true → AreWritable (change ∷ [])
writable_one change fit on = ((fit, tt), and_from (is_on_table change) true on refl)

-- What a transaction has pending.

pub pending_append : (ps qs : List Pending) → PendingFit ps → PendingFit qs → PendingFit (ps ++ qs)
pending_append [] qs of_ps of_qs = of_qs
pending_append (p ∷ ps) qs of_ps of_qs = (of_ps.0, pending_append ps qs of_ps.1 of_qs)

pub pending_without : (txn : ℕ) (ps : List Pending) → PendingFit ps → PendingFit (without_txn txn ps)
pending_without txn [] fit = tt
pending_without txn (p ∷ ps) fit = elim (cases (is_by txn p)) [
  | inl own ↦ subst PendingFit (sym (cond_false (not (is_by txn p)) (p ∷ without_txn txn ps) (without_txn txn ps) (ap not own))) (pending_without txn ps fit.1)
  | inr other ↦ subst PendingFit (sym (cond_true (not (is_by txn p)) (p ∷ without_txn txn ps) (without_txn txn ps) (ap not other))) (fit.0, pending_without txn ps fit.1)
]

pub writable_by : (txn : ℕ) (ps : List Pending) → PendingFit ps → AreWritable (changes_by txn ps)
writable_by txn [] fit = (tt, refl)
writable_by txn (p ∷ ps) fit = elim (cases (is_by txn p)) [
  | inl own ↦ subst (λ (o : Option Pending). AreWritable (changes_of o)) (sym (cond_true (is_by txn p) (Some p) (pending_of txn ps) own)) fit.0
  | inr other ↦ subst (λ (o : Option Pending). AreWritable (changes_of o)) (sym (cond_false (is_by txn p) (Some p) (pending_of txn ps) other)) (writable_by txn ps fit.1)
]

fit_in : (ps : List Pending) → PendingFit ps → AreFitChanges (changes_in ps)
fit_in [] fit = tt
fit_in (p ∷ ps) fit = fit_append p.changes (changes_in ps) fit.0.0 (fit_in ps fit.1)

-- What is prepared.

pub prepared_append : (ps qs : List Prepared) → PreparedFit ps → PreparedFit qs → PreparedFit (ps ++ qs)
prepared_append [] qs of_ps of_qs = of_qs
prepared_append (p ∷ ps) qs of_ps of_qs = (of_ps.0, prepared_append ps qs of_ps.1 of_qs)

pub prepared_without : (xid : ℕ) (ps : List Prepared) → PreparedFit ps → PreparedFit (without_xid xid ps)
prepared_without xid [] fit = tt
prepared_without xid (p ∷ ps) fit = elim (cases (has_xid xid p)) [
  | inl own ↦ subst PreparedFit (sym (cond_false (not (has_xid xid p)) (p ∷ without_xid xid ps) (without_xid xid ps) (ap not own))) (prepared_without xid ps fit.1)
  | inr other ↦ subst PreparedFit (sym (cond_true (not (has_xid xid p)) (p ∷ without_xid xid ps) (without_xid xid ps) (ap not other))) (fit.0, prepared_without xid ps fit.1)
]

pub found_fit : (xid : ℕ) (ps : List Prepared) (it : Prepared) → PreparedFit ps → prepared_with xid ps ≡ Some it → AreFitChanges it.changes
found_fit xid [] it fit found = absurd (cc)
found_fit xid (p ∷ ps) it fit found = elim (cases (has_xid xid p)) [
  | inl own ↦
      let same : Some p ≡ Some it = sym (cond_true (has_xid xid p) (Some p) (prepared_with xid ps) own) ∙ found in
      let is : p ≡ it = cc in
      subst (λ (q : Prepared). AreFitChanges q.changes) is fit.0
  | inr other ↦ found_fit xid ps it fit.1 (sym (cond_false (has_xid xid p) (Some p) (prepared_with xid ps) other) ∙ found)
]

-- Tables.

pub schemas_append : (ts us : List Table) → HaveSchemas ts → HaveSchemas us → HaveSchemas (ts ++ us)
schemas_append [] us of_ts of_us = of_us
schemas_append (t ∷ ts) us of_ts of_us = (of_ts.0, schemas_append ts us of_ts.1 of_us)

pub rows_keep : (t : Table) (o : Option (List (List Value))) → (with_rows t o).definition ≡ t.definition
rows_keep t None = refl
rows_keep t (Some rows) = refl

schemas_at : (name : List ℕ) (change : Change) (ts : List Table) → HaveSchemas ts → HaveSchemas (at_table name (changed change) ts)
schemas_at name change [] have = tt
schemas_at name change (t ∷ ts) have = elim (cases (is_named name t)) [
  | inl own ↦ subst HaveSchemas (sym (cond_true (is_named name t) (changed change t ++ ts) (t ∷ at_table name (changed change) ts) own))
      (subst (λ d. IsSchema d.schema) (sym (rows_keep t (rows_after change t))) have.0, have.1)
  | inr other ↦ subst HaveSchemas (sym (cond_false (is_named name t) (changed change t ++ ts) (t ∷ at_table name (changed change) ts) other)) (have.0, schemas_at name change ts have.1)
]

schemas_dropped : (name : List ℕ) (ts : List Table) → HaveSchemas ts → HaveSchemas (at_table name (λ _. []) ts)
schemas_dropped name [] have = tt
schemas_dropped name (t ∷ ts) have = elim (cases (is_named name t)) [
  | inl own ↦ subst HaveSchemas (sym (cond_true (is_named name t) ts (t ∷ at_table name (λ _. []) ts) own)) have.1
  | inr other ↦ subst HaveSchemas (sym (cond_false (is_named name t) ts (t ∷ at_table name (λ _. []) ts) other)) (have.0, schemas_dropped name ts have.1)
]

schemas_after : (change : Change) (ts : List Table) → IsFitChange change → HaveSchemas ts → HaveSchemas (after_change change ts)
schemas_after (Install name) ts fit have = have
schemas_after (Create table engine schema) ts fit have = elim (cases (is_some (table_named table ts))) [
  | inl there ↦ subst HaveSchemas (sym (cond_true (is_some (table_named table ts)) ts (ts ++ new_table table engine schema ∷ []) there)) have
  | inr free ↦ subst HaveSchemas (sym (cond_false (is_some (table_named table ts)) ts (ts ++ new_table table engine schema ∷ []) free)) (schemas_append ts (new_table table engine schema ∷ []) have (fit.2, tt))
]
schemas_after (Uninstall name) ts fit have = have
schemas_after (Drop table) ts fit have = schemas_dropped table ts have
schemas_after (Insert map row) ts fit have = schemas_at map.table (Insert map row) ts have
schemas_after (Update map place before after) ts fit have = schemas_at map.table (Update map place before after) ts have
schemas_after (Delete map place before) ts fit have = schemas_at map.table (Delete map place before) ts have

pub schemas_behind : (changes : List Change) (ts : List Table) → AreFitChanges changes → HaveSchemas ts → HaveSchemas (after_changes changes ts)
schemas_behind [] ts fit have = have
schemas_behind (it ∷ rest) ts fit have = schemas_behind rest (after_change it ts) fit.1 (schemas_after it ts fit.0 have)

schema_of : (name : List ℕ) (schema : Schema) (ts : List Table) → HaveSchemas ts → schema_found (table_named name ts) ≡ Some schema → IsSchema schema
schema_of name schema [] have found = absurd (cc)
schema_of name schema (t ∷ ts) have found = elim (cases (is_named name t)) [
  | inl own ↦
      let same : Some t.definition.schema ≡ Some schema = sym (ap schema_found (cond_true (is_named name t) (Some t) (table_named name ts) own)) ∙ found in
      let is : t.definition.schema ≡ schema = cc in
      subst IsSchema is have.0
  | inr other ↦ schema_of name schema ts have.1 (sym (ap schema_found (cond_false (is_named name t) (Some t) (table_named name ts) other)) ∙ found)
]

-- a live table's schema can be spelt
pub live_spelt : (name : List ℕ) (schema : Schema) (state : EngineState) → CanBeSpelt state → live_schema name state ≡ Some schema → IsSchema schema
live_spelt name schema state spelt found = schema_of name schema (live_tables state) (schemas_behind (changes_in state.pending) state.gist.tables (fit_in state.pending spelt.pending) spelt.tables) found

-- States.

pub spelt_change : (txn : ℕ) (change : Change) (state : EngineState) → IsFitChange change → is_on_table change ≡ true → CanBeSpelt state → CanBeSpelt (with_change txn change state)
spelt_change txn change state fit on spelt = record {
  tables = spelt.tables;
  prepared = spelt.prepared;
  pending = pending_append (without_txn txn state.pending) (record { txn = txn; under = None; changes = changes_by txn state.pending ++ change ∷ [] } ∷ []) (pending_without txn state.pending spelt.pending)
      (writable_append (changes_by txn state.pending) (change ∷ []) (writable_by txn state.pending spelt.pending) (writable_one change fit on), tt);
}

pub spelt_row : (txn : ℕ) (name : List ℕ) (row : List Value) (state : EngineState) → IsName name → IsRowFor (live_schema name state) row → CanBeSpelt state → CanBeSpelt (wrote_state txn name row state)
spelt_row txn name row state named is_row spelt = go (live_schema name state) refl
  where
    go : (o : Option Schema) → live_schema name state ≡ o → CanBeSpelt (wrote_state txn name row state)
    go None is = absurd (subst (λ (o : Option Schema). IsRowFor o row) is is_row)
    go (Some schema) is =
        let fit : IsFitChange (Insert (record { table = name; schema = schema }) row) = (record { named = named; schema = live_spelt name schema state spelt is }, subst (λ (o : Option Schema). IsRowFor o row) is is_row) in
        subst (λ (o : Option Schema). CanBeSpelt (Rattle.engine_api.specs.Live.with_insert txn (insert_into name o row) state)) (sym is)
        (spelt_change txn (Insert (record { table = name; schema = schema }) row) state fit refl spelt)

pub spelt_prepared : (txn xid : ℕ) (state : EngineState) → CanBeSpelt state → CanBeSpelt (prepared_state txn xid state)
spelt_prepared txn xid state spelt =
    let own = writable_by txn state.pending spelt.pending in
    record {
      tables = spelt.tables;
      prepared = prepared_append state.gist.prepared (share_of txn xid state ∷ []) spelt.prepared (own.0, tt);
      pending = pending_append (without_txn txn state.pending) (record { txn = txn; under = Some xid; changes = changes_by txn state.pending } ∷ []) (pending_without txn state.pending spelt.pending) (own, tt);
    }

pub spelt_committed : (txn xid number : ℕ) (state : EngineState) → CanBeSpelt state → CanBeSpelt (committed_state txn xid number state)
spelt_committed txn xid number state spelt = record {
  tables = schemas_behind (changes_by txn state.pending) state.gist.tables (writable_by txn state.pending spelt.pending).0 spelt.tables;
  prepared = prepared_without xid state.gist.prepared spelt.prepared;
  pending = pending_without txn state.pending spelt.pending;
}

pub spelt_rolled_back : (txn : ℕ) (state : EngineState) → CanBeSpelt state → CanBeSpelt (rolled_back_state txn state)
spelt_rolled_back txn state spelt = record {
  tables = tables (xid_by txn state.pending);
  prepared = prepared (xid_by txn state.pending);
  pending = pending_without txn state.pending spelt.pending;
}
  where
    tables : (o : Option ℕ) → HaveSchemas (gist_without o state.gist).tables
    tables None = spelt.tables
    tables (Some xid) = spelt.tables

    prepared : (o : Option ℕ) → PreparedFit (gist_without o state.gist).prepared
    prepared None = spelt.prepared
    prepared (Some xid) = prepared_without xid state.gist.prepared spelt.prepared

-- with another gist, of which so much can be spelt
pub spelt_gist : (gist : Gist) (state : EngineState) → HaveSchemas gist.tables → PreparedFit gist.prepared → CanBeSpelt state → CanBeSpelt (with_gist gist state)
spelt_gist gist state tables prepared spelt = record { tables = tables; prepared = prepared; pending = spelt.pending }

pub spelt_left : (xid number : ℕ) (it : Prepared) (state : EngineState) → prepared_with xid state.gist.prepared ≡ Some it → CanBeSpelt state → CanBeSpelt (with_gist (after_commit it number state.gist) state)
spelt_left xid number it state found spelt = spelt_gist (after_commit it number state.gist) state
    (schemas_behind it.changes state.gist.tables (found_fit xid state.gist.prepared it spelt.prepared found) spelt.tables)
    (prepared_without it.xid state.gist.prepared spelt.prepared) spelt

pub spelt_dropped : (xid : ℕ) (state : EngineState) → CanBeSpelt state → CanBeSpelt (with_gist (after_rollback xid state.gist) state)
spelt_dropped xid state spelt = spelt_gist (after_rollback xid state.gist) state spelt.tables (prepared_without xid state.gist.prepared spelt.prepared) spelt
