-- What is so of the gists that records stand for, record by record.
use Rattle.std.proofs.Common.{◌≡◌, ℕ, zero, suc, set, Bool, cond, ◌<◌, List, [], ◌∷◌, ◌++◌, Option, Some, None, true, false, inl, inr, refl, sym, ap, subst, ◌∙◌, arith}
use Rattle.std.specs.Prelude.{◌^◌, is_some, is_none, not, slice_get, option_and_then}
use Rattle.std.specs.List.{remove}
use Rattle.std.specs.Ordering.{is_lt}
use Rattle.sql_value.specs.declared.value.Value.{Value}
use Rattle.sql_value.specs.Values.{value_cmp}
use Rattle.row_format.specs.declared.schema.Schema.{Schema}
use Rattle.row_format.specs.declared.change.TableMap.{TableMap}
use Rattle.row_format.specs.declared.change.Change.{Change}
use Rattle.row_format.specs.declared.change.Change.TheVariants.{Install, Uninstall, Create, Drop, Insert, Update, Delete}
use Rattle.row_format.specs.Schemas.{same_schema}
use Rattle.row_format.specs.Rows.{IsRow}
use Rattle.row_format.specs.Changes.{IsFitChange, AreFitChanges}
use Rattle.row_format.proofs.SameLemmas.{same_schema-true}
use Rattle.binlog_events.specs.Items.{AreListed}
use Rattle.log_tables.specs.declared.table.Definition.{Definition}
use Rattle.log_tables.specs.declared.table.Table.{Table}
use Rattle.log_tables.specs.declared.gist.Prepared.{Prepared}
use Rattle.log_tables.specs.declared.gist.Gist.{Gist}
use Rattle.log_tables.specs.Keys.{key_in, has_key, row_with, without_key, in_key_order, is_row, inserted, deleted, updated, IsOrdered}
use Rattle.log_tables.specs.Tables.{is_named, table_named, at_table, new_table}
use Rattle.log_tables.specs.Changes.{with_rows, rows_after, changed, after_change, after_changes}
use Rattle.log_tables.specs.Gists.{has_xid, prepared_with, is_prepared, without_xid}
use Rattle.log_tables.proofs.PartLemmas.{cases, cond_true, cond_false, IsDictionary-after_change}
use Rattle.log_tables.proofs.OrderLemmas.{IsOrdered-inserted, IsOrdered-deleted, IsOrdered-updated, kept, gone}
use Rattle.engine_api.specs.States.{EngineState, begun_state}
use Rattle.engine_api.specs.Live.{schema_found}
use Rattle.live_tables.specs.Opens.{HaveOwnXids}
use Rattle.live_tables.proofs.NameLemmas.{no}
use Rattle.live_tables.proofs.OpenLaws.{xid_out, xid_kept, xids_last}
use Rattle.live_tables.proofs.LoadLemmas.{row_added_there}
use Rattle.redo_journal.specs.declared.record.Record.{Record}
use Rattle.redo_journal.specs.declared.record.Record.TheVariants.{SnapTable, SnapRow, SnapLast, Prepare, Commit, Rollback}
use Rattle.redo_journal.specs.Replays.{Replay, start, IsDefinition, with_row, committed, after_record, after_records, end_behind, IsRowFor, CanCommit, Allows, AllFit}
use Rattle.framed_file.specs.Framed.{header_len}
use Rattle.redo_journal.specs.declared.journal.Area.{Area}
use Rattle.redo_journal.specs.declared.journal.Journal.{Journal}
use Rattle.redo_journal.specs.Journals.{IsJournalOn, IsJournal}
use Rattle.journal_engine.specs.Recording.{AreRows, IsFitTable, AreFitTables, AreFitPrepared, CanBeTables, CanBePrepared, CanBeRecorded}
use Rattle.journal_engine.specs.Replaying.{HasRead}

-- Rows.

rows_last : (schema : Schema) (row : List Value) (rows : List (List Value)) → IsRow schema row → AreRows schema rows → AreRows schema (rows ++ row ∷ [])
rows_last schema row [] one are = (one, tt)
rows_last schema row (it ∷ rows) one are = (are.0, rows_last schema row rows one are.1)

rows_in_order : (schema : Schema) (column : ℕ) (row : List Value) (rows : List (List Value)) → IsRow schema row → AreRows schema rows → AreRows schema (in_key_order column row rows)
rows_in_order schema column row [] one are = (one, tt)
rows_in_order schema column row (it ∷ rows) one are = elim (cases (is_lt (value_cmp (key_in column row) (key_in column it)))) [
  | inl below ↦ subst (AreRows schema) (sym (cond_true (is_lt (value_cmp (key_in column row) (key_in column it))) (row ∷ it ∷ rows) (it ∷ in_key_order column row rows) below)) (one, are)
  | inr above ↦ subst (AreRows schema) (sym (cond_false (is_lt (value_cmp (key_in column row) (key_in column it))) (row ∷ it ∷ rows) (it ∷ in_key_order column row rows) above)) (are.0, rows_in_order schema column row rows one are.1)
]

-- where rows were made, they are rows of the schema
abbrev AreRowsIn : Schema → Option (List (List Value)) → Type 0
AreRowsIn schema None = Unit {0}
AreRowsIn schema (Some rows) = AreRows schema rows

rows_inserted : (schema : Schema) (key : Option ℕ) (row : List Value) (rows : List (List Value)) → IsRow schema row → AreRows schema rows → AreRowsIn schema (inserted key row rows)
rows_inserted schema None row rows one are = rows_last schema row rows one are
rows_inserted schema (Some column) row rows one are = elim (cases (is_some (row_with column (key_in column row) rows))) [
  | inl taken ↦ subst (AreRowsIn schema) (sym (cond_true (is_some (row_with column (key_in column row) rows)) None (Some (in_key_order column row rows)) taken)) tt
  | inr free ↦ subst (AreRowsIn schema) (sym (cond_false (is_some (row_with column (key_in column row) rows)) None (Some (in_key_order column row rows)) free)) (rows_in_order schema column row rows one are)
]

rows_without : (schema : Schema) (column : ℕ) (key : Value) (rows : List (List Value)) → AreRows schema rows → AreRows schema (without_key column key rows)
rows_without schema column key [] are = tt
rows_without schema column key (it ∷ rows) are = elim (cases (has_key column key it)) [
  | inl own ↦ subst (AreRows schema) (sym (gone column key it rows own)) (rows_without schema column key rows are.1)
  | inr other ↦ subst (AreRows schema) (sym (kept column key it rows other)) (are.0, rows_without schema column key rows are.1)
]

rows_removed : (schema : Schema) (i : ℕ) (rows : List (List Value)) → AreRows schema rows → AreRows schema (remove rows i)
rows_removed schema zero [] are = tt
rows_removed schema (suc i) [] are = tt
rows_removed schema zero (it ∷ rows) are = are.1
rows_removed schema (suc i) (it ∷ rows) are = (are.0, rows_removed schema i rows are.1)

rows_set : (schema : Schema) (i : ℕ) (row : List Value) (rows : List (List Value)) → IsRow schema row → AreRows schema rows → AreRows schema (set rows i row)
rows_set schema i row [] one are = tt
rows_set schema zero row (it ∷ rows) one are = (one, are.1)
rows_set schema (suc i) row (it ∷ rows) one are = (are.0, rows_set schema i row rows one are.1)

rows_if : (schema : Schema) (b : Bool) (o : Option (List (List Value))) → AreRowsIn schema o → AreRowsIn schema (cond b o None)
rows_if schema true o are = are
rows_if schema false o are = tt

rows_deleted : (schema : Schema) (key : Option ℕ) (place : ℕ) (before : List Value) (rows : List (List Value)) → AreRows schema rows → AreRowsIn schema (deleted key place before rows)
rows_deleted schema None place before rows are = rows_if schema (is_row (slice_get rows place) before) (Some (remove rows place)) (rows_removed schema place rows are)
rows_deleted schema (Some column) place before rows are =
    rows_if schema (is_row (row_with column (key_in column before) rows) before) (Some (without_key column (key_in column before) rows)) (rows_without schema column (key_in column before) rows are)

rows_moved : (schema : Schema) (column : ℕ) (after : List Value) (o : Option (List (List Value))) → IsRow schema after → AreRowsIn schema o
    → AreRowsIn schema (option_and_then (inserted (Some column) after) o)
rows_moved schema column after None one are = tt
rows_moved schema column after (Some rows) one are = rows_inserted schema (Some column) after rows one are

rows_updated : (schema : Schema) (key : Option ℕ) (place : ℕ) (before after : List Value) (rows : List (List Value)) → IsRow schema after → AreRows schema rows
    → AreRowsIn schema (updated key place before after rows)
rows_updated schema None place before after rows one are = rows_if schema (is_row (slice_get rows place) before) (Some (set rows place after)) (rows_set schema place after rows one are)
rows_updated schema (Some column) place before after rows one are =
    rows_moved schema column after (deleted (Some column) place before rows) one (rows_deleted schema (Some column) place before rows are)

-- Tables.

-- where rows were made, the table is fit with them
abbrev IsFitWith : Table → Option (List (List Value)) → Type 0
IsFitWith table o = IsFitTable (with_rows table o)

-- a row change that makes rows of the schema, in order, of those that are
record Keeps (change : Change) : Type 0 where
  keeps : (table : Table) → IsFitTable table → IsFitWith table (rows_after change table)

fit_with : (table : Table) (map : TableMap) (o : Option (List (List Value))) → IsFitTable table
    → (map.schema ≡ table.definition.schema → AreRowsIn table.definition.schema o × ((rows : List (List Value)) → o ≡ Some rows → IsOrdered table.definition.schema.key rows))
    → IsFitWith table (cond (same_schema map.schema table.definition.schema) o None)
fit_with table map o fit makes = elim (cases (same_schema map.schema table.definition.schema)) [
  | inl same ↦ subst (IsFitWith table) (sym (cond_true (same_schema map.schema table.definition.schema) o None same)) (made o (makes (same_schema-true map.schema table.definition.schema same)))
  | inr other ↦ subst (IsFitWith table) (sym (cond_false (same_schema map.schema table.definition.schema) o None other)) fit
]
  where
    made : (o : Option (List (List Value))) → AreRowsIn table.definition.schema o × ((rows : List (List Value)) → o ≡ Some rows → IsOrdered table.definition.schema.key rows) → IsFitWith table o
    made None both = fit
    made (Some rows) both = record { definition = fit.definition; rows = both.0; in_order = both.1 rows refl }

keeps_insert : (map : TableMap) (row : List Value) → IsRow map.schema row → Keeps (Insert map row)
keeps_insert map row one = record {
  keeps = λ table fit.
      let key = table.definition.schema.key in
      fit_with table map (inserted key row table.rows) fit (λ same. (
        rows_inserted table.definition.schema key row table.rows (subst (λ (s : Schema). IsRow s row) same one) fit.rows,
        λ rows is. IsOrdered-inserted key row table.rows rows is fit.in_order,
      ));
}

keeps_update : (map : TableMap) (place : ℕ) (before after : List Value) → IsRow map.schema after → Keeps (Update map place before after)
keeps_update map place before after one = record {
  keeps = λ table fit.
      let key = table.definition.schema.key in
      fit_with table map (updated key place before after table.rows) fit (λ same. (
        rows_updated table.definition.schema key place before after table.rows (subst (λ (s : Schema). IsRow s after) same one) fit.rows,
        λ rows is. IsOrdered-updated key place before after table.rows rows is fit.in_order,
      ));
}

keeps_delete : (map : TableMap) (place : ℕ) (before : List Value) → Keeps (Delete map place before)
keeps_delete map place before = record {
  keeps = λ table fit.
      let key = table.definition.schema.key in
      fit_with table map (deleted key place before table.rows) fit (λ same. (
        rows_deleted table.definition.schema key place before table.rows fit.rows,
        λ rows is. IsOrdered-deleted key place before table.rows rows is fit.in_order,
      ));
}

tables_append : (ts us : List Table) → AreFitTables ts → AreFitTables us → AreFitTables (ts ++ us)
tables_append [] us of_ts of_us = of_us
tables_append (t ∷ ts) us of_ts of_us = (of_ts.0, tables_append ts us of_ts.1 of_us)

tables_changed : (change : Change) (name : List ℕ) (ts : List Table) → Keeps change → AreFitTables ts → AreFitTables (at_table name (changed change) ts)
tables_changed change name [] one fit = tt
tables_changed change name (t ∷ ts) one fit = elim (cases (is_named name t)) [
  | inl here ↦ subst AreFitTables (sym (cond_true (is_named name t) (changed change t ++ ts) (t ∷ at_table name (changed change) ts) here)) (one.keeps t fit.0, fit.1)
  | inr past ↦ subst AreFitTables (sym (cond_false (is_named name t) (changed change t ++ ts) (t ∷ at_table name (changed change) ts) past)) (fit.0, tables_changed change name ts one fit.1)
]

tables_dropped : (name : List ℕ) (ts : List Table) → AreFitTables ts → AreFitTables (at_table name (λ _. []) ts)
tables_dropped name [] fit = tt
tables_dropped name (t ∷ ts) fit = elim (cases (is_named name t)) [
  | inl here ↦ subst AreFitTables (sym (cond_true (is_named name t) ts (t ∷ at_table name (λ _. []) ts) here)) fit.1
  | inr past ↦ subst AreFitTables (sym (cond_false (is_named name t) ts (t ∷ at_table name (λ _. []) ts) past)) (fit.0, tables_dropped name ts fit.1)
]

no_rows_in_order : (key : Option ℕ) → IsOrdered key []
no_rows_in_order None = tt
no_rows_in_order (Some column) = tt

tables_create : (it : Definition) (ts : List Table) → IsDefinition it → AreFitTables ts → AreFitTables (after_change (Create it.table it.engine it.schema) ts)
tables_create it ts one are = elim (cases (is_some (table_named it.table ts))) [
  | inl there ↦ subst AreFitTables (sym (cond_true (is_some (table_named it.table ts)) ts (ts ++ new_table it.table it.engine it.schema ∷ []) there)) are
  | inr free ↦
      let new : IsFitTable (new_table it.table it.engine it.schema) = record { definition = one; rows = tt; in_order = no_rows_in_order it.schema.key } in
      subst AreFitTables (sym (cond_false (is_some (table_named it.table ts)) ts (ts ++ new_table it.table it.engine it.schema ∷ []) free)) (tables_append ts (new_table it.table it.engine it.schema ∷ []) are (new, tt))
]

tables_after : (change : Change) (ts : List Table) → IsFitChange change → CanBeTables ts → CanBeTables (after_change change ts)
tables_after (Install name) ts fit can = can
tables_after (Create table engine schema) ts fit can = record {
  fit = tables_create (record { table = table; engine = engine; schema = schema }) ts (record { table = fit.0; engine = fit.1; schema = fit.2 }) can.fit;
  dictionary = IsDictionary-after_change (Create table engine schema) ts can.dictionary;
}
tables_after (Uninstall name) ts fit can = can
tables_after (Drop table) ts fit can = record { fit = tables_dropped table ts can.fit; dictionary = IsDictionary-after_change (Drop table) ts can.dictionary }
tables_after (Insert map row) ts fit can = record {
  fit = tables_changed (Insert map row) map.table ts (keeps_insert map row fit.1) can.fit;
  dictionary = IsDictionary-after_change (Insert map row) ts can.dictionary;
}
tables_after (Update map place before after) ts fit can = record {
  fit = tables_changed (Update map place before after) map.table ts (keeps_update map place before after fit.1) can.fit;
  dictionary = IsDictionary-after_change (Update map place before after) ts can.dictionary;
}
tables_after (Delete map place before) ts fit can = record {
  fit = tables_changed (Delete map place before) map.table ts (keeps_delete map place before) can.fit;
  dictionary = IsDictionary-after_change (Delete map place before) ts can.dictionary;
}

tables_behind : (changes : List Change) (ts : List Table) → AreFitChanges changes → CanBeTables ts → CanBeTables (after_changes changes ts)
tables_behind [] ts fit can = can
tables_behind (it ∷ rest) ts fit can = tables_behind rest (after_change it ts) fit.1 (tables_after it ts fit.0 can)

not_some : (o : Option Table) → is_none o ≡ true → is_some o ≡ false
not_some None free = refl
not_some (Some t) free = sym free

-- A SnapTable does what a Create does.
tables_snapped : (it : Definition) (ts : List Table) → IsDefinition it → is_none (table_named it.table ts) ≡ true → CanBeTables ts → CanBeTables (ts ++ new_table it.table it.engine it.schema ∷ [])
tables_snapped it ts one free can =
    let same = cond_false (is_some (table_named it.table ts)) ts (ts ++ new_table it.table it.engine it.schema ∷ []) (not_some (table_named it.table ts) free) in
    subst CanBeTables same (tables_after (Create it.table it.engine it.schema) ts (one.table, one.engine, one.schema) can)

-- A SnapRow does what an Insert does.
row_snapped : (name : List ℕ) (row : List Value) (gist : Gist) (o : Option Table) → table_named name gist.tables ≡ o → IsRowFor row o → CanBeTables gist.tables → CanBeTables (at_table name (with_row row) gist.tables)
row_snapped name row gist None is may can = absurd may
row_snapped name row gist (Some table) is may can =
    let map : TableMap = record { table = name; schema = table.definition.schema } in
    subst CanBeTables (row_added_there map name row (begun_state gist) refl refl (sym (ap schema_found is)))
    (record { fit = tables_changed (Insert map row) name gist.tables (keeps_insert map row may.0) can.fit; dictionary = IsDictionary-after_change (Insert map row) gist.tables can.dictionary })

-- What is prepared.

prepared_last : (it : Prepared) (ps : List Prepared) → it.xid < 2 ^ 64 → AreListed it.changes → AreFitPrepared ps → AreFitPrepared (ps ++ it ∷ [])
prepared_last it [] xid listed fit = (xid, listed, tt)
prepared_last it (p ∷ ps) xid listed fit = (fit.0, fit.1, prepared_last it ps xid listed fit.2)

prepared_without : (xid : ℕ) (ps : List Prepared) → AreFitPrepared ps → AreFitPrepared (without_xid xid ps)
prepared_without xid [] fit = tt
prepared_without xid (p ∷ ps) fit = elim (cases (has_xid xid p)) [
  | inl own ↦ subst AreFitPrepared (sym (cond_false (not (has_xid xid p)) (p ∷ without_xid xid ps) (without_xid xid ps) (ap not own))) (prepared_without xid ps fit.2)
  | inr other ↦ subst AreFitPrepared (sym (cond_true (not (has_xid xid p)) (p ∷ without_xid xid ps) (without_xid xid ps) (ap not other))) (fit.0, fit.1, prepared_without xid ps fit.2)
]

unprepared_without : (n xid : ℕ) (ps : List Prepared) → is_prepared n ps ≡ false → is_prepared n (without_xid xid ps) ≡ false
unprepared_without n xid [] free = free
unprepared_without n xid (p ∷ ps) free = elim (cases (has_xid n p)) [
  | inl same ↦ absurd (no (sym free ∙ ap is_some (cond_true (has_xid n p) (Some p) (prepared_with n ps) same)))
  | inr differs ↦
      let later = sym (ap is_some (cond_false (has_xid n p) (Some p) (prepared_with n ps) differs)) ∙ free in
      elim (cases (has_xid xid p)) [
        | inl own ↦ subst (λ (l : List Prepared). is_prepared n l ≡ false) (sym (xid_out xid p ps own)) (unprepared_without n xid ps later)
        | inr other ↦
            subst (λ (l : List Prepared). is_prepared n l ≡ false) (sym (xid_kept xid p ps other))
            (ap is_some (cond_false (has_xid n p) (Some p) (prepared_with n (without_xid xid ps)) differs) ∙ unprepared_without n xid ps later)
      ]
]

own_without : (xid : ℕ) (ps : List Prepared) → HaveOwnXids ps → HaveOwnXids (without_xid xid ps)
own_without xid [] own = tt
own_without xid (p ∷ ps) own = elim (cases (has_xid xid p)) [
  | inl out ↦ subst HaveOwnXids (sym (xid_out xid p ps out)) (own_without xid ps own.1)
  | inr kept ↦ subst HaveOwnXids (sym (xid_kept xid p ps kept)) (unprepared_without p.xid xid ps own.0, own_without xid ps own.1)
]

can_without : (xid : ℕ) (ps : List Prepared) → CanBePrepared ps → CanBePrepared (without_xid xid ps)
can_without xid ps can = record { fit = prepared_without xid ps can.fit; own = own_without xid ps can.own }

-- the changes of what was found have a list form
abbrev IsListedIn : Option Prepared → Type 0
IsListedIn None = Unit {0}
IsListedIn (Some it) = AreListed it.changes

found_listed : (xid : ℕ) (ps : List Prepared) → AreFitPrepared ps → IsListedIn (prepared_with xid ps)
found_listed xid [] fit = tt
found_listed xid (p ∷ ps) fit = elim (cases (has_xid xid p)) [
  | inl own ↦ subst IsListedIn (sym (cond_true (has_xid xid p) (Some p) (prepared_with xid ps) own)) fit.1
  | inr other ↦ subst IsListedIn (sym (cond_false (has_xid xid p) (Some p) (prepared_with xid ps) other)) (found_listed xid ps fit.2)
]

-- Records.

committed_well : (number : ℕ) (gist : Gist) (o : Option Prepared) → CanCommit number gist o → IsListedIn o → CanBeRecorded gist → CanBeRecorded (committed o number gist)
committed_well number gist None can listed well = absurd can
committed_well number gist (Some it) can listed well = record {
  tables = tables_behind it.changes gist.tables listed.fit well.tables;
  prepared = can_without it.xid gist.prepared well.prepared;
  last = can.1;
}

-- One record more leaves it so.
pub record_well : (it : Record) (seen : Replay) → Allows seen it → CanBeRecorded seen.gist → CanBeRecorded (after_record it seen).gist
record_well (SnapTable it) seen may well = record {
  tables = tables_snapped it seen.gist.tables may.0 may.1 well.tables;
  prepared = well.prepared;
  last = well.last;
}
record_well (SnapRow table row) seen may well = record {
  tables = row_snapped table row seen.gist (table_named table seen.gist.tables) refl may.1 well.tables;
  prepared = well.prepared;
  last = well.last;
}
record_well (SnapLast number) seen may well = record { tables = well.tables; prepared = well.prepared; last = may.0 }
record_well (Prepare it) seen may well = record {
  tables = well.tables;
  prepared = record { fit = prepared_last it seen.gist.prepared may.0 may.1 well.prepared.fit; own = xids_last it seen.gist.prepared well.prepared.own may.2 };
  last = well.last;
}
record_well (Commit xid number) seen may well = committed_well number seen.gist (prepared_with xid seen.gist.prepared) may.1 (found_listed xid seen.gist.prepared well.prepared.fit) well
record_well (Rollback xid) seen may well = record {
  tables = well.tables;
  prepared = can_without xid seen.gist.prepared well.prepared;
  last = well.last;
}

records_well : (at : ℕ) (records : List Record) (seen : Replay) → AllFit at seen records → CanBeRecorded seen.gist → CanBeRecorded (after_records records seen).gist
records_well at [] seen fit well = well
records_well at (it ∷ rest) seen fit well = records_well (end_behind at it) rest (after_record it seen) fit.1 (record_well it seen fit.0.allowed well)

-- So it is of what records stand for that fit one behind the other.
pub all_well : (at : ℕ) (records : List Record) → AllFit at start records → CanBeRecorded (after_records records start).gist
all_well at records fit = records_well at records start fit (record { tables = record { fit = tt; dictionary = tt }; prepared = record { fit = tt; own = tt }; last = omega arith })

-- So it is of what was read.
pub read_well : (at : ℕ) (records : List Record) (state : EngineState) → AllFit at start records → HasRead (after_records records start) state → CanBeRecorded state.gist
read_well at records state fit read = subst CanBeRecorded (sym (ap (λ (s : EngineState). s.gist) read)) (all_well at records fit)

well_on : (area : Option Area) (records : List Record) → IsJournalOn area records → CanBeRecorded (after_records records start).gist
well_on None records none = subst (λ (l : List Record). CanBeRecorded (after_records l start).gist) (sym none) (all_well header_len [] tt)
well_on (Some area) records behind = all_well header_len records behind.fit

-- So it is of what a journal stands for.
pub journal_well : (journal : Journal) (records : List Record) → IsJournal journal records → CanBeRecorded (after_records records start).gist
journal_well journal records is = well_on journal.area records is
