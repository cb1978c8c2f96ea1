-- A row that is written into a live table.
use Rattle.std.proofs.Common.{◌≡◌, ◌+◌, ℕ, List, [], ◌∷◌, Option, Some, None, true, false, refl, sym, ap, ◌∙◌, arith}
use Rattle.std.specs.Prelude.{length, unwrap_or}
use Rattle.sql_value.specs.declared.value.Value.{Value}
use Rattle.row_format.specs.declared.schema.Schema.{Schema}
use Rattle.row_format.specs.Schemas.{same_schema}
use Rattle.row_format.specs.Spelling.{row_image}
use Rattle.row_format.proofs.SameLemmas.{same_schema_refl}
use Rattle.log_tables.specs.declared.table.Table.{Table}
use Rattle.log_tables.specs.Keys.{inserted}
use Rattle.log_tables.specs.Tables.{table_named, at_table}
use Rattle.log_tables.specs.Changes.{changed, with_rows}
use Rattle.log_tables.proofs.PartLemmas.{cond_true}
use Rattle.engine_api.specs.States.{EngineState, live_tables, with_change}
use Rattle.engine_api.specs.Live.{live_bytes, table_bytes, live_schema, live_rows, schema_found, rows_found, is_key_taken}
use Rattle.sql_effect.specs.Sizes.{row_bytes}
use Rattle.sql_exec.specs.Changes.{StandsLast}
use Rattle.sql_exec.specs.Inserts.{Written, insert_of}
use Rattle.sql_exec.proofs.StateLemmas.{live_more}
use Rattle.sql_exec.proofs.TableLemmas.{found_changed, bytes_changed}
use Rattle.sql_exec.proofs.InsertLemmas.{inserted_free, inserted_sum}

-- the rows with one more
abbrev more_rows : Option ℕ → List Value → List (List Value) → List (List Value)
more_rows key row rows = unwrap_or (inserted key row rows) rows

-- what the insert makes of its table
made : (table : List ℕ) (schema : Schema) (row : List Value) (t : Table) → schema ≡ t.definition.schema → is_key_taken schema.key t.rows row ≡ false
    → changed (insert_of table schema row) t ≡ (record { definition = t.definition; rows = more_rows schema.key row t.rows }) ∷ []
made table schema row t same free =
    let suits : same_schema schema t.definition.schema ≡ true = ap (same_schema schema) (sym same) ∙ same_schema_refl schema in
    let put : inserted t.definition.schema.key row t.rows ≡ Some (more_rows schema.key row t.rows) =
    ap (λ (s : Schema). inserted s.key row t.rows) (sym same) ∙ inserted_free schema.key row t.rows free in
    ap (λ (o : Option (List (List Value))). with_rows t o ∷ [])
    (cond_true (same_schema schema t.definition.schema) (inserted t.definition.schema.key row t.rows) None suits ∙ put)

bytes_more : (t : Table) (key : Option ℕ) (row : List Value) → is_key_taken key t.rows row ≡ false
    → table_bytes (record { definition = t.definition; rows = more_rows key row t.rows }) ≡ table_bytes t + row_bytes row
bytes_more t key row free =
    let sum = inserted_sum (λ (r : List Value). length (row_image r)) key row t.rows free in
    omega (arith, sum)

on_found : (txn : ℕ) (table : List ℕ) (schema : Schema) (row : List Value) (s : EngineState) (o : Option Table) → StandsLast txn s → table_named table (live_tables s) ≡ o
    → schema_found o ≡ Some schema → is_key_taken schema.key (rows_found o) row ≡ false → Written table schema row s (with_change txn (insert_of table schema row) s)
on_found txn table schema row s None last found is free = cc
on_found txn table schema row s (Some t) last found is free =
    let same : schema ≡ t.definition.schema = inner is in
    let u : Table = record { definition = t.definition; rows = more_rows schema.key row t.rows } in
    let makes = made table schema row t same free in
    let live = live_more txn (insert_of table schema row) s last in
    let now : table_named table (live_tables (with_change txn (insert_of table schema row) s)) ≡ Some u =
    ap (table_named table) live ∙ found_changed table (changed (insert_of table schema row)) t u (live_tables s) found makes refl in
    let all = bytes_changed table (changed (insert_of table schema row)) t u (live_tables s) found makes in
    let one : table_bytes u ≡ table_bytes t + row_bytes row = bytes_more t schema.key row free in
    let same_bytes : live_bytes (live_tables (with_change txn (insert_of table schema row) s)) ≡ live_bytes (at_table table (changed (insert_of table schema row)) (live_tables s)) =
    ap live_bytes live in
    record {
      schema = ap schema_found now ∙ ap Some (sym same);
      rows = ap rows_found now ∙ ap (λ (x : Option Table). more_rows schema.key row (rows_found x)) (sym found);
      bytes = omega (arith, same_bytes, all, one);
    }
  where
    inner : Some t.definition.schema ≡ Some schema → schema ≡ t.definition.schema
    inner e = cc

-- A row whose key is not there goes into the live table.
pub written_more : (txn : ℕ) (table : List ℕ) (schema : Schema) (row : List Value) (s : EngineState) → StandsLast txn s → live_schema table s ≡ Some schema
    → is_key_taken schema.key (live_rows table s) row ≡ false → Written table schema row s (with_change txn (insert_of table schema row) s)
written_more txn table schema row s last is free = on_found txn table schema row s (table_named table (live_tables s)) last refl is free
