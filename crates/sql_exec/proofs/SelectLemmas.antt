-- A plan of a SELECT, on the engine that has its table.
use Rattle.std.proofs.Common.{◌≡◌, ℕ, List, Option, Some, None, Bool, refl, sym, ap, subst, ◌∙◌, IsTrue}
use Rattle.std.specs.Prelude.{map, is_some, Result, Ok, Err, OnOk, IfOk, IfErr}
use Rattle.std.specs.declared.vec.Vec.{Vec}
use Rattle.std.specs.declared.alloc.Global.{Global}
use Rattle.disk_model.specs.File.{File}
use Rattle.sql_value.specs.declared.refusal.Refusal.{Refusal}
use Rattle.sql_value.specs.declared.value.Value.{Value}
use Rattle.row_format.specs.declared.schema.Column.{Column}
use Rattle.row_format.specs.declared.schema.Schema.{Schema}
use Rattle.row_format.specs.Rows.{first_of_two}
use Rattle.log_tables.specs.declared.table.Table.{Table}
use Rattle.log_tables.specs.Tables.{table_named}
use Rattle.engine_api.specs.States.{Kind, EngineState, live_tables}
use Rattle.engine_api.specs.Reads.{Reading, EachReads}
use Rattle.engine_api.specs.Calls.{IsSame}
use Rattle.engine_api.specs.Many.{IsAtWork, working}
use Rattle.engine_api.specs.Live.{IsLive, IsKeyFor, live_schema, live_rows, live_row, schema_found, rows_found, row_found, row_at}
use Rattle.engine_api.proofs.ManyLemmas.{reads_as}
use Rattle.sql_text.specs.declared.statement.Cond.{Cond}
use Rattle.sql_text.specs.declared.statement.Statement.{Statement}
use Rattle.sql_text.specs.declared.statement.Statement.TheVariants as statement
use Rattle.sql_plan.specs.declared.shape.Path.TheVariants as path
use Rattle.sql_plan.specs.declared.shape.Plan.{Plan}
use Rattle.sql_plan.specs.Plans.{use_refusal, path_of}
use Rattle.sql_effect.specs.Select.{search_refusal, picked, selected}
use Rattle.sql_exec.specs.declared.fault.ExecFault.{ExecFault}
use Rattle.sql_exec.specs.Found.{listed}
use Rattle.sql_exec.specs.CarriesOut.{MayFail}
use Rattle.sql_exec.specs.Selects.{CanSelect, IsInOrder, IsSelectOn, Searches, Selects, refusal_of, rows_of}
use Rattle.sql_exec.proofs.FaultLemmas.{call_may}
use Rattle.sql_exec.proofs.RunLemmas.{on_ok}
use Rattle.sql_exec.proofs.KeyLemmas.{chosen_by_key, key_fits}

-- an engine that is the same, in the same state, is at work on the same files
pub still_at_work : (kind kind_new : Kind) (reading reading_new : Reading) (s new : EngineState) (held holds : List File → Type 0) (files : ℕ → File)
    → IsAtWork (working kind reading s held) files → IsSame kind kind_new reading reading_new → new ≡ s → ((fs : List File) → held fs → holds fs)
    → IsAtWork (working kind_new reading_new new holds) files
still_at_work kind kind_new reading reading_new s new held holds files work same is keeps =
    let at : map files kind_new.files ≡ map files kind.files = ap (λ (k : Kind). map files k.files) same.kind in
    record {
      holds = subst holds (sym at) (keeps (map files kind.files) work.holds);
      reads = subst (EachReads reading_new new.kept) (sym at)
          (reads_as reading_new reading new.kept new.kept (map files kind.files)
          (record { faithful = same.reading.faithful_back; faithful_back = same.reading.faithful; stands = same.reading.stands_back; stands_back = same.reading.stands })
          (λ g h. h) (subst (λ (t : EngineState). EachReads reading t.kept (map files kind.files)) (sym is) work.reads));
    }

-- what an engine at work tells of its files
pub work_tells : (kind : Kind) (reading : Reading) (s : EngineState) (held : List File → Type 0) (files : ℕ → File) → IsAtWork (working kind reading s held) files
    → held (map files kind.files) × EachReads reading s.kept (map files kind.files)
work_tells kind reading s held files work = (work.holds, work.reads)

-- a table whose schema is known is live
found_live : (o : Option Table) (schema : Schema) → schema_found o ≡ Some schema → IsTrue (is_some o)
found_live None schema is = cc
found_live (Some it) schema is = refl

pub live_of : (table : List ℕ) (schema : Schema) (s : EngineState) → live_schema table s ≡ Some schema → IsLive table s
live_of table schema s is = found_live (table_named table (live_tables s)) schema is

-- its row with a key is that of its rows
found_row : (o : Option Table) (schema : Schema) (key : Value) → schema_found o ≡ Some schema → row_at schema.key (rows_found o) key ≡ row_found o key
found_row None schema key is = cc
found_row (Some it) schema key is = ap (λ (t : Schema). row_at t.key it.rows key) (same is)
  where
    same : Some it.definition.schema ≡ Some schema → schema ≡ it.definition.schema
    same e = cc

-- what is known of the plan, for a SELECT
pub record PlanKnown (table : List ℕ) (names : Option (List (List ℕ))) (w : Option Cond) (plan : Plan) (s : EngineState) : Type 0 where
  pub on : IsSelectOn (statement.Select table names w) plan.schema s
  pub granted : use_refusal (statement.Select table names w) plan.schema.columns ≡ None
  pub path : plan.path ≡ path_of (statement.Select table names w) plan.schema

pub plan_known : (table : List ℕ) (names : Option (List (List ℕ))) (w : Option Cond) (plan : Plan) (s : EngineState) → CanSelect plan s → plan.work ≡ statement.Select table names w
    → PlanKnown table names w plan s
plan_known table names w plan s can is = record {
  on = subst (λ (x : Statement). IsSelectOn x plan.schema s) is can.select;
  granted = subst (λ (x : Statement). use_refusal x plan.schema.columns ≡ None) is can.granted;
  path = subst (λ (x : Statement). plan.path ≡ path_of x plan.schema) is can.path;
}

granted_second : (a b : Option Refusal) → first_of_two a b ≡ None → b ≡ None
granted_second None b is = is
granted_second (Some r) b is = cc

-- the key of the plan can be a key of its table
pub plan_key : (table : List ℕ) (names : Option (List (List ℕ))) (w : Option Cond) (plan : Plan) (s : EngineState) (key : Value) → CanSelect plan s
    → plan.work ≡ statement.Select table names w → plan.path ≡ path.Key key → IsKeyFor (live_schema table s) key
plan_key table names w plan s key can is by =
    let known = plan_known table names w plan s can is in
    subst (λ (o : Option Schema). IsKeyFor o key) (sym known.on)
    (key_fits plan.schema w key can.schema (sym known.path ∙ by) (granted_second _ _ known.granted))

-- by key the SELECT answers the row with that key, if there is one, and is not refused
pub by_key : (table : List ℕ) (names : Option (List (List ℕ))) (w : Option Cond) (plan : Plan) (s : EngineState) (key : Value) → CanSelect plan s
    → plan.work ≡ statement.Select table names w → plan.path ≡ path.Key key → IsInOrder plan.work plan.schema s
    → (map (picked plan.schema.columns names) (listed (live_row table key s)) ≡ rows_of plan.work plan.schema.columns s) × (refusal_of plan.work plan.schema.columns s ≡ None)
by_key table names w plan s key can is by order =
    let known = plan_known table names w plan s can is in
    let ordered = subst (λ (x : Statement). IsInOrder x plan.schema s) is order in
    let found = chosen_by_key plan.schema w key (live_rows table s) can.schema ordered (sym known.path ∙ by) in (
      ap (λ (o : Option (List Value)). map (picked plan.schema.columns names) (listed o)) (sym (found_row (table_named table (live_tables s)) plan.schema key known.on))
          ∙ ap (map (picked plan.schema.columns names)) (sym found.0)
          ∙ ap (λ (x : Statement). rows_of x plan.schema.columns s) (sym is),
      ap (λ (x : Statement). refusal_of x plan.schema.columns s) is ∙ found.1,
    )

if_err_all : {T : Type 0} (r : Result T ExecFault) (P Q : ExecFault → Type 0) → ((e : ExecFault) → P e → Q e) → IfErr r P → IfErr r Q
if_err_all (Ok value) P Q f p = tt
if_err_all (Err e) P Q f p = f e p

-- A plan by key was carried out.
pub key_selects : (table : List ℕ) (names : Option (List (List ℕ))) (w : Option Cond) (plan : Plan) (s : EngineState) (key : Value) (columns : List Column) (files : List ℕ) (told : Bool)
    (result : Result (Vec (List Value) Global) ExecFault) → CanSelect plan s → plan.work ≡ statement.Select table names w → plan.path ≡ path.Key key → columns ≡ plan.schema.columns
    → IfOk result (λ it. it.items ≡ map (picked columns names) (listed (live_row table key s))) → IfErr result (MayFail None files told) → Selects plan s files told result
key_selects table names w plan s key columns files told result can is by same rows may =
    let found = by_key table names w plan s key can is by in
    record {
      granted = λ order. on_ok result (found order).1;
      answer = λ order. subst (λ (xs : List (List Value)). IfOk result (λ it. it.items ≡ xs)) (found order).0
          (subst (λ (cs : List Column). IfOk result (λ it. it.items ≡ map (picked cs names) (listed (live_row table key s)))) same rows);
      err = if_err_all result (MayFail None files told) (MayFail (refusal_of plan.work plan.schema.columns s) files told)
          (λ e it. call_may (refusal_of plan.work plan.schema.columns s) files told e it) may;
    }

-- A plan by a scan was carried out.
pub scan_selects : (table : List ℕ) (names : Option (List (List ℕ))) (w : Option Cond) (plan : Plan) (s : EngineState) (columns : List Column) (files : List ℕ) (told : Bool)
    (result : Result (Vec (List Value) Global) ExecFault) → plan.work ≡ statement.Select table names w → columns ≡ plan.schema.columns
    → Searches columns names w (live_rows table s) files told result → Selects plan s files told result
scan_selects table names w plan s columns files told result is same searches =
    let refusal : search_refusal columns w (live_rows table s) ≡ refusal_of plan.work plan.schema.columns s =
    ap (λ (cs : List Column). search_refusal cs w (live_rows table s)) same ∙ ap (λ (x : Statement). refusal_of x plan.schema.columns s) (sym is) in
    let rows : selected columns names w (live_rows table s) ≡ rows_of plan.work plan.schema.columns s =
    ap (λ (cs : List Column). selected cs names w (live_rows table s)) same ∙ ap (λ (x : Statement). rows_of x plan.schema.columns s) (sym is) in
    record {
      granted = λ order. subst (λ (o : Option Refusal). OnOk result (o ≡ None)) refusal searches.granted;
      answer = λ order. subst (λ (xs : List (List Value)). IfOk result (λ it. it.items ≡ xs)) rows searches.answer;
      err = subst (λ (o : Option Refusal). IfErr result (MayFail o files told)) refusal searches.err;
    }
