-- A table is made.
use Rattle.std.proofs.Common.{◌≡◌, ◌+◌, ℕ, List, [], ◌∷◌, ◌++◌, Option, Some, None, Bool, false, refl, sym, ap, ◌∙◌, arith}
use Rattle.std.specs.Prelude.{is_some, Result, Ok, Err}
use Rattle.std.specs.Result.{result_err}
use Rattle.std.proofs.lemmas.List.Sums.{sum_by-append, sum_by-cons}
use Rattle.sql_value.specs.declared.refusal.Refusal.TheVariants.{TableFull}
use Rattle.row_format.specs.declared.schema.Schema.{Schema}
use Rattle.row_format.specs.declared.change.Change.TheVariants.{Create}
use Rattle.log_tables.specs.declared.table.Table.{Table}
use Rattle.log_tables.specs.Tables.{table_named, new_table}
use Rattle.log_tables.proofs.PartLemmas.{cond_false}
use Rattle.engine_api.specs.declared.fault.Code.{Code}
use Rattle.engine_api.specs.declared.fault.Code.TheVariants.{Full}
use Rattle.engine_api.specs.declared.fault.EngineFault.{EngineFault}
use Rattle.engine_api.specs.declared.fault.EngineFault.TheVariants as engine
use Rattle.engine_api.specs.Calls.{AnswersAlone}
use Rattle.engine_api.specs.States.{Kind, EngineState, live_tables, with_change}
use Rattle.engine_api.specs.Live.{live_bytes, live_limit, table_bytes, schema_found, HasRoom}
use Rattle.sql_plan.specs.Plans.{unless}
use Rattle.sql_effect.specs.declared.shape.Effect.{Effect}
use Rattle.sql_effect.specs.Effects.{makes}
use Rattle.sql_effect.specs.Rewrite.{refused_or}
use Rattle.sql_exec.specs.Faults.{FailsFor}
use Rattle.sql_exec.specs.Makes.{CanCreate, create_outcome, not_made}
use Rattle.sql_exec.proofs.FaultLemmas.{only_code}
use Rattle.sql_exec.proofs.PutLemmas.{le_true, le_false}
use Rattle.sql_exec.proofs.StateLemmas.{live_more}

not_found : (o : Option Table) → schema_found o ≡ None → is_some o ≡ false
not_found None is = refl
not_found (Some t) is = cc

create_bytes : (txn : ℕ) (table : List ℕ) (schema : Schema) (kind : Kind) (s : EngineState) → CanCreate txn table schema kind s
    → live_bytes (live_tables (with_change txn (Create table kind.name schema) s)) ≡ live_bytes (live_tables s) + table_bytes (new_table table kind.name schema)
create_bytes txn table schema kind s can =
    let tables = live_tables s in
    let new = new_table table kind.name schema in
    let now : live_bytes (live_tables (with_change txn (Create table kind.name schema) s)) ≡ live_bytes (tables ++ new ∷ []) =
    ap live_bytes (live_more txn (Create table kind.name schema) s can.last
    ∙ cond_false (is_some (table_named table tables)) tables (tables ++ new ∷ []) (not_found (table_named table tables) can.free)) in
    let both : live_bytes (tables ++ new ∷ []) ≡ live_bytes tables + live_bytes (new ∷ []) = sum_by-append table_bytes tables (new ∷ []) in
    let one : live_bytes (new ∷ []) ≡ table_bytes new + live_bytes [] = sum_by-cons table_bytes new [] in
    let none : live_bytes [] ≡ 0 = refl in
    omega (arith, now, both, one, none)

-- there is room for it
pub create_granted : (txn : ℕ) (table : List ℕ) (schema : Schema) (kind : Kind) (s new : EngineState) (effect : Effect) → CanCreate txn table schema kind s
    → new ≡ with_change txn (Create table kind.name schema) s → HasRoom new → effect ≡ makes (Create table kind.name schema) → create_outcome table schema kind s ≡ Ok effect
create_granted txn table schema kind s new effect can is room made =
    let bytes = ap (λ (e : EngineState). live_bytes (live_tables e)) is ∙ create_bytes txn table schema kind s can in
    ap (λ (b : Bool). refused_or (unless b TableFull) (Ok (makes (Create table kind.name schema))))
    (le_true (live_bytes (live_tables s) + table_bytes (new_table table kind.name schema)) live_limit (omega (arith, bytes, room)))
    ∙ ap Ok (sym made)

-- there is none
pub create_full : (txn : ℕ) (table : List ℕ) (schema : Schema) (kind : Kind) (s : EngineState) → CanCreate txn table schema kind s
    → (HasRoom (with_change txn (Create table kind.name schema) s) → ⊥) → result_err (create_outcome table schema kind s) ≡ Some TableFull
create_full txn table schema kind s can none =
    let bytes = create_bytes txn table schema kind s can in
    ap (λ (b : Bool). result_err (refused_or (unless b TableFull) (Ok (makes (Create table kind.name schema)))))
    (le_false (live_bytes (live_tables s) + table_bytes (new_table table kind.name schema)) live_limit (λ le. none (omega (arith, bytes, le))))

-- what is told where it is not made
pub create_err : (txn : ℕ) (table : List ℕ) (schema : Schema) (kind : Kind) (s : EngineState) (fault : EngineFault) (result : Result (Unit {0}) EngineFault) → CanCreate txn table schema kind s
    → result ≡ Err fault → AnswersAlone (Full ∷ []) result → (result ≡ Err (engine.Code Full) → HasRoom (with_change txn (Create table kind.name schema) s) → ⊥)
    → FailsFor (result_err (create_outcome table schema kind s)) (not_made fault)
create_err txn table schema kind s (engine.Code it) result can is answers full =
    let only = only_code Full it (answers (engine.Code it) is) in
    create_full txn table schema kind s can (full (is ∙ ap (λ (c : Code). Err (engine.Code c)) only))
create_err txn table schema kind s engine.Device result can is answers full = tt
create_err txn table schema kind s (engine.NotAVolume file) result can is answers full = tt
create_err txn table schema kind s engine.Memory result can is answers full = tt
