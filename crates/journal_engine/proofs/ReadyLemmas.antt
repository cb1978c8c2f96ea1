-- What the tests find out of an engine.
use Rattle.std.proofs.Common.{◌≡◌, ℕ, ℤ, Option, Some, List, [], ◌∷◌, map, IsTrue, false, refl, sym, subst, arith}
use Rattle.std.specs.Prelude.{slice_get}
use Rattle.std.specs.List.{list_any}
use Rattle.sql_value.specs.declared.value.Value.{Value}
use Rattle.sql_value.specs.declared.value.Value.TheVariants.{Int}
use Rattle.row_format.specs.declared.schema.Kind.{Kind}
use Rattle.row_format.specs.declared.schema.Kind.TheVariants.{BigInt}
use Rattle.row_format.specs.declared.schema.Column.{Column}
use Rattle.row_format.specs.declared.schema.Schema.{Schema}
use Rattle.log_tables.specs.declared.gist.Prepared.{Prepared}
use Rattle.log_tables.specs.Gists.{is_prepared}
use Rattle.engine_api.specs.States.{EngineState, Pending}
use Rattle.engine_api.specs.Live.{IsLeft, has_under, is_key_of, is_of_key, is_of_column, is_of_type}

-- where the only prepared xid is this one, it is prepared
pub one_prepared : (xid : ℕ) (prepared : List Prepared) → map (λ (it : Prepared). it.xid) prepared ≡ xid ∷ [] → IsTrue (is_prepared xid prepared)
one_prepared xid [] e = grind arith
one_prepared xid (it ∷ rest) e = grind arith

-- where it is the only one and nothing is pending, an earlier run prepared it
pub only_left : (xid : ℕ) (state : EngineState) → state.pending ≡ [] → map (λ (it : Prepared). it.xid) state.gist.prepared ≡ xid ∷ [] → IsLeft xid state
only_left xid state idle only = (one_prepared xid state.gist.prepared only, subst (λ (p : List Pending). list_any (has_under xid) p ≡ false) (sym idle) refl)

-- where the key is a BIGINT, a number can be one
pub number_key : (schema : Schema) (place : ℕ) (column : Column) (n : ℤ) (value : Value) → schema.key ≡ Some place → slice_get schema.columns place ≡ Some column → column.kind ≡ BigInt → value ≡ Int n → IsTrue (is_key_of schema value)
number_key schema place column n value key at kind is =
    subst (λ (k : Option ℕ). IsTrue (is_of_key schema.columns k value)) (sym key)
    (subst (λ (c : Option Column). IsTrue (is_of_column c value)) (sym at)
    (subst (λ (k : Kind). IsTrue (is_of_type k value)) (sym kind)
    (subst (λ (v : Value). IsTrue (is_of_type BigInt v)) (sym is) refl)))
