-- Why a row is put into a live table, or not.
use Rattle.std.proofs.Common.{◌≡◌, ◌≤◌, ◌+◌, ℕ, zero, suc, List, [], ◌∷◌, Option, Some, None, Bool, true, false, refl, sym, ap, ◌∙◌, arith}
use Rattle.std.proofs.lemmas.Bool.{le-leb}
use Rattle.std.proofs.lemmas.Bool.Decides.{nat_tests}
use Rattle.std.specs.Prelude.{nat_le, not, Contains}
use Rattle.sql_value.specs.declared.refusal.Refusal.{Refusal}
use Rattle.sql_value.specs.declared.refusal.Refusal.TheVariants.{DuplicateEntry, TableFull}
use Rattle.sql_value.specs.declared.value.Value.{Value}
use Rattle.row_format.specs.declared.schema.Schema.{Schema}
use Rattle.row_format.specs.Rows.{row_refusal, first_of_two}
use Rattle.log_tables.specs.declared.table.Table.{Table}
use Rattle.log_tables.specs.Tables.{table_named}
use Rattle.engine_api.specs.declared.fault.Code.{Code}
use Rattle.engine_api.specs.declared.fault.Code.TheVariants.{Duplicate, Full}
use Rattle.engine_api.specs.States.{EngineState, live_tables, with_change}
use Rattle.engine_api.specs.Live.{live_bytes, live_limit, live_schema, live_rows, schema_found, rows_found, is_taken, is_taken_in, is_key_taken, wrote_state, with_insert, insert_into, HasRoom}
use Rattle.sql_plan.specs.Plans.{unless}
use Rattle.sql_effect.specs.Insert.{place_refusal}
use Rattle.sql_effect.specs.Sizes.{row_bytes, room_refusal}
use Rattle.sql_exec.specs.Inserts.{CanPut, insert_of, put_refusal}
use Rattle.sql_exec.proofs.WrittenLemmas.{written_more}

-- the engine's state after the row is the one with the row's insert
pub wrote_is : (txn : ℕ) (table : List ℕ) (schema : Schema) (row : List Value) (s : EngineState) → live_schema table s ≡ Some schema
    → wrote_state txn table row s ≡ with_change txn (insert_of table schema row) s
wrote_is txn table schema row s live = ap (λ (o : Option Schema). with_insert txn (insert_into table o row) s) live

taken_found : (o : Option Table) (schema : Schema) (row : List Value) → schema_found o ≡ Some schema → is_taken_in o row ≡ is_key_taken schema.key (rows_found o) row
taken_found None schema row is = cc
taken_found (Some t) schema row is = ap (λ (s : Schema). is_key_taken s.key t.rows row) (inner is)
  where
    inner : Some t.definition.schema ≡ Some schema → t.definition.schema ≡ schema
    inner e = cc

-- the engine's word for a key that is there
pub taken_is : (table : List ℕ) (schema : Schema) (row : List Value) (s : EngineState) → live_schema table s ≡ Some schema
    → is_taken table row s ≡ is_key_taken schema.key (live_rows table s) row
taken_is table schema row s live = taken_found (table_named table (live_tables s)) schema row live

pub le_true : (a b : ℕ) → a ≤ b → nat_le a b ≡ true
le_true a b le = le-leb a b le

pub le_false : (a b : ℕ) → (a ≤ b → ⊥) → nat_le a b ≡ false
le_false a b none = go (nat_le a b) refl
  where
    go : (x : Bool) → nat_le a b ≡ x → nat_le a b ≡ false
    go true is = absurd (none (grind (arith, nat_tests, is)))
    go false is = is

-- a row that fits, and whose key is not there, is refused for room alone
for_room : (table : List ℕ) (schema : Schema) (row : List Value) (s : EngineState) → row_refusal schema row ≡ None → is_key_taken schema.key (live_rows table s) row ≡ false
    → put_refusal table schema row s ≡ room_refusal (live_bytes (live_tables s) + row_bytes row)
for_room table schema row s fits free =
    ap (λ (o : Option Refusal). first_of_two o (place_refusal schema.key (live_rows table s) row (live_bytes (live_tables s) + row_bytes row))) fits
    ∙ ap (λ (b : Bool). first_of_two (unless (not b) DuplicateEntry) (room_refusal (live_bytes (live_tables s) + row_bytes row))) free

bytes_after : (txn : ℕ) (table : List ℕ) (schema : Schema) (row : List Value) (s : EngineState) → CanPut txn table schema row s → is_taken table row s ≡ false
    → live_bytes (live_tables (wrote_state txn table row s)) ≡ live_bytes (live_tables s) + row_bytes row
bytes_after txn table schema row s can free =
    ap (λ (e : EngineState). live_bytes (live_tables e)) (wrote_is txn table schema row s can.live)
    ∙ (written_more txn table schema row s can.last can.live (sym (taken_is table schema row s can.live) ∙ free)).bytes

-- A row that went in was not refused.
pub put_granted : (txn : ℕ) (table : List ℕ) (schema : Schema) (row : List Value) (s new : EngineState) → CanPut txn table schema row s → row_refusal schema row ≡ None
    → is_taken table row s ≡ false → new ≡ wrote_state txn table row s → HasRoom new → put_refusal table schema row s ≡ None
put_granted txn table schema row s new can fits free is room =
    let bytes = ap (λ (e : EngineState). live_bytes (live_tables e)) is ∙ bytes_after txn table schema row s can free in
    for_room table schema row s fits (sym (taken_is table schema row s can.live) ∙ free)
    ∙ ap (λ (b : Bool). unless b TableFull) (le_true (live_bytes (live_tables s) + row_bytes row) live_limit (omega (arith, bytes, room)))

-- There is no room for a row.
pub put_full : (txn : ℕ) (table : List ℕ) (schema : Schema) (row : List Value) (s : EngineState) → CanPut txn table schema row s → row_refusal schema row ≡ None
    → is_taken table row s ≡ false → (HasRoom (wrote_state txn table row s) → ⊥) → put_refusal table schema row s ≡ Some TableFull
put_full txn table schema row s can fits free none =
    let bytes = bytes_after txn table schema row s can free in
    for_room table schema row s fits (sym (taken_is table schema row s can.live) ∙ free)
    ∙ ap (λ (b : Bool). unless b TableFull) (le_false (live_bytes (live_tables s) + row_bytes row) live_limit (λ le. none (omega (arith, bytes, le))))

-- no code but these two
pub one_of_two : (it : Code) → Contains (Duplicate ∷ Full ∷ []) it → (it ≡ Duplicate → ⊥) → (it ≡ Full → ⊥) → ⊥
one_of_two it (zero, lt, is) first second = first (sym is)
one_of_two it (suc zero, lt, is) first second = second (sym is)
one_of_two it (suc (suc n), lt, is) first second = absurd (omega (arith, lt))
