-- What is found under a name in the tables and in two lists of changes.
use Rattle.std.proofs.Common.{◌≡◌, ℕ, ◌+◌, ◌≤◌, List, [], ◌∷◌, length, Bool, cond, Option, Some, None, true, false, not, ◌&&◌, sym, ap, subst, ◌∙◌, arith}
use Rattle.sql_value.specs.declared.value.Value.{Value}
use Rattle.row_format.specs.declared.schema.Schema.{Schema}
use Rattle.row_format.specs.declared.change.Change.{Change}
use Rattle.row_format.specs.declared.change.Change.TheVariants.{Install, Uninstall, Create, Drop, Insert, Update, Delete}
use Rattle.row_format.proofs.SameLemmas.{same_schema_refl}
use Rattle.log_tables.specs.declared.table.Table.{Table}
use Rattle.log_tables.specs.Tables.{table_named}
use Rattle.log_tables.specs.Changes.{after_changes, all_apply, takes, applies, names_table}
use Rattle.engine_api.specs.States.{EngineState, live_tables}
use Rattle.engine_api.specs.Live.{schema_found, rows_found, is_taken_in, is_taken, live_schema, insert_into, IsRowFor}
use Rattle.live_tables.specs.Folds.{AreMade, through, schema_step, rows_own, rows_step}
use Rattle.live_tables.proofs.MadeLemmas.{all_made}
use Rattle.live_tables.proofs.RowBehindLemmas.{takes_found}
use Rattle.live_tables.proofs.FoldLemmas.{schema_after, count_after}

-- The schema under a name, behind two lists of changes.
pub schema_behind : (n : List ℕ) (cs ds : List Change) (ts : List Table) → AreMade ts
    → through (schema_step n) ds (through (schema_step n) cs (schema_found (table_named n ts))) ≡ schema_found (table_named n (after_changes ds (after_changes cs ts)))
schema_behind n cs ds ts made =
    sym (schema_after n ds (after_changes cs ts) (all_made cs ts made) ∙ ap (through (schema_step n) ds) (schema_after n cs ts made))

-- How many rows.
pub count_behind : (n : List ℕ) (cs ds : List Change) (ts : List Table) → AreMade ts → all_apply cs ts ≡ true → all_apply ds (after_changes cs ts) ≡ true
    → through (rows_step n) ds (through (rows_step n) cs (length (rows_found (table_named n ts)))) ≡ length (rows_found (table_named n (after_changes ds (after_changes cs ts))))
count_behind n cs ds ts made fit more =
    sym (count_after n ds (after_changes cs ts) (all_made cs ts made) more ∙ ap (through (rows_step n) ds) (count_after n cs ts made fit))

-- A row made for the schema of what was found goes into it exactly where its key is not taken.
takes_row : (n : List ℕ) (s : Schema) (row : List Value) (o : Option Table) → schema_found o ≡ Some s → takes (Insert (record { table = n; schema = s }) row) o ≡ not (is_taken_in o row)
takes_row n s row o is =
    sym (takes_found (record { table = n; schema = s }) row o s (sym is)) ∙ ap (λ b. b && not (is_taken_in o row)) (same_schema_refl s)

pub insert_applies : (n : List ℕ) (s : Schema) (row : List Value) (ts : List Table) → schema_found (table_named n ts) ≡ Some s
    → applies (Insert (record { table = n; schema = s }) row) ts ≡ not (is_taken_in (table_named n ts) row)
insert_applies n s row ts is = takes_row n s row (table_named n ts) is

-- A row whose key is free can be added.
pub insert_fits : (n : List ℕ) (row : List Value) (change : Change) (o : Option Schema) (state : EngineState) → o ≡ live_schema n state → IsRowFor o row → Some change ≡ insert_into n o row
    → is_taken n row state ≡ false → applies change (live_tables state) ≡ true
insert_fits n row change None state at is into free = absurd is
insert_fits n row change (Some s) state at is into free =
    subst (λ c. applies c (live_tables state) ≡ true) (some (sym into)) (insert_applies n s row (live_tables state) (sym at) ∙ ap not free)
  where
    some : {a b : Change} → Some a ≡ Some b → a ≡ b
    some q = cc

rows_own_within : (c : Change) (count : ℕ) → rows_own c count ≤ count + 1
rows_own_within (Drop m) count = omega arith
rows_own_within (Insert map row) count = omega arith
rows_own_within (Delete map place before) count = omega arith
rows_own_within (Update map place before after) count = omega arith
rows_own_within (Create m e s) count = omega arith
rows_own_within (Install e) count = omega arith
rows_own_within (Uninstall e) count = omega arith

one_within : (b : Bool) (c : Change) (count : ℕ) → cond b (rows_own c count) count ≤ count + 1
one_within true c count = rows_own_within c count
one_within false c count = omega arith

-- Changes add at most as many rows as they are.
pub through_within : (n : List ℕ) (cs : List Change) (count : ℕ) → through (rows_step n) cs count ≤ count + length cs
through_within n [] count = omega arith
through_within n (c ∷ cs) count =
    let first = one_within (names_table n c) c count in
    let rest = through_within n cs (rows_step n c count) in
    omega (arith, first, rest)

pub rows_within : (n : List ℕ) (cs : List Change) (ts : List Table) → AreMade ts → all_apply cs ts ≡ true
    → length (rows_found (table_named n (after_changes cs ts))) ≤ length (rows_found (table_named n ts)) + length cs
rows_within n cs ts made fit = let all = count_after n cs ts made fit in let few = through_within n cs (length (rows_found (table_named n ts))) in omega (arith, all, few)
