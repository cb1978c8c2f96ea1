-- What the place of a table tells of the tables after a change.
use Rattle.std.proofs.Common.{◌≡◌, ℕ, suc, ◌+◌, ◌-◌, ◌<◌, ◌≤◌, List, [], ◌∷◌, ◌++◌, length, get_or, set, Some, None, Bool, true, false, position, refl, sym, ap, subst, ◌∙◌, arith}
use Rattle.std.specs.Prelude.{cond, is_some}
use Rattle.std.specs.List.{position_or_len, remove}
use Rattle.std.proofs.lemmas.Bool.{cond-true, cond-false, ltb-true, ltb-false, and_parts}
use Rattle.std.proofs.lemmas.List.Sums.{sum_by-cons}
use Rattle.std.proofs.lemmas.List.Recursion.{is_position_or_len}
use Rattle.std.proofs.lemmas.Option.{cond_some}
use Rattle.row_format.specs.declared.change.Change.{Change}
use Rattle.row_format.specs.declared.change.Change.TheVariants.{Create}
use Rattle.log_tables.specs.declared.table.Table.{Table}
use Rattle.log_tables.specs.declared.table.Definition.{Definition}
use Rattle.log_tables.specs.Tables.{is_named, table_named, at_table, place_named, new_table}
use Rattle.log_tables.specs.Changes.{after_change, all_apply, applies, changed, with_rows, rows_after}
use Rattle.log_tables.proofs.PlainLemmas.{table_named-there, table_named-nowhere, at_table-set, at_table-remove, at_table-nowhere}
use Rattle.engine_api.specs.Live.{live_bytes}
use Rattle.live_tables.specs.Bytes.{capped}
use Rattle.live_tables.specs.Folds.{AreMade, change_bytes, freed}
use Rattle.live_tables.specs.Live.{most_bytes, CanMake}
use Rattle.live_tables.proofs.MadeLemmas.{made_after}
use Rattle.live_tables.proofs.FoldLemmas.{bytes_one}

place_is : (n : List ℕ) (ts : List Table) → place_named n ts ≡ position_or_len (is_named n) ts
place_is n ts = is_position_or_len (place_named n) (is_named n) refl (λ t rest. ap (λ (k : ℕ). cond (is_named n t) 0 k) (one (place_named n rest))) ts
  where
    one : (k : ℕ) → suc k ≡ 1 + k
    one k = omega arith

there : {X : Type 0} (b : Bool) (x : X) → is_some (cond b (Some x) None) ≡ true → b ≡ true
there true x is = refl
there false x is = is

nowhere : {X : Type 0} (b : Bool) (x : X) → is_some (cond b (Some x) None) ≡ false → b ≡ false
nowhere true x is = is
nowhere false x is = refl

past_all : (n : List ℕ) (ts : List Table) → is_some (position (is_named n) ts) ≡ false → length ts ≤ place_named n ts
past_all n ts none =
    let past : length ts ≤ position_or_len (is_named n) ts = ltb-false (position_or_len (is_named n) ts) (length ts) (nowhere _ (position_or_len (is_named n) ts) none) in
    let same = place_is n ts in
    omega arith

-- A Create of a name that has a place leaves the tables.
pub create_taken : (d : Definition) (ts : List Table) → is_some (position (is_named d.table) ts) ≡ true → ts ≡ after_change (Create d.table d.engine d.schema) ts
create_taken d ts some =
    let within : position_or_len (is_named d.table) ts < length ts = ltb-true (position_or_len (is_named d.table) ts) (length ts) (there _ (position_or_len (is_named d.table) ts) some) in
    let same = place_is d.table ts in
    let before : place_named d.table ts < length ts = omega arith in
    sym (cond-true (is_some (table_named d.table ts)) ts (ts ++ new_table d.table d.engine d.schema ∷ []) (table_named-there d.table ts before))

-- A Create of a name that has none adds a table at the end.
pub create_added : (d : Definition) (ts : List Table) (t : Table) → is_some (position (is_named d.table) ts) ≡ false → t ≡ record { definition = d; rows = [] }
    → ts ++ t ∷ [] ≡ after_change (Create d.table d.engine d.schema) ts
create_added d ts t none is =
    let free = ap is_some (table_named-nowhere d.table ts (past_all d.table ts none)) in
    ap (λ (it : Table). ts ++ it ∷ []) is ∙ sym (cond-false (is_some (table_named d.table ts)) ts (ts ++ new_table d.table d.engine d.schema ∷ []) free)

within_all : (n : List ℕ) (ts : List Table) (i : ℕ) → Some i ≡ position (is_named n) ts → (place_named n ts < length ts) × (i ≡ place_named n ts)
within_all n ts i is =
    let found = cond_some _ (position_or_len (is_named n) ts) i (sym is) in
    let within : position_or_len (is_named n) ts < length ts = ltb-true (position_or_len (is_named n) ts) (length ts) found.0 in
    let same = place_is n ts in
    (omega arith, sym found.1 ∙ sym same)

-- A row change is made at the place of its table.
pub changed_there : (n : List ℕ) (c : Change) (ts : List Table) (i : ℕ) (t new : Table) → Some i ≡ position (is_named n) ts → t ≡ get_or ts i t → new ≡ with_rows t (rows_after c t)
    → set ts i new ≡ at_table n (changed c) ts
changed_there n c ts i t new is at after =
    let place = within_all n ts i is in
    let make = λ (it : Table). with_rows it (rows_after c it) in
    ap (λ (it : Table). set ts i it) after
    ∙ ap (λ (it : Table). set ts i (make it)) at
    ∙ ap (λ (k : ℕ). set ts k (make (get_or ts k t))) place.1
    ∙ sym (at_table-set n make ts t place.0)

-- A change for a name that has no place leaves the tables.
pub changed_nowhere : (n : List ℕ) (make : Table → List Table) (ts : List Table) → None ≡ position (is_named n) ts → ts ≡ at_table n make ts
changed_nowhere n make ts is = sym (at_table-nowhere n make ts (past_all n ts (sym (ap is_some is))))

-- A table is taken out at its place.
pub dropped_there : (n : List ℕ) (ts : List Table) (i : ℕ) → Some i ≡ position (is_named n) ts → remove ts i ≡ at_table n (λ _. []) ts
dropped_there n ts i is =
    let place = within_all n ts i is in
    ap (remove ts) place.1 ∙ sym (at_table-remove n ts place.0)

-- A change that is made and counted: the bytes before and after.
pub made_bytes : (c : Change) (ts us : List Table) (committed more less : ℕ) → AreMade ts → applies c ts ≡ true → committed ≡ live_bytes ts → committed + change_bytes c ≤ most_bytes
    → more ≡ capped (change_bytes c) → less ≡ capped (freed c ts) → us ≡ after_change c ts
    → (more ≡ change_bytes c) × (less ≤ committed + more) × ((committed + more) - less ≡ live_bytes us)
made_bytes c ts us committed more less made fit counted small more_is less_is after =
    let bytes = bytes_one c ts fit made.rows in
    let new = ap live_bytes after in (
      omega (arith, more_is, small),
      omega (arith, more_is, less_is, small, bytes, counted),
      omega (arith, more_is, less_is, small, bytes, counted, new),
    )

-- One change less can be made.
pub can_make_rest : (c : Change) (cs : List Change) (ts us : List Table) (committed now more : ℕ) → CanMake ts (c ∷ cs) committed → us ≡ after_change c ts → now ≡ live_bytes us
    → more ≡ change_bytes c → now ≤ committed + more → CanMake us cs now
can_make_rest c cs ts us committed now more can after counted is within =
    let both = and_parts (applies c ts) (all_apply cs (after_change c ts)) can.fit in
    let all = sum_by-cons change_bytes c cs in
    record {
      made = subst AreMade (sym after) (made_after c ts can.made);
      fit = ap (all_apply cs) after ∙ both.1;
      committed_is = counted;
      small = omega (arith, can.small, all, is, within);
    }
