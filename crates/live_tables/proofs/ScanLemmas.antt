-- The rows of a live table by place, and by key.
use Rattle.std.proofs.Common.{◌≡◌, ℕ, ◌+◌, List, ◌++◌, Option, Some, None, Bool, cond, is_some, sym, ap, subst, ◌∙◌}
use Rattle.std.specs.Prelude.{slice_get, option_map}
use Rattle.sql_value.specs.declared.value.Value.{Value}
use Rattle.row_format.specs.declared.change.Change.{Change}
use Rattle.log_tables.specs.declared.table.Table.{Table}
use Rattle.log_tables.specs.declared.gist.Prepared.{Prepared}
use Rattle.log_tables.specs.Keys.{IsInKeyOrder, IsOrdered}
use Rattle.log_tables.specs.Tables.{table_named}
use Rattle.log_tables.specs.Changes.{after_changes}
use Rattle.log_tables.proofs.FoldLemmas.{after_changes-append}
use Rattle.engine_api.specs.States.{EngineState, Pending, changes_in, live_tables}
use Rattle.engine_api.specs.Live.{rows_found, row_at, row_found, live_rows, live_row}
use Rattle.engine_api.specs.Scans.{row_above, above_found, live_above}
use Rattle.live_tables.specs.Folds.{AreMade, Applied, row_in, key_found}
use Rattle.live_tables.specs.Live.{state_of, AreSound}
use Rattle.live_tables.specs.Places.{below, found_behind, Tells, WalksBack}
use Rattle.live_tables.proofs.FitLemmas.{both_apply}
use Rattle.live_tables.proofs.MadeLemmas.{IsInOrder, all_made, found_in_order}
use Rattle.live_tables.proofs.BelowLemmas.{above_at}

-- the same of lists that are the same

pub tells_at : (n : List ℕ) (ts us : List Table) (cs ds : List Change) (key : Option ℕ) (place : ℕ) (row : Option (List Value)) → us ≡ ts → ds ≡ cs → Tells n us ds key place row → Tells n ts cs key place row
tells_at n ts us cs ds key place row tables changes told =
    subst (λ (l : List Change). Tells n ts l key place row) changes (subst (λ (l : List Table). Tells n l ds key place row) tables told)

pub back_at : (n : List ℕ) (ts us : List Table) (whole wholes part parts : List Change) (key : Option ℕ) (place before : ℕ) → us ≡ ts → wholes ≡ whole → parts ≡ part
    → WalksBack n us wholes parts key place before → WalksBack n ts whole part key place before
back_at n ts us whole wholes part parts key place before tables changes fewer walked =
    subst (λ (l : List Change). WalksBack n ts whole l key place before) fewer
    (subst (λ (l : List Change). WalksBack n ts l parts key place before) changes (subst (λ (l : List Table). WalksBack n l wholes parts key place before) tables walked))

-- all that is done and pending applies
pub whole_applied : (ts : List Table) (done : List Change) (left : List Prepared) (ps : List Pending) → AreSound ts done left ps → Applied ts (done ++ changes_in ps)
whole_applied ts done left ps sound = record { made = sound.made; fit = both_apply done (changes_in ps) ts sound.done_fit sound.open_fit }

-- What stands under a name behind it is the live table.
pub found_live : (n : List ℕ) (ts : List Table) (done : List Change) (left : List Prepared) (ps : List Pending) (last : ℕ) (state : EngineState) → state_of ts done left ps last ≡ state
    → found_behind n ts (done ++ changes_in ps) ≡ table_named n (live_tables state)
found_live n ts done left ps last state is = ap (table_named n) (after_changes-append done (changes_in ps) ts) ∙ ap (λ s. table_named n (live_tables s)) is

-- The row that is told of a place is the live one.
pub row_live : (n : List ℕ) (ts : List Table) (done : List Change) (left : List Prepared) (ps : List Pending) (last : ℕ) (state : EngineState) (key : Option ℕ) (place : ℕ) (row : Option (List Value))
    → AreSound ts done left ps → state_of ts done left ps last ≡ state
    → key ≡ key_found (table_named n (live_tables state)) → Tells n ts (done ++ changes_in ps) key place row → row ≡ slice_get (live_rows n state) place
row_live n ts done left ps last state key place row sound is keyed tells =
    let found = found_live n ts done left ps last state is in
    let same_key = ap key_found found ∙ sym keyed in
    sym (tells (whole_applied ts done left ps sound) same_key) ∙ ap (row_in place) found

-- the row above a key of what was found
above_of : (o : Option Table) (column : ℕ) (key : Value) (place : ℕ) → Some column ≡ key_found o → IsInOrder o
    → place ≡ below column key (rows_found o) + cond (is_some (row_found o key)) 1 0 → slice_get (rows_found o) place ≡ above_found o key
above_of None column key place keyed ordered at = absurd (never keyed)
  where
    never : Some column ≡ None → ⊥
    never q = cc
above_of (Some t) column key place keyed ordered at =
    let by_key : IsInKeyOrder column t.rows = subst (λ k. IsOrdered k t.rows) (sym keyed) ordered in
    let here = ap (λ k. below column key t.rows + cond (is_some (row_at k t.rows key)) 1 0) (sym keyed) in
    ap (slice_get t.rows) (at ∙ here) ∙ sym (above_at column key t.rows by_key) ∙ ap (λ k. row_above k t.rows key) keyed

-- So many rows are below a key, and it has a row or none: there stands the row of the least key above it.
pub above_live : (n : List ℕ) (ts : List Table) (done : List Change) (left : List Prepared) (ps : List Pending) (last : ℕ) (state : EngineState) (column : ℕ) (key : Value) (low place : ℕ) (has : Bool)
    → AreSound ts done left ps → state_of ts done left ps last ≡ state → Some column ≡ key_found (table_named n (live_tables state))
    → (Applied ts (done ++ changes_in ps) → low ≡ below column key (rows_found (found_behind n ts (done ++ changes_in ps))))
    → has ≡ is_some (live_row n key state) → place ≡ low + cond has 1 0 → slice_get (live_rows n state) place ≡ live_above n key state
above_live n ts done left ps last state column key low place has sound is keyed lows has_is at =
    let o = table_named n (live_tables state) in
    let found = found_live n ts done left ps last state is in
    let low_is = lows (whole_applied ts done left ps sound) ∙ ap (λ x. below column key (rows_found x)) found in
    let made : AreMade (after_changes (done ++ changes_in ps) ts) = all_made (done ++ changes_in ps) ts sound.made in
    let ordered = subst IsInOrder found (found_in_order n (after_changes (done ++ changes_in ps) ts) made.rows) in
    above_of o column key place keyed ordered (at ∙ ap (λ b. low + cond b 1 0) has_is ∙ ap (λ k. k + cond (is_some (row_found o key)) 1 0) low_is)

-- a row that is lent is there where it is
pub lent_some : {X Y : Type 0} (f : X → Y) (o : Option X) (p : Option Y) → option_map f o ≡ p → is_some o ≡ is_some p
lent_some f None p is = ap is_some is
lent_some f (Some x) p is = ap is_some is
