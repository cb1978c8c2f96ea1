-- A scan that has come so far goes on, or ends.
use Rattle.std.proofs.Common.{◌≡◌, ◌<◌, ◌-◌, ◌++◌, ℕ, zero, suc, List, [], ◌∷◌, length, take, Option, Some, None, Bool, true, false, refl, sym, ap, subst, ◌∙◌, arith}
use Rattle.std.specs.Prelude.{◌&&◌, slice_get, map, Result, Ok, Err, IsErrAnd}
use Rattle.std.specs.declared.vec.Vec.{Vec}
use Rattle.std.specs.declared.alloc.Global.{Global}
use Rattle.std.specs.List.{list_all}
use Rattle.std.proofs.lemmas.Option.{slice_get_within}
use Rattle.std.proofs.lemmas.List.{map-append}
use Rattle.std.proofs.lemmas.List.Elements.{filter-append}
use Rattle.sql_value.specs.declared.refusal.Refusal.{Refusal}
use Rattle.sql_value.specs.declared.refusal.Refusal.TheVariants.{OutOfRange}
use Rattle.sql_value.specs.declared.value.Value.{Value}
use Rattle.row_format.specs.declared.schema.Column.{Column}
use Rattle.engine_api.specs.States.{Kind, EngineState}
use Rattle.engine_api.specs.Live.{live_rows}
use Rattle.engine_api.specs.Scans.{scan_row}
use Rattle.sql_text.specs.declared.statement.Cond.{Cond}
use Rattle.sql_plan.specs.Plans.{unless}
use Rattle.sql_effect.specs.Select.{is_chosen, is_decided, picked, chosen, selected, search_refusal}
use Rattle.sql_exec.specs.declared.fault.ExecFault.{ExecFault}
use Rattle.sql_exec.specs.declared.fault.ExecFault.TheVariants.{Refused, Device, NotAVolume, Memory}
use Rattle.sql_exec.specs.Faults.{FailsFor}
use Rattle.sql_exec.specs.CarriesOut.{MayFail}
use Rattle.sql_exec.specs.Selects.{HasFound, Searches, behind}

take_more : {A : Type 0} (xs : List A) (n : ℕ) (x : A) → slice_get xs n ≡ Some x → take (suc n) xs ≡ take n xs ++ x ∷ []
take_more [] n x at = cc
take_more (y ∷ ys) zero x at = cc
take_more (y ∷ ys) (suc n) x at = ap (λ zs. y ∷ zs) (take_more ys n x at)

take_whole : {A : Type 0} (xs : List A) (n : ℕ) → slice_get xs n ≡ None → take n xs ≡ xs
take_whole [] zero at = refl
take_whole [] (suc n) at = refl
take_whole (y ∷ ys) zero at = cc
take_whole (y ∷ ys) (suc n) at = ap (λ zs. y ∷ zs) (take_whole ys n at)

all_both : {A : Type 0} (p : A → Bool) (xs ys : List A) → list_all p xs ≡ true → list_all p ys ≡ true → list_all p (xs ++ ys) ≡ true
all_both p [] ys first second = second
all_both p (x ∷ xs) ys first second = step (p x) first (all_both p xs ys)
  where
    step : (b : Bool) → (b && list_all p xs) ≡ true → (list_all p xs ≡ true → list_all p ys ≡ true → list_all p (xs ++ ys) ≡ true) → (b && list_all p (xs ++ ys)) ≡ true
    step true is rest = rest is second
    step false is rest = cc

not_all : {A : Type 0} (p : A → Bool) (xs : List A) (n : ℕ) (x : A) → slice_get xs n ≡ Some x → p x ≡ false → list_all p xs ≡ false
not_all p [] n x at is = cc
not_all p (y ∷ ys) zero x at is = here (p y) (ap p (same at) ∙ is)
  where
    same : Some y ≡ Some x → y ≡ x
    same e = cc

    here : (b : Bool) → b ≡ false → (b && list_all p ys) ≡ false
    here true e = cc
    here false e = refl
not_all p (y ∷ ys) (suc n) x at is = later (p y) (not_all p ys n x at is)
  where
    later : (b : Bool) → list_all p ys ≡ false → (b && list_all p ys) ≡ false
    later true e = e
    later false e = refl

so_unless : (b : Bool) (r : Refusal) → unless b r ≡ None → b ≡ true
so_unless true r is = refl
so_unless false r is = cc

selected-append : (c : List Column) (names : Option (List (List ℕ))) (w : Option Cond) (xs ys : List (List Value))
    → selected c names w (xs ++ ys) ≡ selected c names w xs ++ selected c names w ys
selected-append c names w xs ys =
    ap (map (picked c names)) (filter-append (is_chosen c w) xs ys) ∙ map-append (picked c names) (chosen c w xs) (chosen c w ys)

-- Before the first row.
pub found_first : (c : List Column) (names : Option (List (List ℕ))) (w : Option Cond) (rows : List (List Value)) → HasFound c names w rows 0 []
found_first c names w rows = record { within = omega arith; granted = refl; answer = refl }

-- One row more, which is not refused.
pub found_next : (c : List Column) (names : Option (List (List ℕ))) (w : Option Cond) (rows : List (List Value)) (n : ℕ) (found : List (List Value)) (row : List Value)
    → HasFound c names w rows n found → slice_get rows n ≡ Some row → search_refusal c w (row ∷ []) ≡ None
    → HasFound c names w rows (suc n) (found ++ selected c names w (row ∷ []))
found_next c names w rows n found row far at granted =
    let more = take_more rows n row at in
    let lt = slice_get_within rows n row at in
    record {
      within = omega (arith, lt);
      granted = ap (search_refusal c w) more ∙ ap (λ (b : Bool). unless b OutOfRange)
          (all_both (is_decided c w) (take n rows) (row ∷ []) (so_unless _ OutOfRange far.granted) (so_unless _ OutOfRange granted));
      answer = ap (λ (xs : List (List Value)). xs ++ selected c names w (row ∷ [])) far.answer
          ∙ sym (selected-append c names w (take n rows) (row ∷ [])) ∙ ap (selected c names w) (sym more);
    }

-- At the end.
pub end_granted : (c : List Column) (names : Option (List (List ℕ))) (w : Option Cond) (rows : List (List Value)) (n : ℕ) (found : List (List Value))
    → HasFound c names w rows n found → slice_get rows n ≡ None → search_refusal c w rows ≡ None
end_granted c names w rows n found far end = ap (search_refusal c w) (sym (take_whole rows n end)) ∙ far.granted

pub end_answer : (c : List Column) (names : Option (List (List ℕ))) (w : Option Cond) (rows : List (List Value)) (n : ℕ) (found : List (List Value))
    → HasFound c names w rows n found → slice_get rows n ≡ None → found ≡ selected c names w rows
end_answer c names w rows n found far end = far.answer ∙ ap (selected c names w) (take_whole rows n end)

-- A row that is refused.
pub refused_at : (c : List Column) (w : Option Cond) (rows : List (List Value)) (n : ℕ) (row : List Value) (fault : ExecFault) → slice_get rows n ≡ Some row
    → FailsFor (search_refusal c w (row ∷ [])) fault → FailsFor (search_refusal c w rows) fault
refused_at c w rows n row (Refused it) at is = by (is_decided c w row) refl is
  where
    by : (b : Bool) → is_decided c w row ≡ b → unless (b && true) OutOfRange ≡ Some it → search_refusal c w rows ≡ Some it
    by true so told = cc
    by false so told = ap (λ (b : Bool). unless b OutOfRange) (not_all (is_decided c w) rows n row at so) ∙ told
refused_at c w rows n row Device at is = is
refused_at c w rows n row (NotAVolume file) at is = is
refused_at c w rows n row Memory at is = tt

-- what a scan reads next, in the state that the engine had at the start
pub at_scan : (o : Option (List Value)) (table : Option (List ℕ)) (name : List ℕ) (p : ℕ) (mid s : EngineState) → o ≡ scan_row table p mid → table ≡ Some name → mid ≡ s
    → o ≡ slice_get (live_rows name s) p
at_scan o table name p mid s is on same = is ∙ ap (λ (t : Option (List ℕ)). scan_row t p mid) on ∙ ap (λ (e : EngineState). slice_get (live_rows name e) p) same

-- A scan goes on behind a row.
pub found_on : (c : List Column) (names : Option (List (List ℕ))) (w : Option Cond) (rows : List (List Value)) (p q : ℕ) (found new : List (List Value)) (o : Option (List Value)) (row : List Value)
    → HasFound c names w rows p found → o ≡ slice_get rows p → o ≡ Some row → q ≡ behind o p → search_refusal c w (row ∷ []) ≡ None
    → new ≡ found ++ selected c names w (row ∷ []) → HasFound c names w rows q new
found_on c names w rows p q found new o row far at is moved granted adds =
    subst (λ (k : ℕ). HasFound c names w rows k new) (sym (moved ∙ ap (λ (x : Option (List Value)). behind x p) is))
    (subst (HasFound c names w rows (suc p)) (sym adds) (found_next c names w rows p found row far (sym at ∙ is) granted))

-- Fewer rows are left.
pub fewer_left : (rows : List (List Value)) (p q : ℕ) (o : Option (List Value)) (row : List Value) → o ≡ slice_get rows p → o ≡ Some row → q ≡ behind o p
    → length rows - q < length rows - p
fewer_left rows p q o row at is moved =
    let lt = slice_get_within rows p row (sym at ∙ is) in
    let next : q ≡ suc p = moved ∙ ap (λ (x : Option (List Value)). behind x p) is in
    omega (arith, lt, next)

-- A search that answers a fault.
pub searches_not : (c : List Column) (names : Option (List (List ℕ))) (w : Option Cond) (rows : List (List Value)) (files : List ℕ) (told : Bool) (outer : Result (Vec (List Value) Global) ExecFault)
    (fault : ExecFault) → IsErrAnd outer (λ e. e ≡ fault) → MayFail (search_refusal c w rows) files told fault → Searches c names w rows files told outer
searches_not c names w rows files told (Ok value) fault tells may = absurd tells
searches_not c names w rows files told (Err e) fault tells may = record { granted = tt; answer = tt; err = subst (MayFail (search_refusal c w rows) files told) (sym tells) may }

-- A search in the state that was there before, of the engine that is the same.
pub searches_as : (c : List Column) (names : Option (List (List ℕ))) (w : Option Cond) (table : List ℕ) (kind kind_mid : Kind) (s mid : EngineState) (told : Bool)
    (result : Result (Vec (List Value) Global) ExecFault) → kind_mid ≡ kind → mid ≡ s
    → Searches c names w (live_rows table mid) kind_mid.files told result → Searches c names w (live_rows table s) kind.files told result
searches_as c names w table kind kind_mid s mid told result same is searches =
    subst (λ (k : Kind). Searches c names w (live_rows table s) k.files told result) same
    (subst (λ (e : EngineState). Searches c names w (live_rows table e) kind_mid.files told result) is searches)
