-- Slots after one of them has another row, or none; and lists of slots.
use Rattle.std.proofs.Common.{◌≡◌, ◌≢◌, ◌⊎◌, inl, ⊎_elim, ℕ, zero, suc, ◌<◌, ◌≤◌, List, [], ◌∷◌, ◌++◌, length, get_or, Option, Some, None, IsTrue, refl, sym, ◌∙◌, ap, subst, arith, length-append}
use Rattle.std.specs.Prelude.{is_some, set}
use Rattle.std.proofs.lemmas.List.{get_or-set_same, get_or-set_other, get_or_default, length-set}
use Rattle.sql_value.specs.declared.value.Value.{Value}
use Rattle.row_store.specs.Slots.{at, IsApartFrom, AreApart, AreTaken, AreVacant, AreFree, OnlyAt, Fills, Frees}

abbrev Slots : Type 0
Slots = List (Option (List Value))

some_none : {X : Type 0} {x : X} → Some x ≡ None → ⊥
some_none e = cc

is_there : {X : Type 0} (o : Option X) → o ≡ None → IsTrue (is_some o) → ⊥
is_there None none some = absurd (let e = some in cc)
is_there (Some x) none some = some_none none

-- no row stands behind the last slot
at_past : (slots : Slots) (s : ℕ) → length slots ≤ s → at slots s ≡ None
at_past [] s past = refl
at_past (it ∷ rest) zero past = absurd (omega (arith, past))
at_past (it ∷ rest) (suc s) past = at_past rest s (omega (arith, past))

split : (a b : ℕ) → (a < b) ⊎ (b ≤ a)
split a b = grind arith

-- a slot with a row is there
pub within : (slots : Slots) (s : ℕ) → IsTrue (is_some (at slots s)) → s < length slots
within slots s some = ⊎_elim (λ lt. lt) (λ past. absurd (is_there (at slots s) (at_past slots s past) some)) (split s (length slots))

pub within_row : (slots : Slots) (s : ℕ) (row : List Value) → at slots s ≡ Some row → s < length slots
within_row slots s row is = within slots s (subst (λ (o : Option (List Value)). IsTrue (is_some o)) (sym is) refl)

-- one slot was written
pub only_set : (slots : Slots) (s : ℕ) (o : Option (List Value)) → OnlyAt s slots (set slots s o)
only_set slots s o = λ other differs. get_or-set_other slots s other o None differs

pub set_here : (slots : Slots) (s : ℕ) (o : Option (List Value)) → s < length slots → at (set slots s o) s ≡ o
set_here slots s o lt = get_or-set_same slots s o None lt

-- a slot that is free is none of those with rows, and the other way round
pub apart_taken : (slots : Slots) (s : ℕ) (order : List ℕ) → AreTaken slots order → at slots s ≡ None → IsApartFrom s order
apart_taken slots s [] taken none = tt
apart_taken slots s (it ∷ rest) taken none = (λ same. is_there (at slots it) (subst (λ (n : ℕ). at slots n ≡ None) same none) taken.0, apart_taken slots s rest taken.1 none)

pub apart_vacant : (slots : Slots) (s : ℕ) (free : List ℕ) → AreVacant slots free → IsTrue (is_some (at slots s)) → IsApartFrom s free
apart_vacant slots s [] vacant some = tt
apart_vacant slots s (it ∷ rest) vacant some = (λ same. is_there (at slots s) (subst (λ (n : ℕ). at slots n ≡ None) (sym same) vacant.1) some, apart_vacant slots s rest vacant.2 some)

-- the others stay free, and taken
pub stay_vacant : (old new : Slots) (s : ℕ) (free : List ℕ) → OnlyAt s old new → IsApartFrom s free → length old ≤ length new → AreVacant old free → AreVacant new free
stay_vacant old new s [] only apart more vacant = tt
stay_vacant old new s (it ∷ rest) only apart more vacant =
    let low = vacant.0 in
    (omega (arith, low, more), only it (λ same. apart.0 (sym same)) ∙ vacant.1, stay_vacant old new s rest only apart.1 more vacant.2)

pub stay_taken : (old new : Slots) (s : ℕ) (order : List ℕ) → OnlyAt s old new → IsApartFrom s order → AreTaken old order → AreTaken new order
stay_taken old new s [] only apart taken = tt
stay_taken old new s (it ∷ rest) only apart taken =
    (subst (λ (o : Option (List Value)). IsTrue (is_some o)) (sym (only it (λ same. apart.0 (sym same)))) taken.0, stay_taken old new s rest only apart.1 taken.1)

-- the last of a list
pub vacant_front : (slots : Slots) (xs : List ℕ) (s : ℕ) → AreVacant slots (xs ++ s ∷ []) → AreVacant slots xs × (s < length slots) × (at slots s ≡ None)
vacant_front slots [] s vacant = (tt, vacant.0, vacant.1)
vacant_front slots (it ∷ rest) s vacant = let r = vacant_front slots rest s vacant.2 in ((vacant.0, vacant.1, r.0), r.1, r.2)

pub vacant_end : (slots : Slots) (xs : List ℕ) (s : ℕ) → AreVacant slots xs → s < length slots → at slots s ≡ None → AreVacant slots (xs ++ s ∷ [])
vacant_end slots [] s vacant lt none = (lt, none, tt)
vacant_end slots (it ∷ rest) s vacant lt none = (vacant.0, vacant.1, vacant_end slots rest s vacant.2 lt none)

apart_last : (x : ℕ) (xs : List ℕ) (s : ℕ) → IsApartFrom x (xs ++ s ∷ []) → IsApartFrom x xs × (x ≢ s)
apart_last x [] s apart = (tt, apart.0)
apart_last x (it ∷ rest) s apart = let r = apart_last x rest s apart.1 in ((apart.0, r.0), r.1)

pub apart_front : (xs : List ℕ) (s : ℕ) → AreApart (xs ++ s ∷ []) → AreApart xs × IsApartFrom s xs
apart_front [] s apart = (tt, tt)
apart_front (it ∷ rest) s apart =
    let one = apart_last it rest s apart.0 in
    let r = apart_front rest s apart.1 in
    ((one.0, r.0), (λ same. one.1 (sym same), r.1))

apart_more : (x : ℕ) (xs : List ℕ) (s : ℕ) → IsApartFrom x xs → x ≢ s → IsApartFrom x (xs ++ s ∷ [])
apart_more x [] s apart differs = (differs, tt)
apart_more x (it ∷ rest) s apart differs = (apart.0, apart_more x rest s apart.1 differs)

pub apart_end : (xs : List ℕ) (s : ℕ) → AreApart xs → IsApartFrom s xs → AreApart (xs ++ s ∷ [])
apart_end [] s apart from = (tt, tt)
apart_end (it ∷ rest) s apart from = (apart_more it rest s apart.0 (λ same. from.0 (sym same)), apart_end rest s apart.1 from.1)

-- a row goes into the last of the free slots
pub fills_free : (slots : Slots) (left : List ℕ) (row : List Value) (s : ℕ) (free : List ℕ) → free ≡ left ++ s ∷ [] → AreFree slots free → Fills slots free row s (set slots s (Some row)) left
fills_free slots left row s free is are =
    let v = vacant_front slots left s (subst (AreVacant slots) is are.vacant) in
    let a = apart_front left s (subst AreApart is are.apart) in
    let len = length-set slots s (Some row) in
    record {
      vacant = v.2;
      here = set_here slots s (Some row) v.1;
      others = only_set slots s (Some row);
      free_is = record { vacant = stay_vacant slots (set slots s (Some row)) s left (only_set slots s (Some row)) a.1 (omega (arith, len)) v.0; apart = a.0 };
      counts = let more = ap length is in omega (arith, len, more, length-append left (s ∷ []));
      grows = inl len;
    }

-- the row of a slot is taken out
pub frees_slot : (slots : Slots) (free : List ℕ) (s : ℕ) (row : List Value) → at slots s ≡ Some row → AreFree slots free → Frees slots free s row (set slots s None) (free ++ s ∷ [])
frees_slot slots free s row is are =
    let lt = within_row slots s row is in
    let len = length-set slots s None in
    let from = apart_vacant slots s free are.vacant (subst (λ (o : Option (List Value)). IsTrue (is_some o)) (sym is) refl) in
    let v = stay_vacant slots (set slots s None) s free (only_set slots s None) from (omega (arith, len)) are.vacant in
    record {
      row_is = is;
      here = set_here slots s None lt;
      others = only_set slots s None;
      free_is = record { vacant = vacant_end (set slots s None) free s v (omega (arith, lt, len)) (set_here slots s None lt); apart = apart_end free s are.apart from };
      counts = length-append free (s ∷ []);
      same = len;
    }

-- the row that was found in a slot is taken out
pub frees_now : (slots : Slots) (free : List ℕ) (s : ℕ) (row : List Value) (found after : Option (List Value)) (more : List ℕ) → IsTrue (is_some (at slots s)) → found ≡ get_or slots s found → found ≡ Some row → after ≡ None
    → AreFree slots free → more ≡ free ++ s ∷ [] → Frees slots free s row (set slots s after) more
frees_now slots free s row found after more some is row_is none are pushed =
    let lt = within slots s some in
    let here : at slots s ≡ Some row = get_or_default slots s None found lt ∙ sym is ∙ row_is in
    subst (λ (l : List ℕ). Frees slots free s row (set slots s after) l) (sym pushed)
    (subst (λ (o : Option (List Value)). Frees slots free s row (set slots s o) (free ++ s ∷ [])) (sym none) (frees_slot slots free s row here are))
