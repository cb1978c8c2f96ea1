-- The order of the slots, and the rows in this order, after one comes or goes.
use Rattle.std.proofs.Common.{◌≡◌, ◌≢◌, ℕ, zero, suc, ◌<◌, ◌≤◌, List, [], ◌∷◌, ◌++◌, length, map, get_or, take, drop, Option, Some, None, IsTrue, refl, sym, ◌∙◌, ap, subst, arith}
use Rattle.std.specs.Prelude.{is_some, insert, remove, slice_get, unwrap_or}
use Rattle.std.proofs.lemmas.List.{map-append, take-map, drop-map}
use Rattle.std.proofs.lemmas.Option.{slice_get-get_or, slice_get_past}
use Rattle.sql_value.specs.declared.value.Value.{Value}
use Rattle.row_store.specs.Slots.{at, row_in, rows_in, IsApartFrom, AreApart, AreTaken, OnlyAt}
use Rattle.row_store.proofs.KeyLemmas.{Slots, row_there, rows_length}

pub map_insert : {X Y : Type 0} (f : X → Y) (xs : List X) (i : ℕ) (x : X) → map f (insert xs i x) ≡ insert (map f xs) i (f x)
map_insert {Y = Y} f xs i x =
    map-append f (take i xs) (x ∷ drop i xs) ∙ ap (λ (l : List Y). l ++ map f (x ∷ drop i xs)) (sym (take-map f i xs)) ∙ ap (λ (l : List Y). take i (map f xs) ++ f x ∷ l) (sym (drop-map f i xs))

pub map_remove : {X Y : Type 0} (f : X → Y) (xs : List X) (i : ℕ) → map f (remove xs i) ≡ remove (map f xs) i
map_remove {Y = Y} f xs i =
    map-append f (take i xs) (drop (suc i) xs) ∙ ap (λ (l : List Y). l ++ map f (drop (suc i) xs)) (sym (take-map f i xs)) ∙ ap (λ (l : List Y). take i (map f xs) ++ l) (sym (drop-map f (suc i) xs))

-- one slot more
from_insert : (x s : ℕ) (xs : List ℕ) (i : ℕ) → IsApartFrom x xs → x ≢ s → IsApartFrom x (insert xs i s)
from_insert x s xs zero apart differs = (differs, apart)
from_insert x s [] (suc i) apart differs = (differs, tt)
from_insert x s (it ∷ rest) (suc i) apart differs = (apart.0, from_insert x s rest i apart.1 differs)

pub apart_insert : (s : ℕ) (xs : List ℕ) (i : ℕ) → AreApart xs → IsApartFrom s xs → AreApart (insert xs i s)
apart_insert s xs zero apart from = (from, apart)
apart_insert s [] (suc i) apart from = (tt, tt)
apart_insert s (it ∷ rest) (suc i) apart from = (from_insert it s rest i apart.0 (λ same. from.0 (sym same)), apart_insert s rest i apart.1 from.1)

pub taken_insert : (slots : Slots) (s : ℕ) (xs : List ℕ) (i : ℕ) → AreTaken slots xs → IsTrue (is_some (at slots s)) → AreTaken slots (insert xs i s)
taken_insert slots s xs zero taken some = (some, taken)
taken_insert slots s [] (suc i) taken some = (some, tt)
taken_insert slots s (it ∷ rest) (suc i) taken some = (taken.0, taken_insert slots s rest i taken.1 some)

-- one slot less
from_remove : (x : ℕ) (xs : List ℕ) (i : ℕ) → IsApartFrom x xs → IsApartFrom x (remove xs i)
from_remove x [] zero apart = tt
from_remove x [] (suc i) apart = tt
from_remove x (it ∷ rest) zero apart = apart.1
from_remove x (it ∷ rest) (suc i) apart = (apart.0, from_remove x rest i apart.1)

pub apart_remove : (xs : List ℕ) (i : ℕ) → AreApart xs → AreApart (remove xs i)
apart_remove [] zero apart = tt
apart_remove [] (suc i) apart = tt
apart_remove (it ∷ rest) zero apart = apart.1
apart_remove (it ∷ rest) (suc i) apart = (from_remove it rest i apart.0, apart_remove rest i apart.1)

pub taken_remove : (slots : Slots) (xs : List ℕ) (i : ℕ) → AreTaken slots xs → AreTaken slots (remove xs i)
taken_remove slots [] zero taken = tt
taken_remove slots [] (suc i) taken = tt
taken_remove slots (it ∷ rest) zero taken = taken.1
taken_remove slots (it ∷ rest) (suc i) taken = (taken.0, taken_remove slots rest i taken.1)

from_at : (x : ℕ) (xs : List ℕ) (i d : ℕ) → IsApartFrom x xs → i < length xs → x ≢ get_or xs i d
from_at x [] i d apart lt = absurd (omega (arith, lt))
from_at x (it ∷ rest) zero d apart lt = apart.0
from_at x (it ∷ rest) (suc i) d apart lt = from_at x rest i d apart.1 (omega (arith, lt))

-- the slot at a place is none of the others
pub from_removed : (xs : List ℕ) (i d : ℕ) → AreApart xs → i < length xs → IsApartFrom (get_or xs i d) (remove xs i)
from_removed [] i d apart lt = absurd (omega (arith, lt))
from_removed (it ∷ rest) zero d apart lt = apart.0
from_removed (it ∷ rest) (suc i) d apart lt = (λ same. from_at it rest i d apart.0 (omega (arith, lt)) (sym same), from_removed rest i d apart.1 (omega (arith, lt)))

pub taken_at : (slots : Slots) (xs : List ℕ) (i d : ℕ) → AreTaken slots xs → i < length xs → IsTrue (is_some (at slots (get_or xs i d)))
taken_at slots [] i d taken lt = absurd (omega (arith, lt))
taken_at slots (it ∷ rest) zero d taken lt = taken.0
taken_at slots (it ∷ rest) (suc i) d taken lt = taken_at slots rest i d taken.1 (omega (arith, lt))

-- rows in slots that were not written
pub rows_same : (old new : Slots) (s : ℕ) (order : List ℕ) → OnlyAt s old new → IsApartFrom s order → rows_in new order ≡ rows_in old order
rows_same old new s [] only apart = refl
rows_same old new s (it ∷ rest) only apart =
    ap (λ (o : Option (List Value)). unwrap_or o [] ∷ rows_in new rest) (only it (λ same. apart.0 (sym same))) ∙ ap (λ (l : List (List Value)). row_in old it ∷ l) (rows_same old new s rest only apart.1)

-- a row that came
pub rows_insert : (old new : Slots) (s : ℕ) (order : List ℕ) (i : ℕ) (row : List Value) → OnlyAt s old new → IsApartFrom s order → at new s ≡ Some row → rows_in new (insert order i s) ≡ insert (rows_in old order) i row
rows_insert old new s order i row only apart here =
    map_insert (row_in new) order i s ∙ ap (λ (l : List (List Value)). insert l i (row_in new s)) (rows_same old new s order only apart)
    ∙ ap (λ (o : Option (List Value)). insert (rows_in old order) i (unwrap_or o [])) here

-- a row that went
pub rows_remove : (old new : Slots) (order : List ℕ) (i d : ℕ) → AreApart order → i < length order → OnlyAt (get_or order i d) old new → rows_in new (remove order i) ≡ remove (rows_in old order) i
rows_remove old new order i d apart lt only = rows_same old new (get_or order i d) (remove order i) only (from_removed order i d apart lt) ∙ map_remove (row_in old) order i

some_row : (o : Option (List Value)) → IsTrue (is_some o) → o ≡ Some (unwrap_or o [])
some_row None some = absurd (let e = some in cc)
some_row (Some row) some = refl

-- the row at a place
pub row_at_place : (slots : Slots) (order : List ℕ) (place slot : ℕ) → AreTaken slots order → place < length order → get_or order place 0 ≡ slot → slice_get (rows_in slots order) place ≡ at slots slot
row_at_place slots order place slot taken lt is =
    let size = rows_length slots order in
    slice_get-get_or (rows_in slots order) place [] (omega (arith, lt, size)) ∙ ap (λ (r : List Value). Some r) (row_there slots order place slot lt is)
    ∙ sym (some_row (at slots slot) (subst (λ (s : ℕ). IsTrue (is_some (at slots s))) is (taken_at slots order place 0 taken lt)))

pub no_place : (slots : Slots) (order : List ℕ) (place : ℕ) → length order ≤ place → slice_get (rows_in slots order) place ≡ None
no_place slots order place past = let size = rows_length slots order in slice_get_past (rows_in slots order) place (omega (arith, past, size))
