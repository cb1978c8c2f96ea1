-- Requests are in conflict in either order.
use Rattle.std.proofs.Common.{◌≡◌, ℕ, List, true, false, not, ◌&&◌, ◌==◌, bytes_eq, refl, sym, ap, ◌∙◌, eqb-true, eq-eqb}
use Rattle.std.proofs.lemmas.Slice.Eq.{bytes_eq-Decides}
use Rattle.sql_value.specs.declared.value.Value.{Value}
use Rattle.sql_value.specs.Values.{same_value}
use Rattle.sql_value.proofs.SameLemmas.{same_value-true, same_value_refl}
use Rattle.row_locks.specs.declared.lock.Mode.{Mode}
use Rattle.row_locks.specs.declared.lock.Mode.TheVariants.{IS, IX, S, X}
use Rattle.row_locks.specs.declared.lock.LockName.{LockName}
use Rattle.row_locks.specs.declared.lock.LockName.TheVariants.{Plugins, Table, Key}
use Rattle.row_locks.specs.declared.lock.Request.{Request}
use Rattle.row_locks.specs.Modes.{modes_conflict, same_name, are_in_conflict}
use Rattle.row_locks.proofs.ListLemmas.{same_tests}

numbers_turned : (a b : ℕ) → (a == b) ≡ (b == a)
numbers_turned a b = same_tests (a == b) (b == a) (turn a b) (turn b a)
  where
    turn : (a b : ℕ) → (a == b) ≡ true → (b == a) ≡ true
    turn a b h = eq-eqb b a (sym (eqb-true a b h))

bytes_turned : (a b : List ℕ) → bytes_eq a b ≡ bytes_eq b a
bytes_turned a b = same_tests (bytes_eq a b) (bytes_eq b a) (turn a b) (turn b a)
  where
    turn : (a b : List ℕ) → bytes_eq a b ≡ true → bytes_eq b a ≡ true
    turn a b h = (bytes_eq-Decides b a).1 (sym ((bytes_eq-Decides a b).0 h))

values_turned : (a b : Value) → same_value a b ≡ same_value b a
values_turned a b = same_tests (same_value a b) (same_value b a) (turn a b) (turn b a)
  where
    turn : (a b : Value) → same_value a b ≡ true → same_value b a ≡ true
    turn a b h = ap (λ x. same_value b x) (same_value-true a b h) ∙ same_value_refl b

names_turned : (a b : LockName) → same_name a b ≡ same_name b a
names_turned Plugins Plugins = refl
names_turned Plugins (Table b) = refl
names_turned Plugins (Key b w) = refl
names_turned (Table a) Plugins = refl
names_turned (Table a) (Table b) = bytes_turned a b
names_turned (Table a) (Key b w) = refl
names_turned (Key a v) Plugins = refl
names_turned (Key a v) (Table b) = refl
names_turned (Key a v) (Key b w) = ap (λ x. x && same_value v w) (bytes_turned a b) ∙ ap (λ x. bytes_eq b a && x) (values_turned v w)

modes_turned : (a b : Mode) → modes_conflict a b ≡ modes_conflict b a
modes_turned IS IS = refl
modes_turned IS IX = refl
modes_turned IS S = refl
modes_turned IS X = refl
modes_turned IX IS = refl
modes_turned IX IX = refl
modes_turned IX S = refl
modes_turned IX X = refl
modes_turned S IS = refl
modes_turned S IX = refl
modes_turned S S = refl
modes_turned S X = refl
modes_turned X IS = refl
modes_turned X IX = refl
modes_turned X S = refl
modes_turned X X = refl

pub conflict_turned : (a b : Request) → are_in_conflict a b ≡ are_in_conflict b a
unfolding are_in_conflict
conflict_turned a b =
    ap (λ x. not x && same_name a.lock.name b.lock.name && modes_conflict a.lock.mode b.lock.mode) (numbers_turned a.owner b.owner)
    ∙ ap (λ x. not (b.owner == a.owner) && x && modes_conflict a.lock.mode b.lock.mode) (names_turned a.lock.name b.lock.name)
    ∙ ap (λ x. not (b.owner == a.owner) && same_name b.lock.name a.lock.name && x) (modes_turned a.lock.mode b.lock.mode)

-- Only requests of two owners are in conflict.
pub of_two_owners : (a b : Request) → (a.owner == b.owner) ≡ true → are_in_conflict a b ≡ false
unfolding are_in_conflict
of_two_owners a b h = ap (λ x. not x && same_name a.lock.name b.lock.name && modes_conflict a.lock.mode b.lock.mode) h
