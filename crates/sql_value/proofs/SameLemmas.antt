-- The test of two values tells that they are one, and agrees with their order.
use Rattle.std.proofs.Common.{◌≡◌, true, false, refl, sym, ap, ◌∙◌}
use Rattle.std.proofs.lemmas.Slice.Eq.{bytes_eq-Decides}
use Rattle.std.proofs.lemmas.Bool.Decides.{Decides-int_eq}
use Rattle.std.specs.Ordering.{is_lt, is_eq, ordering_reverse}
use Rattle.std.specs.Cmp.Lexicographic.{texts_ties}
use Rattle.std.specs.declared.cmp.Ordering.{Ordering}
use Rattle.std.specs.declared.cmp.Ordering.TheVariants.{Less, Equal, Greater}
use Rattle.sql_value.specs.declared.value.Value.{Value}
use Rattle.sql_value.specs.declared.value.Value.TheVariants.{Null, Int, Text}
use Rattle.sql_value.specs.Values.{same_value, value_cmp}
use Rattle.sql_value.proofs.OrderLemmas.{value_cmp_total}

-- The test of two values tells that they are one.
pub same_value-true : (a b : Value) → same_value a b ≡ true → a ≡ b
same_value-true Null Null h = refl
same_value-true (Int a) (Int b) h = ap Int ((Decides-int_eq a b).0 h)
same_value-true (Text s) (Text t) h = ap Text ((bytes_eq-Decides s t).0 h)
same_value-true Null (Int b) h = cc
same_value-true Null (Text b) h = cc
same_value-true (Int a) Null h = cc
same_value-true (Int a) (Text b) h = cc
same_value-true (Text a) Null h = cc
same_value-true (Text a) (Int b) h = cc

pub same_value_refl : (a : Value) → same_value a a ≡ true
same_value_refl Null = refl
same_value_refl (Int a) = (Decides-int_eq a a).1 refl
same_value_refl (Text s) = (bytes_eq-Decides s s).1 refl

pub less : (o : Ordering) → is_lt o ≡ true → o ≡ Less
less Less h = refl
less Equal h = cc
less Greater h = cc

-- The order tells whether two values are the same.
pub same_value-is_eq : (a b : Value) → same_value a b ≡ is_eq (value_cmp a b)
same_value-is_eq Null Null = refl
same_value-is_eq (Int a) (Int b) = refl
same_value-is_eq (Text s) (Text t) = texts_ties s t
same_value-is_eq Null (Int b) = refl
same_value-is_eq Null (Text b) = refl
same_value-is_eq (Int a) Null = refl
same_value-is_eq (Int a) (Text b) = refl
same_value-is_eq (Text a) Null = refl
same_value-is_eq (Text a) (Int b) = refl

-- A value that is below another is not the same.
pub less-other : (a b : Value) → value_cmp a b ≡ Less → same_value a b ≡ false
less-other a b h = same_value-is_eq a b ∙ ap is_eq h

-- Nor is one that is above.
pub more-other : (a b : Value) → value_cmp b a ≡ Less → same_value a b ≡ false
more-other a b h = same_value-is_eq a b ∙ ap is_eq (value_cmp_total.antisymm a b ∙ ap ordering_reverse h)

-- Two values of which the first is not below and which are not the same: the second is below.
pub other-less : (a b : Value) → is_lt (value_cmp a b) ≡ false → same_value b a ≡ false → value_cmp b a ≡ Less
other-less a b p q = go (value_cmp b a) (ap is_lt (sym (value_cmp_total.antisymm a b)) ∙ p) (sym (same_value-is_eq b a) ∙ q)
  where
    go : (o : Ordering) → is_lt (ordering_reverse o) ≡ false → is_eq o ≡ false → o ≡ Less
    go Less h k = refl
    go Equal h k = cc
    go Greater h k = cc
