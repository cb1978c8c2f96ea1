-- The order of values is total.
use Rattle.std.proofs.Common.{◌≡◌, refl}
use Rattle.std.specs.Cmp.{IsTotalOrder}
use Rattle.std.proofs.lemmas.Cmp.{int_cmp_total, nat_list_cmp_total}
use Rattle.std.specs.Ordering.{ordering_reverse}
use Rattle.std.specs.declared.cmp.Ordering.TheVariants.{Less, Equal}
use Rattle.sql_value.specs.declared.value.Value.{Value}
use Rattle.sql_value.specs.declared.value.Value.TheVariants.{Null, Int, Text}
use Rattle.sql_value.specs.Values.{value_cmp}

antisymm : (a b : Value) → value_cmp a b ≡ ordering_reverse (value_cmp b a)
antisymm Null Null = refl
antisymm Null (Int y) = refl
antisymm Null (Text y) = refl
antisymm (Int x) Null = refl
antisymm (Int x) (Int y) = int_cmp_total.antisymm x y
antisymm (Int x) (Text y) = refl
antisymm (Text x) Null = refl
antisymm (Text x) (Int y) = refl
antisymm (Text x) (Text y) = nat_list_cmp_total.antisymm x y

trans : (a b c : Value) → value_cmp a b ≡ Less → value_cmp b c ≡ Less → value_cmp a c ≡ Less
trans Null Null Null p q = cc
trans Null Null (Int z) p q = refl
trans Null Null (Text z) p q = refl
trans Null (Int y) Null p q = cc
trans Null (Int y) (Int z) p q = refl
trans Null (Int y) (Text z) p q = refl
trans Null (Text y) Null p q = cc
trans Null (Text y) (Int z) p q = refl
trans Null (Text y) (Text z) p q = refl
trans (Int x) Null Null p q = cc
trans (Int x) Null (Int z) p q = cc
trans (Int x) Null (Text z) p q = refl
trans (Int x) (Int y) Null p q = cc
trans (Int x) (Int y) (Int z) p q = int_cmp_total.trans x y z p q
trans (Int x) (Int y) (Text z) p q = refl
trans (Int x) (Text y) Null p q = cc
trans (Int x) (Text y) (Int z) p q = cc
trans (Int x) (Text y) (Text z) p q = refl
trans (Text x) Null Null p q = cc
trans (Text x) Null (Int z) p q = cc
trans (Text x) Null (Text z) p q = cc
trans (Text x) (Int y) Null p q = cc
trans (Text x) (Int y) (Int z) p q = cc
trans (Text x) (Int y) (Text z) p q = cc
trans (Text x) (Text y) Null p q = cc
trans (Text x) (Text y) (Int z) p q = cc
trans (Text x) (Text y) (Text z) p q = nat_list_cmp_total.trans x y z p q

congr : (a b c : Value) → value_cmp a b ≡ Equal → value_cmp a c ≡ value_cmp b c
congr Null Null Null p = refl
congr Null Null (Int z) p = refl
congr Null Null (Text z) p = refl
congr Null (Int y) Null p = cc
congr Null (Int y) (Int z) p = cc
congr Null (Int y) (Text z) p = cc
congr Null (Text y) Null p = cc
congr Null (Text y) (Int z) p = cc
congr Null (Text y) (Text z) p = cc
congr (Int x) Null Null p = cc
congr (Int x) Null (Int z) p = cc
congr (Int x) Null (Text z) p = cc
congr (Int x) (Int y) Null p = refl
congr (Int x) (Int y) (Int z) p = int_cmp_total.congr x y z p
congr (Int x) (Int y) (Text z) p = refl
congr (Int x) (Text y) Null p = cc
congr (Int x) (Text y) (Int z) p = cc
congr (Int x) (Text y) (Text z) p = cc
congr (Text x) Null Null p = cc
congr (Text x) Null (Int z) p = cc
congr (Text x) Null (Text z) p = cc
congr (Text x) (Int y) Null p = cc
congr (Text x) (Int y) (Int z) p = cc
congr (Text x) (Int y) (Text z) p = cc
congr (Text x) (Text y) Null p = refl
congr (Text x) (Text y) (Int z) p = refl
congr (Text x) (Text y) (Text z) p = nat_list_cmp_total.congr x y z p

pub value_cmp_total : IsTotalOrder value_cmp
value_cmp_total = record { antisymm = antisymm; trans = trans; congr = congr }
