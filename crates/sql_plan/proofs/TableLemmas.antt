-- What items say of columns and keys, one item more.
use Rattle.std.proofs.Common.{◌≡◌, ◌<◌, ◌+◌, ◌++◌, ℕ, suc, List, [], ◌∷◌, length, take, drop, Option, Some, None, refl, sym, ap, ◌∙◌, add-one, get_or, drop-cons}
use Rattle.std.specs.List.{filter_map, cons_option}
use Rattle.std.proofs.Math.Seq.{take-suc}
use Rattle.std.proofs.lemmas.List.Elements.{filter_map-append}
use Rattle.sql_text.specs.declared.statement.Item.{Item}
use Rattle.engine_api.specs.declared.flags.Flags.{Flags}
use Rattle.sql_plan.specs.Tables.{key_named, keys_named, column_of, schema_for, schema_with, created_schema}

-- one column more
pub column_more : (key : Option (List ℕ)) (items : List Item) (i : ℕ) (item : Item) → i < length items → item ≡ get_or items i item
    → filter_map (column_of key) (take (i + 1) items) ≡ filter_map (column_of key) (take i items) ++ cons_option (column_of key item) []
column_more key items i item within at =
    ap (λ (n : ℕ). filter_map (column_of key) (take n items)) (add-one i) ∙ ap (filter_map (column_of key)) (take-suc items i item within)
    ∙ filter_map-append (column_of key) (take i items) (get_or items i item ∷ [])
    ∙ ap (λ (it : Item). filter_map (column_of key) (take i items) ++ cons_option (column_of key it) []) (sym at)

-- the keys of the items from one on
pub key_more : (items : List Item) (i : ℕ) (item : Item) → i < length items → item ≡ get_or items i item
    → keys_named (drop i items) ≡ cons_option (key_named item) (keys_named (drop (i + 1) items))
key_more items i item within at =
    ap keys_named (drop-cons items i item within) ∙ ap (λ (it : Item). cons_option (key_named it) (keys_named (drop (suc i) items))) (sym at)
    ∙ ap (λ (n : ℕ). cons_option (key_named item) (keys_named (drop n items))) (sym (add-one i))

-- one of two is the only one there is
pub one_of : (it key other : Option (List ℕ)) (rest : List (List ℕ)) → cons_option it [] ≡ cons_option key (cons_option other [])
    → cons_option it rest ≡ cons_option key (cons_option other rest)
one_of None None None rest is = refl
one_of (Some a) None (Some b) rest is = ap (λ (l : List (List ℕ)). l ++ rest) is
one_of (Some a) (Some b) None rest is = ap (λ (l : List (List ℕ)). l ++ rest) is
one_of None None (Some b) rest is = absurd cc
one_of None (Some b) None rest is = absurd cc
one_of None (Some b) (Some c) rest is = absurd cc
one_of (Some a) None None rest is = absurd cc
one_of (Some a) (Some b) (Some c) rest is = absurd cc

for_one : (flags : Flags) (items : List Item) (keys : List (List ℕ)) (key : Option (List ℕ)) → keys ≡ cons_option key [] → schema_for flags items keys ≡ schema_with flags items key
for_one flags items keys None is = ap (schema_for flags items) is
for_one flags items keys (Some key) is = ap (schema_for flags items) is

-- the schema where one key is named, or none
pub created_by : (flags : Flags) (items : List Item) (key : Option (List ℕ)) → keys_named items ≡ cons_option key [] → created_schema flags items ≡ schema_with flags items key
created_by flags items key is = for_one flags items (keys_named items) key is
