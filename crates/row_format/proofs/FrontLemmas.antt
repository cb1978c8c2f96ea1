-- Reading one thing after the other, as a loop does: what was read before, and what is still read.
use Rattle.std.proofs.Common.{◌≡◌, ℕ, suc, ◌-◌, ◌+◌, ◌≤◌, ◌<◌, List, [], ◌∷◌, ◌++◌, Option, Some, None, refl, sym, ap, ◌∙◌, append_assoc, arith}
use Rattle.std.proofs.lemmas.List.{append-nil, drop_all}
use Rattle.std.proofs.Common.{zero, length, get_or, drop, drop-cons, add-one, Bool, false}
use Rattle.std.specs.Prelude.{◌/◌, ◌%◌, ◌==◌}
use Rattle.std.proofs.lemmas.Bool.{eq-eqb}
use Rattle.row_format.specs.declared.fault.Unread.{Unread}
use Rattle.row_format.specs.declared.fault.Unread.TheVariants.{Absent, Memory}
use Rattle.row_format.specs.declared.schema.Column.{Column}
use Rattle.sql_value.specs.declared.value.Value.{Value}
use Rattle.row_format.specs.Reading.{◌>>=◌, where_so, Fails, column_at, columns_at, value_at, values_at}

-- what was read before, and what is still read
abbrev pub with_front : {A : Type 0} → List A → Option (List A × List ℕ) → Option (List A × List ℕ)
with_front front read = read >>= λ x. Some (front ++ x.0, x.1)

-- one more was read
pub with_front-more : {A : Type 0} (front : List A) (it : A) (read : Option (List A × List ℕ)) → with_front front (read >>= λ x. Some (it ∷ x.0, x.1)) ≡ with_front (front ++ it ∷ []) read
with_front-more {A} front it (Some x) = ap (λ (l : List A). Some (l, x.1)) (sym (append_assoc front (it ∷ []) x.0))
with_front-more front it None = refl

-- nothing was read before
pub with_front-none : {A : Type 0} (read : Option (List A × List ℕ)) → with_front [] read ≡ read
with_front-none (Some x) = refl
with_front-none None = refl

-- nothing of the next one stands there
pub with_front-fails : {A B : Type 0} (e : Unread) (front : List A) (first : Option B) (f : B → Option (List A × List ℕ)) (whole : Option (List A × List ℕ))
    → Fails e first → with_front front (first >>= f) ≡ whole → Fails e whole
with_front-fails Memory front first f whole fails is = tt
with_front-fails Absent front (Some x) f whole fails is = absurd cc
with_front-fails Absent front None f whole fails is = sym is

-- So many columns.

pub columns_fail : (e : Unread) (front : List Column) (left : ℕ) (rest : List ℕ) (whole : Option (List Column × List ℕ)) → 0 < left
    → Fails e (column_at rest) → with_front front (columns_at left rest) ≡ whole → Fails e whole
unfolding columns_at
columns_fail e front zero rest whole some fails is = absurd (omega (arith, some))
columns_fail e front (suc n) rest whole some fails is =
    with_front-fails e front (column_at rest) (λ first. columns_at n first.1 >>= λ others. Some (first.0 ∷ others.0, others.1)) whole fails is

pub columns_go_on : (front : List Column) (left : ℕ) (rest behind : List ℕ) (it : Column) (whole : Option (List Column × List ℕ)) → 0 < left
    → column_at rest ≡ Some (it, behind) → with_front front (columns_at left rest) ≡ whole → with_front (front ++ it ∷ []) (columns_at (left - 1) behind) ≡ whole
unfolding columns_at
columns_go_on front zero rest behind it whole some at is = absurd (omega (arith, some))
columns_go_on front (suc n) rest behind it whole some at is =
    let one_less : suc n - 1 ≡ n = omega arith in
    ap (λ (m : ℕ). with_front (front ++ it ∷ []) (columns_at m behind)) one_less
    ∙ sym (with_front-more front it (columns_at n behind))
    ∙ ap (λ (o : Option (Column × List ℕ)). with_front front (o >>= λ first. columns_at n first.1 >>= λ others. Some (first.0 ∷ others.0, others.1))) (sym at)
    ∙ is

pub columns_end : (front : List Column) (left : ℕ) (rest : List ℕ) (whole : Option (List Column × List ℕ)) → left ≤ 0
    → with_front front (columns_at left rest) ≡ whole → whole ≡ Some (front, rest)
unfolding columns_at
columns_end front zero rest whole none is = sym is ∙ ap (λ (l : List Column). Some (l, rest)) (append-nil front)
columns_end front (suc n) rest whole none is = absurd (omega (arith, none))

-- The values of columns.

split_at : (columns : List Column) (i : ℕ) (column : Column) → i < length columns → column ≡ get_or columns i column → drop i columns ≡ column ∷ drop (i + 1) columns
split_at columns i column within at =
    drop-cons columns i column within ∙ ap (λ (x : Column). x ∷ drop (suc i) columns) (sym at) ∙ ap (λ (n : ℕ). column ∷ drop n columns) (sym (add-one i))

pub values_fail : (e : Unread) (front : List Value) (columns : List Column) (i bits : ℕ) (column : Column) (rest : List ℕ) (whole : Option (List Value × List ℕ))
    → i < length columns → column ≡ get_or columns i column → Fails e (value_at column (bits % 2 == 1) rest)
    → with_front front (values_at (drop i columns) bits rest) ≡ whole → Fails e whole
unfolding values_at
values_fail e front columns i bits column rest whole within at fails is =
    with_front-fails e front (value_at column (bits % 2 == 1) rest) (λ first. values_at (drop (i + 1) columns) (bits / 2) first.1 >>= λ others. Some (first.0 ∷ others.0, others.1)) whole fails
    (ap (λ (l : List Column). with_front front (values_at l bits rest)) (sym (split_at columns i column within at)) ∙ is)

pub values_go_on : (front : List Value) (columns : List Column) (i bits : ℕ) (column : Column) (rest behind : List ℕ) (it : Value) (whole : Option (List Value × List ℕ))
    → i < length columns → column ≡ get_or columns i column → value_at column (bits % 2 == 1) rest ≡ Some (it, behind)
    → with_front front (values_at (drop i columns) bits rest) ≡ whole → with_front (front ++ it ∷ []) (values_at (drop (i + 1) columns) (bits / 2) behind) ≡ whole
unfolding values_at
values_go_on front columns i bits column rest behind it whole within at found is =
    sym (with_front-more front it (values_at (drop (i + 1) columns) (bits / 2) behind))
    ∙ ap (λ (o : Option (Value × List ℕ)). with_front front (o >>= λ first. values_at (drop (i + 1) columns) (bits / 2) first.1 >>= λ others. Some (first.0 ∷ others.0, others.1))) (sym found)
    ∙ ap (λ (l : List Column). with_front front (values_at l bits rest)) (sym (split_at columns i column within at))
    ∙ is

none_left : (columns : List Column) (i : ℕ) → length columns ≤ i → drop i columns ≡ []
none_left columns i past = drop_all i columns past

pub values_end : (front : List Value) (columns : List Column) (i bits : ℕ) (rest : List ℕ) (whole : Option (List Value × List ℕ)) → length columns ≤ i → bits ≡ 0
    → with_front front (values_at (drop i columns) bits rest) ≡ whole → whole ≡ Some (front, rest)
unfolding values_at
values_end front columns i bits rest whole past none is =
    sym is ∙ ap (λ (l : List Column). with_front front (values_at l bits rest)) (none_left columns i past)
    ∙ ap (λ (b : Bool). with_front front (where_so b ([], rest))) (eq-eqb bits 0 none)
    ∙ ap (λ (l : List Value). Some (l, rest)) (append-nil front)

pub values_left_over : (front : List Value) (columns : List Column) (i bits : ℕ) (rest : List ℕ) (whole : Option (List Value × List ℕ)) → length columns ≤ i → (bits == 0) ≡ false
    → with_front front (values_at (drop i columns) bits rest) ≡ whole → whole ≡ None
unfolding values_at
values_left_over front columns i bits rest whole past some is =
    sym is ∙ ap (λ (l : List Column). with_front front (values_at l bits rest)) (none_left columns i past)
    ∙ ap (λ (b : Bool). with_front front (where_so b ([], rest))) some
