-- Reading items one after the other, as a loop does.
use Rattle.std.proofs.Common.{◌≡◌, ℕ, zero, suc, ◌-◌, ◌≤◌, ◌<◌, List, [], ◌∷◌, ◌++◌, length, slice_get, Option, Some, None, Bool, true, false, refl, sym, ap, ◌∙◌, append_assoc, arith}
use Rattle.std.proofs.lemmas.List.{append-nil, length-append}
use Rattle.row_format.specs.declared.fault.Unread.{Unread}
use Rattle.row_format.specs.declared.change.Change.{Change}
use Rattle.row_format.specs.Reading.{◌>>=◌, where_so, Fails, byte_at}
use Rattle.binlog_events.specs.Changes.{map_of}
use Rattle.binlog_events.specs.Walking.{last_map, Before, Item, item_at, may_end, items_at}
use Rattle.row_format.proofs.FrontLemmas.{with_front, with_front-fails}

-- some more were read
with_front-append : {A : Type 0} (front some : List A) (read : Option (List A × List ℕ)) → with_front front (read >>= λ x. Some (some ++ x.0, x.1)) ≡ with_front (front ++ some) read
with_front-append {A} front some (Some x) = ap (λ (l : List A). Some (l, x.1)) (sym (append_assoc front some x.0))
with_front-append front some None = refl

-- one item, and so many behind it
abbrev step : ℕ → Before → List ℕ → Option (List Change × List ℕ)
step n before bytes = byte_at bytes >>= λ kind. item_at before kind.0 kind.1 >>= λ it. items_at n it.0.before it.1 >>= λ more. Some (it.0.changes ++ more.0, more.1)

pub kind_fails : (e : Unread) (front : List Change) (left : ℕ) (before : Before) (rest : List ℕ) (whole : Option (List Change × List ℕ)) → 0 < left
    → Fails e (byte_at rest) → with_front front (items_at left before rest) ≡ whole → Fails e whole
unfolding items_at
kind_fails e front zero before rest whole some fails is = absurd (omega (arith, some))
kind_fails e front (suc n) before rest whole some fails is =
    with_front-fails e front (byte_at rest) (λ kind. item_at before kind.0 kind.1 >>= λ it. items_at n it.0.before it.1 >>= λ more. Some (it.0.changes ++ more.0, more.1)) whole fails is

pub item_fails : (e : Unread) (front : List Change) (left : ℕ) (before : Before) (rest : List ℕ) (kind : ℕ) (body : List ℕ) (whole : Option (List Change × List ℕ)) → 0 < left
    → byte_at rest ≡ Some (kind, body) → Fails e (item_at before kind body) → with_front front (items_at left before rest) ≡ whole → Fails e whole
unfolding items_at
item_fails e front zero before rest kind body whole some at fails is = absurd (omega (arith, some))
item_fails e front (suc n) before rest kind body whole some at fails is =
    with_front-fails e front (item_at before kind body) (λ it. items_at n it.0.before it.1 >>= λ more. Some (it.0.changes ++ more.0, more.1)) whole fails
    (ap (λ (o : Option (ℕ × List ℕ)). with_front front (o >>= λ k. item_at before k.0 k.1 >>= λ it. items_at n it.0.before it.1 >>= λ more. Some (it.0.changes ++ more.0, more.1))) (sym at) ∙ is)

pub items_go_on : (front : List Change) (left : ℕ) (before : Before) (rest : List ℕ) (kind : ℕ) (body behind : List ℕ) (it : Item) (whole : Option (List Change × List ℕ)) → 0 < left
    → byte_at rest ≡ Some (kind, body) → item_at before kind body ≡ Some (it, behind) → with_front front (items_at left before rest) ≡ whole
    → with_front (front ++ it.changes) (items_at (left - 1) it.before behind) ≡ whole
unfolding items_at
items_go_on front zero before rest kind body behind it whole some at found is = absurd (omega (arith, some))
items_go_on front (suc n) before rest kind body behind it whole some at found is =
    let one_less : suc n - 1 ≡ n = omega arith in
    ap (λ (m : ℕ). with_front (front ++ it.changes) (items_at m it.before behind)) one_less
    ∙ sym (with_front-append front it.changes (items_at n it.before behind))
    ∙ ap (λ (o : Option (Item × List ℕ)). with_front front (o >>= λ x. items_at n x.0.before x.1 >>= λ more. Some (x.0.changes ++ more.0, more.1))) (sym found)
    ∙ ap (λ (o : Option (ℕ × List ℕ)). with_front front (o >>= λ k. item_at before k.0 k.1 >>= λ x. items_at n x.0.before x.1 >>= λ more. Some (x.0.changes ++ more.0, more.1))) (sym at)
    ∙ is

pub items_end : (front : List Change) (left : ℕ) (before : Before) (rest : List ℕ) (whole : Option (List Change × List ℕ)) → left ≤ 0 → may_end before ≡ true
    → with_front front (items_at left before rest) ≡ whole → whole ≡ Some (front, rest)
unfolding items_at
items_end front zero before rest whole none may is =
    sym is ∙ ap (λ (b : Bool). with_front front (where_so b ([], rest))) may ∙ ap (λ (l : List Change). Some (l, rest)) (append-nil front)
items_end front (suc n) before rest whole none may is = absurd (omega (arith, none))

pub items_left_over : (front : List Change) (left : ℕ) (before : Before) (rest : List ℕ) (whole : Option (List Change × List ℕ)) → left ≤ 0 → may_end before ≡ false
    → with_front front (items_at left before rest) ≡ whole → whole ≡ None
unfolding items_at
items_left_over front zero before rest whole none may is = sym is ∙ ap (λ (b : Bool). with_front front (where_so b ([], rest))) may
items_left_over front (suc n) before rest whole none may is = absurd (omega (arith, none))

last_item : {A : Type 0} (xs : List A) (x : A) → slice_get (xs ++ x ∷ []) (length xs) ≡ Some x
last_item [] x = refl
last_item (y ∷ ys) x = last_item ys x

-- behind one change more stands its map, or none
pub last_map-push : (changes : List Change) (change : Change) → last_map (changes ++ change ∷ []) ≡ map_of change
last_map-push changes change =
    let last : length (changes ++ change ∷ []) - 1 ≡ length changes = omega (arith, length-append changes (change ∷ [])) in
    ap (λ (n : ℕ). slice_get (changes ++ change ∷ []) n >>= map_of) last ∙ ap (λ (o : Option Change). o >>= map_of) (last_item changes change)
