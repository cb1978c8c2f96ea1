-- Steps through a list of changes, one after the other, and through what is pending.
use Rattle.std.proofs.Common.{◌≡◌, ℕ, ◌+◌, ◌≤◌, ◌<◌, List, ◌++◌, length, length-append, get_or, drop, sym, ap, ◌∙◌, arith}
use Rattle.std.proofs.lemmas.List.{drop_more, drop_all}
use Rattle.row_format.specs.declared.change.Change.{Change}
use Rattle.engine_api.specs.States.{Pending, changes_in}
use Rattle.live_tables.specs.Folds.{through}
use Rattle.live_tables.proofs.FoldLemmas.{through_append}

-- What is pending from a place on is the changes there, and what is pending after them.
pub pending_split : (pending : List Pending) (i : ℕ) (it : Pending) → i < length pending → it ≡ get_or pending i it → changes_in (drop i pending) ≡ it.changes ++ changes_in (drop (i + 1) pending)
pending_split pending i it within is =
    ap changes_in (drop_more pending i it within) ∙ ap (λ (x : Pending). x.changes ++ changes_in (drop (i + 1) pending)) (sym is)

module _ {X : Type 0} (step : Change → X → X) where
  -- one step more
  pub through_next : (cs : List Change) (i : ℕ) (c : Change) (x y whole : X) → i < length cs → c ≡ get_or cs i c → through step (drop i cs) x ≡ whole → y ≡ step c x
      → through step (drop (i + 1) cs) y ≡ whole
  through_next cs i c x y whole within is so_far next =
      ap (through step (drop (i + 1) cs)) (next ∙ ap (λ (d : Change). step d x) is) ∙ sym (ap (λ l. through step l x) (drop_more cs i c within)) ∙ so_far

  -- no step is left
  pub through_end : (cs : List Change) (i : ℕ) (x whole : X) → length cs ≤ i → through step (drop i cs) x ≡ whole → x ≡ whole
  through_end cs i x whole past so_far = sym (ap (λ l. through step l x) (drop_all i cs past)) ∙ so_far

  -- the steps of one transaction more
  pub pending_next : (pending : List Pending) (i : ℕ) (it : Pending) (changes : List Change) (x y whole : X) → i < length pending → it ≡ get_or pending i it → changes ≡ it.changes
      → through step (changes_in (drop i pending)) x ≡ whole → y ≡ through step changes x → through step (changes_in (drop (i + 1) pending)) y ≡ whole
  pending_next pending i it changes x y whole within is own so_far next =
      let rest = changes_in (drop (i + 1) pending) in
      ap (through step rest) (next ∙ ap (λ l. through step l x) own)
      ∙ sym (through_append step it.changes rest x)
      ∙ sym (ap (λ l. through step l x) (pending_split pending i it within is))
      ∙ so_far

  -- no transaction is left
  pub pending_end : (pending : List Pending) (i : ℕ) (x whole : X) → length pending ≤ i → through step (changes_in (drop i pending)) x ≡ whole → x ≡ whole
  pending_end pending i x whole past so_far = sym (ap (λ l. through step (changes_in l) x) (drop_all i pending past)) ∙ so_far

-- so many changes are left
pub pending_fewer : (pending : List Pending) (i : ℕ) (it : Pending) (changes : List Change) (x y most : ℕ) → i < length pending → it ≡ get_or pending i it → changes ≡ it.changes
    → x + length (changes_in (drop i pending)) ≤ most → y ≤ x + length changes → y + length (changes_in (drop (i + 1) pending)) ≤ most
pending_fewer pending i it changes x y most within is own so_far next =
    let split = ap length (pending_split pending i it within is) in
    let parts = length-append it.changes (changes_in (drop (i + 1) pending)) in
    let same = ap length own in
    omega (arith, split, parts, same, so_far, next)

-- and so many at a place
pub pending_here : (pending : List Pending) (i : ℕ) (it : Pending) (changes : List Change) (x most : ℕ) → i < length pending → it ≡ get_or pending i it → changes ≡ it.changes
    → x + length (changes_in (drop i pending)) ≤ most → x + length changes ≤ most
pending_here pending i it changes x most within is own so_far =
    let split = ap length (pending_split pending i it within is) in
    let parts = length-append it.changes (changes_in (drop (i + 1) pending)) in
    let same = ap length own in
    omega (arith, split, parts, same, so_far)
