-- First parts of what is to be appended.
use Rattle.std.proofs.Common.{◌≡◌, ◌∙◌, ℕ, List, ◌++◌, Result, Ok, Err, OnErr, ap, append_assoc}
use Rattle.schedule_text.specs.Inside.{IsPrefix}

-- what was there at first is a first part of what a further piece leaves
pub prefix_on_err : {T E : Type 0} (r : Result T E) (old more now new : List ℕ) → now ≡ old ++ more → IsPrefix now new
    → OnErr r (IsPrefix old new)
prefix_on_err (Ok x) old more now new is h = tt
prefix_on_err (Err e) old more now new is h = (more ++ h.0, h.1 ∙ ap (λ (l : List ℕ). l ++ h.0) is ∙ append_assoc old more h.0)
