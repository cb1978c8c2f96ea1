-- What one read from bytes in memory takes.
use Rattle.std.proofs.Common.{◌≡◌, ◌+◌, ◌++◌, ℕ, List, Some, length, take, drop, refl, sym, ap, ◌∙◌}
use Rattle.std.proofs.lemmas.List.{take-append-drop, drop-drop, take_at}
use Rattle.outer_io.specs.Ends.{Took}

-- the first n of what is left were copied to the front of the buffer, and the position moved past them
pub took_front : (bytes left copied tail : List ℕ) (at n : ℕ) → left ≡ drop at bytes → copied ≡ take n (drop at bytes) → length copied ≡ n
    → Took (take n (copied ++ tail)) (Some left) (Some (drop (at + n) bytes))
took_front bytes left copied tail at n left_is copied_is len = record {
  told = λ xs told. (drop (at + n) bytes, refl, some_is xs told ∙ split ∙ ap (λ (l : List ℕ). l ++ drop (at + n) bytes) (sym (front)));
}
  where
    front : take n (copied ++ tail) ≡ take n (drop at bytes)
    front = take_at copied tail n len ∙ copied_is

    split : left ≡ take n (drop at bytes) ++ drop (at + n) bytes
    split = left_is ∙ sym (take-append-drop n (drop at bytes)) ∙ ap (λ (l : List ℕ). take n (drop at bytes) ++ l) (drop-drop n at bytes)

    some_is : (xs : List ℕ) → Some left ≡ Some xs → xs ≡ left
    some_is xs told = cc
