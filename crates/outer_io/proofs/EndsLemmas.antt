-- What was put in two writes was put in one.
use Rattle.std.proofs.Common.{◌≡◌, ◌+◌, ◌++◌, ℕ, List, Option, Some, take, drop, refl, sym, ap, ◌∙◌, append_assoc}
use Rattle.std.proofs.Math.Seq.{take-add}
use Rattle.std.proofs.lemmas.List.{take-append-drop}
use Rattle.outer_io.specs.Ends.{Put, PutFront}

-- one first part, then a first part of what is left
pub put_more : (bytes rest : List ℕ) (at n : ℕ) (start mid end : Option (List ℕ)) → rest ≡ drop at bytes
    → Put (take at bytes) start mid → Put (take n rest) mid end → Put (take (at + n) bytes) start end
put_more bytes rest at n start mid end is first then = record {
  told = λ xs told. then.told (xs ++ take at bytes) (first.told xs told) ∙ ap (λ (l : List ℕ). Some l) (whole xs);
}
  where
    whole : (xs : List ℕ) → (xs ++ take at bytes) ++ take n rest ≡ xs ++ take (at + n) bytes
    whole xs = rw (append_assoc, is, take-add at n bytes) refl

-- a write failed and took nothing
pub put_front : (bytes : List ℕ) (at : ℕ) (start mid end : Option (List ℕ)) → Put (take at bytes) start mid → end ≡ mid
    → PutFront bytes start end
put_front bytes at start mid end first same = (take at bytes, drop at bytes, sym (take-append-drop at bytes), record { told = λ xs told. same ∙ first.told xs told })
