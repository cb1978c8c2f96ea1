-- Writers in parts: what stands in front where one of them stops.
use Rattle.std.proofs.Common.{◌≡◌, ℕ, List, ◌++◌, Result, Ok, Err, ◌∙◌, ap, append_assoc}
use Rattle.std.specs.Prelude.{IsErr}
use Rattle.std.specs.declared.alloc.AllocError.{AllocError}
use Rattle.framed_file.specs.Framed.{IsPrefix}
use Rattle.row_format.specs.Spelling.{Adds}

-- a writer that stops for want of memory behind others leaves what was there in front
pub adds_stopped : (r : Result Unit AllocError) (old front mid new text : List ℕ) → IsErr r → mid ≡ old ++ front → IsPrefix mid new → Adds r old new text
adds_stopped (Ok u) old front mid new text is_err is prefix = absurd cc
adds_stopped (Err e) old front mid new text is_err is prefix =
    (front ++ prefix.0, prefix.1 ∙ ap (λ (l : List ℕ). l ++ prefix.0) is ∙ append_assoc old front prefix.0)
