-- Which side is read, and what stands on it? (This project.)
use Rattle.std.specs.Prelude.{◌≡◌, ℕ, Option, Some, None, cond}
use Rattle.redo_journal.specs.declared.journal.Side.{Side}
use Rattle.redo_journal.specs.declared.journal.Side.TheVariants.{First, Second}
use Rattle.redo_journal.specs.declared.choose.Found.{Found}
use Rattle.redo_journal.specs.Journals.{has_sequence}

-- of two things, the one on this side
abbrev pub on_side : {A : Type 0} → Side → A → A → A
on_side First first second = first
on_side Second first second = second

-- the first side whose area is open with this sequence
abbrev pub sided_with : ℕ → Option ℕ → Option ℕ → Option Side
sided_with sequence first second = cond (has_sequence sequence first) (Some First) (cond (has_sequence sequence second) (Some Second) None)

-- this side is chosen, and its area is open with this sequence
pub record IsFound (chosen : Option Side) (first second : Option ℕ) (found : Found) : Type 0 where
  pub side : chosen ≡ Some found.side
  pub sequence : on_side found.side first second ≡ Some found.sequence

-- the sequence is the one that is asked for, where one is
abbrev pub IsAsked : Option ℕ → ℕ → Type 0
IsAsked None sequence = Unit {0}
IsAsked (Some wanted) sequence = sequence ≡ wanted
