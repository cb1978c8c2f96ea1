-- Which lines ask for what. The lines are this project's.
use Rattle.std.specs.Prelude.{◌≡◌, ◌≤◌, ◌-◌, ◌==◌, ◌++◌, ◌⊎◌, ℕ, List, [], ◌∷◌, length, take, slice_index, codes, if◌then◌else◌}
use Rattle.std.specs.Fmt.{decimal}
use Rattle.schedule_text.specs.declared.lines.Line.{Line}
use Rattle.schedule_text.specs.declared.lines.Line.TheVariants as line

-- what a line may ask for: nothing, to issue a text to a session, so many steps of a session, to run a session, to settle
pub data Asked : Type 0 where
  nothing : Asked
  issue : (session : ℕ) → (text : List ℕ) → Asked
  step : (session : ℕ) → (count : ℕ) → Asked
  run : (session : ℕ) → Asked
  settle : Asked

-- what a line that was read asks for: its text is the bytes that it lends
abbrev pub line_asked : Line → Asked
line_asked line.Nothing = nothing
line_asked (line.Issue session text) = issue session text.now
line_asked (line.Step session count) = step session count
line_asked (line.Run session) = run session
line_asked line.Settle = settle

-- a number from 1 on, up to this one
abbrev pub IsUpTo : ℕ → ℕ → Type 0
IsUpTo most number = (1 ≤ number) × (number ≤ most)

-- the number of a session
abbrev pub IsSession : ℕ → Type 0
IsSession session = IsUpTo 64 session

-- the line without one carriage return at its end
abbrev pub without_return : List ℕ → List ℕ
without_return line = if slice_index line (length line - 1) == 13 then take (length line - 1) line else line

-- so many steps of a session, as they are written: the session alone is one step
abbrev pub IsSteps : List ℕ → ℕ → ℕ → Type 0
IsSteps bytes session count = ((bytes ≡ decimal session) × (count ≡ 1))
    ⊎ ((bytes ≡ decimal session ++ 32 ∷ decimal count) × IsUpTo 9999 count)

-- the bytes ask for this
abbrev pub Asks : List ℕ → Asked → Type 0
Asks bytes nothing = (bytes ≡ []) ⊎ ((rest : List ℕ) × (bytes ≡ 35 ∷ rest))
Asks bytes (issue session text) = IsSession session × (bytes ≡ 64 ∷ (decimal session ++ 32 ∷ text))
Asks bytes (step session count) = IsSession session × (rest : List ℕ) × (bytes ≡ codes "step " ++ rest) × IsSteps rest session count
Asks bytes (run session) = IsSession session × (bytes ≡ codes "run " ++ decimal session)
Asks bytes settle = bytes ≡ codes "settle"

-- the line asks for this; one carriage return at its end counts for nothing
abbrev pub IsLine : List ℕ → Asked → Type 0
IsLine line asked = Asks (without_return line) asked

-- the line asks for nothing that there is
abbrev pub IsBad : List ℕ → Type 0
IsBad line = (asked : Asked) → IsLine line asked → ⊥
