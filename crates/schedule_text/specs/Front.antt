-- What the front of a line tells of the line. (This project.)
use Rattle.std.specs.Prelude.{◌≡◌, ◌<◌, ◌⊎◌, ℕ, List, length}
use Rattle.schedule_text.specs.Lines.{nothing, issue, IsLine, IsBad}

-- both issue a text of more than 65,536 bytes to one session: no statement is so long
pub record AreTooLong (front line : List ℕ) : Type 0 where
  pub session : ℕ
  pub text : List ℕ
  pub whole : List ℕ
  pub front_is : IsLine front (issue session text)
  pub line_is : IsLine line (issue session whole)
  pub front_long : 65536 < length text
  pub line_long : 65536 < length whole

-- the front is the line, or both ask for nothing, or both are bad, or both issue too long a text
abbrev pub FrontTells : List ℕ → List ℕ → Type 0
FrontTells front line = (front ≡ line) ⊎ ((IsLine front nothing × IsLine line nothing)
    ⊎ ((IsBad front × IsBad line) ⊎ AreTooLong front line))
