-- Which lines give a text to the one session. (This project.)
use Rattle.std.specs.Prelude.{◌<◌, ◌⊎◌, ℕ, List, length}
use Rattle.schedule_text.specs.Lines.{issue, settle, IsLine}
use Rattle.plugd.specs.declared.heard.Heard.{Heard}
use Rattle.plugd.specs.declared.heard.Heard.TheVariants as heard

-- the line gives this text to the one session
abbrev pub Gives : List ℕ → List ℕ → Type 0
Gives line text = IsLine line (issue 1 text)

-- the line gives no text to it, and is not `settle`
pub record IsUnknown (line : List ℕ) : Type 0 where
  pub no_text : (text : List ℕ) → Gives line text → ⊥
  pub no_settle : IsLine line settle → ⊥

-- the line is this to the one session
abbrev pub Tells : List ℕ → Heard → Type 0
Tells line heard.Settle = IsLine line settle
Tells line (heard.Text text) = Gives line text.now
Tells line heard.Unknown = IsUnknown line

-- the line gives this text; or it gives one that is too long, and this one, which is a first part of it, is too long too
abbrev pub IsGivenBy : List ℕ → List ℕ → Type 0
IsGivenBy text line = Gives line text ⊎ ((whole : List ℕ) × Gives line whole × (65536 < length text) × (65536 < length whole))
