-- What a text does: it is read, planned and carried out. (This project.)
use Rattle.std.specs.Prelude.{◌≡◌, ◌≤◌, ◌<◌, ◌⊎◌, ℕ, List, length, Result, Err}
use Rattle.sql_value.specs.declared.refusal.Refusal.{Refusal}
use Rattle.sql_value.specs.declared.refusal.Refusal.TheVariants.{StatementTooLong, Syntax}
use Rattle.sql_text.specs.declared.statement.Statement.{Statement}
use Rattle.sql_text.specs.Statements.{Spells, HasFault}
use Rattle.sql_effect.specs.declared.shape.Effect.{Effect}
use Rattle.sql_effect.specs.declared.shape.EffectFault.{EffectFault}
use Rattle.sql_effect.specs.declared.shape.EffectFault.TheVariants as fault
use Rattle.sql_effect.specs.declared.shape.EngineFacts.{EngineFacts}
use Rattle.sql_effect.specs.declared.shape.Sizes.{Sizes}
use Rattle.sql_effect.specs.declared.shape.View.{View}
use Rattle.sql_effect.specs.Effects.{effect_of}

-- The effect of a text on a view: the text is too long, or has its fault there, or spells a statement, whose effect it is.
abbrev pub IsEffect : List EngineFacts → View → Sizes → List ℕ → Result Effect Refusal → Type 0
IsEffect shelf view sizes text effect =
    ((65536 < length text) × (effect ≡ Err StatementTooLong))
    ⊎ ((at : ℕ) × (length text ≤ 65536) × HasFault text at × (effect ≡ Err (Syntax at)))
    ⊎ ((asks : Statement) × (length text ≤ 65536) × Spells text asks × (effect ≡ effect_of shelf view sizes asks))

-- a fault tells a refusal of which this holds, or want of memory
abbrev pub Tells : (Result Effect Refusal → Type 0) → EffectFault → Type 0
Tells P (fault.Refused refusal) = P (Err refusal)
Tells P fault.Memory = Unit {0}
