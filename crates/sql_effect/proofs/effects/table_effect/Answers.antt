use Rattle.std.proofs.Common.{subst, sym}
use Rattle.sql_text.specs.declared.statement.Statement.{Statement}
use Rattle.sql_effect.specs.Effects.{table_effect}
use Rattle.sql_effect.specs.Outcomes.{Gives}
use Rattle.sql_effect.proofs.effects.table_effect.Goals as goal

pub returns-in-Select : goal.returns-in-Select
returns-in-Select c =
    subst (λ (asks : Statement). Gives c.select_effect.result (table_effect c.args.engine.now c.args.sizes c.args.table.now asks)) (sym c.in-Select.is) c.select_effect.ensures
