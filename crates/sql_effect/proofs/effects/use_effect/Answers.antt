use Rattle.std.proofs.Common.{sym, ap, ◌∙◌}
use Rattle.log_tables.specs.Tables.{is_named, table_named}
use Rattle.sql_effect.specs.Effects.{IsTable}
use Rattle.sql_effect.proofs.EffectLemmas.{all_found}
use Rattle.sql_effect.proofs.effects.use_effect.Goals as goal

pub found_effect-requires-clause-table : goal.found_effect-requires-clause-table
found_effect-requires-clause-table c =
    all_found IsTable (is_named c.args.name.now) c.args.view.now.tables c.in-Some.table.now c.requires.tables
    (sym (c.in-Some.ensures ∙ ap (table_named c.args.name.now) c.as_slice.ensures))
