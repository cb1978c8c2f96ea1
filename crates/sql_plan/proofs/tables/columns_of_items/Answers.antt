use Rattle.std.proofs.Common.{◌++◌, List, [], ap, ◌∙◌, sym, arith}
use Rattle.std.specs.List.{cons_option}
use Rattle.std.specs.Option.{option_copied}
use Rattle.row_format.specs.declared.schema.Column.{Column}
use Rattle.sql_plan.specs.Tables.{column_of}
use Rattle.sql_plan.proofs.TableLemmas.{column_more}
use Rattle.sql_plan.proofs.tables.columns_of_items.Goals as goal

pub loop-item-preserved : goal.loop-item-preserved
loop-item-preserved c =
    c.in_ok-add_column.ensures
    ∙ ap (λ (made : List Column). made ++ cons_option (column_of (option_copied c.args.key) c.item-item.result) []) c.loop-item.invariant
    ∙ sym (column_more (option_copied c.args.key) c.args.items.now c.loop-item.item-index c.item-item.result (omega (arith, c.loop-item-test.true)) (c.item-item.is))
