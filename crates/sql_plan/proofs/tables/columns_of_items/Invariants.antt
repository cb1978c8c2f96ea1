use Rattle.std.proofs.Common.{◌≡◌, take}
use Rattle.std.specs.Option.{option_copied}
use Rattle.std.specs.List.{filter_map}
use Rattle.sql_plan.specs.Tables.{column_of}
use Rattle.sql_plan.proofs.tables.columns_of_items.Given as goal

abbrev pub invariant-loop-item : goal.invariant-loop-item
invariant-loop-item l = l.columns.items ≡ filter_map (column_of (option_copied l.key)) (take l.item-index l.items)
