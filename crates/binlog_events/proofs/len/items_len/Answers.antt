use Rattle.std.proofs.Common.{ap, arith, List, length, None}
use Rattle.row_format.specs.declared.change.Change.{Change}
use Rattle.binlog_events.proofs.LenLemmas.{changes_fewer, listed_from}
use Rattle.binlog_events.proofs.len.items_len.Goals as goal

pub changes_size-requires-clause-few : goal.changes_size-requires-clause-few
changes_size-requires-clause-few c = omega (arith, ap (λ (l : List Change). length l) c.as_slice-2.ensures, changes_fewer None c.args.changes.now, c.requires.few)

pub overflow_sub-result : goal.overflow_sub-result
overflow_sub-result c = omega (arith, listed_from c.args.changes.now _ _ _ _ _ c.as_slice.ensures c.as_slice-2.ensures c.count_items.ensures.count c.from-items.ensures c.changes_size.ensures.value)

pub returns-clause-value : goal.returns-clause-value
returns-clause-value c = omega (arith, listed_from c.args.changes.now _ _ _ _ _ c.as_slice.ensures c.as_slice-2.ensures c.count_items.ensures.count c.from-items.ensures c.changes_size.ensures.value)
