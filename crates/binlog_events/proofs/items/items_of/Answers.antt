use Rattle.std.proofs.Common.{refl, arith}
use Rattle.binlog_events.proofs.FoundLemmas.{list_within, list_found, no_list}
use Rattle.binlog_events.proofs.items.items_of.Goals as goal

pub overflow_sub-result : goal.overflow_sub-result
overflow_sub-result c = list_within c.args.bytes.now c.in-Ok.changes c.in-Ok.rest.now (λ i. omega (arith, c.type_inv.bytes i)) c.in-Ok.ensures

pub returns-in-Ok-clause-found : goal.returns-in-Ok-clause-found
returns-in-Ok-clause-found c = list_found c.args.bytes.now c.in-Ok.changes c.in-Ok.rest.now _ (λ i. omega (arith, c.type_inv.bytes i)) c.in-Ok.ensures refl

pub returns-in-Err-Absent-clause-none : goal.returns-in-Err-Absent-clause-none
returns-in-Err-Absent-clause-none c = no_list c.args.bytes.now (rw c.in-Err-Absent.field-0-is at c.in-Err-Absent.ensures)
