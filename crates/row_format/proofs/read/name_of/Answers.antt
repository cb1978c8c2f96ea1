use Rattle.std.proofs.Common.{refl, arith}
use Rattle.row_format.proofs.FoundLemmas.{name_within, name_found, no_name}
use Rattle.row_format.proofs.read.name_of.Goals as goal

pub overflow_sub-result : goal.overflow_sub-result
overflow_sub-result c = name_within c.args.bytes.now c.in-Ok.name c.in-Ok.rest.now (λ i. omega (arith, c.type_inv.bytes i)) c.in-Ok.ensures

pub returns-in-Ok-clause-found : goal.returns-in-Ok-clause-found
returns-in-Ok-clause-found c = name_found c.args.bytes.now c.in-Ok.name c.in-Ok.rest.now _ (λ i. omega (arith, c.type_inv.bytes i)) c.in-Ok.ensures refl

pub returns-in-Err-Absent-clause-none : goal.returns-in-Err-Absent-clause-none
returns-in-Err-Absent-clause-none c = no_name c.args.bytes.now (rw c.in-Err-Absent.field-0-is at c.in-Err-Absent.ensures)
