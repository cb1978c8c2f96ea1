use Rattle.std.proofs.Common.{refl, arith}
use Rattle.row_format.proofs.FoundLemmas.{row_within, row_found, no_row}
use Rattle.row_format.proofs.read.row_of.Goals as goal

pub overflow_sub-result : goal.overflow_sub-result
overflow_sub-result c = row_within c.args.schema.now c.args.bytes.now c.in-Ok.row c.in-Ok.rest.now (λ i. omega (arith, c.type_inv.bytes i)) c.in-Ok.ensures

pub returns-in-Ok-clause-found : goal.returns-in-Ok-clause-found
returns-in-Ok-clause-found c = row_found c.args.schema.now c.args.bytes.now c.in-Ok.row c.in-Ok.rest.now _ (λ i. omega (arith, c.type_inv.bytes i)) c.in-Ok.ensures refl

pub returns-in-Err-Absent-clause-none : goal.returns-in-Err-Absent-clause-none
returns-in-Err-Absent-clause-none c = no_row c.args.schema.now c.args.bytes.now c.requires (rw c.in-Err-Absent.field-0-is at c.in-Err-Absent.ensures)
