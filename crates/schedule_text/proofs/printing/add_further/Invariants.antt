use Rattle.std.proofs.Common.{◌≡◌, ◌++◌, take}
use Rattle.schedule_text.specs.Printed.{further_text}
use Rattle.schedule_text.proofs.printing.add_further.Given as goal

abbrev pub invariant-loop-value : goal.invariant-loop-value
invariant-loop-value l = l.out.items ≡ l.fn.out.items ++ further_text (take l.value-index l.values)
