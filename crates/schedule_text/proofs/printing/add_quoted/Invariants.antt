use Rattle.std.proofs.Common.{◌≡◌, ◌++◌, ◌∷◌, take}
use Rattle.std.specs.Prelude.{flat_map}
use Rattle.schedule_text.specs.Printed.{escaped}
use Rattle.schedule_text.proofs.printing.add_quoted.Given as goal

abbrev pub invariant-loop-byte : goal.invariant-loop-byte
invariant-loop-byte l = l.out.items ≡ l.fn.out.items ++ 39 ∷ flat_map escaped (take l.byte-index l.text)
