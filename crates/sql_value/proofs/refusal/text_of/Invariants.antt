use Rattle.std.proofs.Common.{◌≡◌, ◌++◌, take}
use Rattle.sql_value.specs.Refusals.{spaced}
use Rattle.sql_value.proofs.refusal.text_of.Given as goal

abbrev pub invariant-loop-number : goal.invariant-loop-number
invariant-loop-number l = l.text.items ≡ l.words ++ spaced (take l.number-index l.numbers)
