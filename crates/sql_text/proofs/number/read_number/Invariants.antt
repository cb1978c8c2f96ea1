use Rattle.std.proofs.Common.{◌≡◌, ◌<◌, ◌^◌, take}
use Rattle.sql_text.specs.Numbers.{number_of}
use Rattle.sql_text.proofs.number.read_number.Given as goal

abbrev pub invariant-loop-digit : goal.invariant-loop-digit
invariant-loop-digit l = (l.value ≡ number_of (take l.digit-index l.digits)) × (l.value < 10 ^ l.digit-index)
