use Rattle.std.proofs.Common.{◌≡◌, length}
use Rattle.sql_text.specs.declared.reading.Reading.TheVariants.{Start}
use Rattle.sql_text.specs.Run.{run}
use Rattle.sql_text.proofs.ReadingLemmas.{GoesOn}
use Rattle.sql_text.proofs.parser.read.Given as goal

abbrev pub invariant-loop-rest : goal.invariant-loop-rest
invariant-loop-rest l = (run l.reading l.rest ≡ run Start l.tokens) × GoesOn l.reading l.rest

abbrev pub decreases-loop-rest : goal.decreases-loop-rest
decreases-loop-rest l = length l.rest
