use Rattle.std.proofs.Common.{◌≡◌}
use Rattle.row_format.specs.Reading.{columns_at}
use Rattle.row_format.proofs.FrontLemmas.{with_front}
use Rattle.row_format.proofs.take.take_columns.Given as goal

abbrev pub invariant-loop-left : goal.invariant-loop-left
invariant-loop-left l = with_front l.columns.items (columns_at l.left l.rest) ≡ columns_at l.count l.bytes

abbrev pub decreases-loop-left : goal.decreases-loop-left
decreases-loop-left l = l.left
