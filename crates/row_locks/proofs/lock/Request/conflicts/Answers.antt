use Rattle.std.proofs.Common.{rules}
use Rattle.row_locks.specs.Modes.{are_in_conflict}
use Rattle.row_locks.proofs.lock.Request.conflicts.Goals as goal

pub returns-then-is_same : goal.returns-then-is_same
unfolding are_in_conflict
returns-then-is_same c = search rules

pub returns-else-is_same : goal.returns-else-is_same
unfolding are_in_conflict
returns-else-is_same c = search rules
