use Rattle.std.proofs.Common.{rules}
use Rattle.row_locks.specs.Modes.{request_covers}
use Rattle.row_locks.proofs.lock.Request.covers.Goals as goal

pub returns-then-is_same : goal.returns-then-is_same
unfolding request_covers
returns-then-is_same c = search rules

pub returns-else-is_same : goal.returns-else-is_same
unfolding request_covers
returns-else-is_same c = search rules
