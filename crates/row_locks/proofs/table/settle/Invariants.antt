use Rattle.std.proofs.Common.{◌≡◌, ◌+◌, ◌-◌, ◌≤◌, [], take, drop, length, vec_len, vec_capacity}
use Rattle.row_locks.specs.Queues.{settled}
use Rattle.row_locks.proofs.table.settle.Given as goal

abbrev pub invariant-loop-k : goal.invariant-loop-k
invariant-loop-k l = record {
  left : settled l.granted.items (take l.k l.waits.items) (drop l.k l.waits.items) ≡ settled l.initial.granted.items [] l.initial.waits.items;
  room : vec_len l.granted + vec_len l.waits ≤ vec_capacity l.granted;
}

abbrev pub decreases-loop-k : goal.decreases-loop-k
decreases-loop-k l = length l.waits.items - l.k
