use Rattle.std.proofs.Common.{◌≡◌, ◌≤◌, ◌+◌, sum_by}
use Rattle.std.specs.Prelude.{reverse}
use Rattle.std.specs.Vec.{vec_len, vec_capacity}
use Rattle.log_tables.specs.Changes.{after_changes}
use Rattle.live_tables.specs.Folds.{change_bytes}
use Rattle.live_tables.specs.Live.{CanMake}
use Rattle.live_tables.proofs.tables.make_some.Given as goal

abbrev pub invariant-loop-change : goal.invariant-loop-change
invariant-loop-change l = record {
  same : after_changes (reverse l.changes.items) l.tables.items ≡ after_changes l.fn.changes.items l.fn.tables.items;
  capacity : vec_capacity l.changes ≡ vec_capacity l.fn.changes;
  fewer : vec_len l.changes ≤ vec_len l.fn.changes;
  rest : CanMake l.tables.items (reverse l.changes.items) l.committed;
  sum : l.added + sum_by change_bytes (reverse l.changes.items) ≡ sum_by change_bytes l.fn.changes.items;
  within : l.committed ≤ l.fn.committed + l.added;
}

abbrev pub decreases-loop-change : goal.decreases-loop-change
decreases-loop-change l = vec_len l.changes
