use Rattle.std.proofs.Common.{length, ◌-◌, ◌≡◌, ◌≤◌, take}
use Rattle.engine_api.specs.States.{changes_in}
use Rattle.live_tables.specs.Bytes.{capped}
use Rattle.live_tables.specs.Gone.{gone}
use Rattle.live_tables.proofs.gone.gone_len.Given as goal

abbrev pub invariant-loop-i : goal.invariant-loop-i
invariant-loop-i l = record {
  within : l.i ≤ length l.pending;
  so_far : l.sum ≡ capped (gone (changes_in (take l.i l.pending)) l.tables);
}

abbrev pub decreases-loop-i : goal.decreases-loop-i
decreases-loop-i l = length l.pending - l.i
