use Rattle.std.proofs.Common.{◌≡◌, ◌+◌}
use Rattle.std.specs.List.{concat}
use Rattle.row_store.specs.Blocks.{HaveGap}
use Rattle.row_store.proofs.pack.settle_gap.Given as goal

abbrev pub invariant-loop-k : goal.invariant-loop-k
invariant-loop-k l = HaveGap (l.len + 1) l.k l.blocks × (concat l.blocks ≡ concat l.initial.blocks)
