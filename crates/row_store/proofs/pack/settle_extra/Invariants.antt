use Rattle.std.proofs.Common.{◌≡◌}
use Rattle.std.specs.List.{concat}
use Rattle.row_store.specs.Blocks.{HaveExtra}
use Rattle.row_store.proofs.pack.settle_extra.Given as goal

abbrev pub invariant-loop-k : goal.invariant-loop-k
invariant-loop-k l = HaveExtra l.len l.k l.blocks × (concat l.blocks ≡ concat l.initial.blocks)
