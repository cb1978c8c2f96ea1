use Rattle.std.proofs.Common.{◌≤◌, length}
use Rattle.row_store.specs.Blocks.{HasMoreBlocks}
use Rattle.row_store.proofs.pack.add_blocks.Given as goal

abbrev pub invariant-loop : goal.invariant-loop
invariant-loop l = HasMoreBlocks l.initial.blocks.items l.blocks.items × (length l.initial.blocks.items ≤ length l.blocks.items) × (l.counter ≤ length l.blocks.items)
