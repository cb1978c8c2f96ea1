use Rattle.std.proofs.Common.{◌≡◌, ◌++◌, ◌+◌, ◌∷◌, [], length, ap, ◌∙◌, arith, List, ℕ}
use Rattle.std.proofs.lemmas.List.{length-append}
use Rattle.row_store.proofs.BlockLemmas.{more_push}
use Rattle.row_store.proofs.pack.add_blocks.Goals as goal

pub loop-preserved : goal.loop-preserved
loop-preserved c =
    let mid = c.loop.blocks.items in
    let block = c.in_ok-new.field-0 in
    let is : c.push.new.self.items ≡ mid ++ block ∷ [] = c.in_ok-push.ensures.items in
    let size : length c.push.new.self.items ≡ length mid + 1 = ap (λ (l : List (List ℕ)). length l) is ∙ length-append mid (block ∷ []) in
    let invariant = c.loop.invariant in
    (more_push c.args.blocks.now.items mid c.push.new.self.items block invariant.0 c.in_ok-new.ensures is, omega (arith, invariant.1, size), omega (arith, invariant.2, size))
