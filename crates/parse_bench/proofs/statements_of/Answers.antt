-- One round more counts one more at most, and none where the text is no statement.
use Rattle.std.proofs.Common.{arith, ◌∙◌}
use Rattle.parse_bench.proofs.statements_of.Goals.{then-is_statement, else-is_statement}
use Rattle.parse_bench.proofs.statements_of.Goals as goal

pub loop-preserved : goal.loop-preserved
loop-preserved c = elim c.if-is_statement.branch [
  | then-is_statement w ↦
      let found = c.is_statement.ensures.spelt w.if-is_statement.true in
      record { most = omega (arith, w.read-is, c.loop.invariant.most); none = λ not. absurd (not found.0 found.1) }
  | else-is_statement w ↦ record { most = omega (arith, w.read-is, c.loop.invariant.most); none = λ not. w.read-is ∙ c.loop.invariant.none not }
]
