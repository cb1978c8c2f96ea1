use Rattle.std.proofs.Common.{◌≡◌, ◌+◌, ◌++◌, length}
use Rattle.sql_text.specs.Tokens.{tokens_from, ending}
use Rattle.sql_text.proofs.token.tokens_from.Given as goal

abbrev pub invariant-loop-rest : goal.invariant-loop-rest
invariant-loop-rest l =
    (l.tokens.items ++ tokens_from (ending l.is_whole) 0 l.at l.rest ≡ tokens_from (ending l.is_whole) 0 0 l.bytes) × (l.at + length l.rest ≡ length l.bytes)

abbrev pub decreases-loop-rest : goal.decreases-loop-rest
decreases-loop-rest l = length l.rest
