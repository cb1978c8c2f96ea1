use Rattle.std.proofs.Common.{◌≡◌, ◌+◌, length}
use Rattle.sql_text.specs.Quoted.{quoted_from}
use Rattle.sql_text.proofs.QuotedLemmas.{with_front}
use Rattle.sql_text.proofs.quoted.read_quoted.Given as goal

abbrev pub invariant-loop-byte : goal.invariant-loop-byte
invariant-loop-byte l =
    (with_front l.text.items l.before (quoted_from 0 l.rest) ≡ quoted_from 0 l.bytes) × (l.before + length l.rest ≡ length l.bytes)

abbrev pub decreases-loop-byte : goal.decreases-loop-byte
decreases-loop-byte l = length l.rest
