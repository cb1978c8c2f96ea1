use Rattle.std.proofs.Common.{ap, ◌∙◌}
use Rattle.sql_text.specs.Run.{ends_last}
use Rattle.sql_text.proofs.ParseLemmas.{text_ends}
use Rattle.sql_text.proofs.parser.read_text.Goals as goal

pub read-requires : goal.read-requires
read-requires c = ap ends_last (c.deref.ensures.value ∙ c.in_ok-tokens.ensures) ∙ text_ends c.args.bytes.now
