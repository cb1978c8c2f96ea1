use Rattle.sql_text.proofs.TokenLemmas.{run_of_digits}
use Rattle.sql_text.proofs.lexeme.lexeme_at.Goals as goal

pub number_lexeme-requires : goal.number_lexeme-requires
number_lexeme-requires c = run_of_digits c.args.bytes.now _ c.run_len-len-then-is_in-2.ensures.value
