use Rattle.std.proofs.Common.{◌∙◌, ap}
use Rattle.std.specs.Str.{str_eq_ignore_ascii_case}
use Rattle.sql_text.proofs.keyword.is_word.Goals as goal

pub returns : goal.returns
returns c = c.is_same.ensures ∙ ap (λ t. str_eq_ignore_ascii_case t c.args.word.now) c.text-text.ensures
