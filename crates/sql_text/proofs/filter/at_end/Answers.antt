use Rattle.std.proofs.Common.{◌==◌, length, sym, ◌∙◌, ap, subst}
use Rattle.sql_text.specs.Filter.{at_end}
use Rattle.sql_text.specs.Steps.{Gives}
use Rattle.sql_text.proofs.FilterLemmas.{at_level_nil}
use Rattle.sql_text.proofs.filter.at_end.Goals as goal

pub returns-then-is_empty : goal.returns-then-is_empty
unfolding at_end
returns-then-is_empty c =
    let nil = sym (c.is_empty.ensures ∙ ap (λ xs. length xs == 0) c.as_slice.ensures) ∙ c.if-is_empty.true in
    let none = at_level_nil c.args.head c.args.tests c.args.tests.outer c.args.lexeme.now nil in
    subst (λ step. Gives c.finished.result step) (sym none) c.finished.ensures
