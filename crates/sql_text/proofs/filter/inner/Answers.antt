use Rattle.std.proofs.Common.{sym, ap, ◌∙◌}
use Rattle.sql_text.specs.Filter.{pop_last}
use Rattle.sql_text.proofs.FilterLemmas.{pop_last-push}
use Rattle.sql_text.proofs.filter.inner.Goals as goal

pub returns-in-Some : goal.returns-in-Some
returns-in-Some c = sym (ap pop_last c.in-Some.ensures ∙ pop_last-push _ _)
