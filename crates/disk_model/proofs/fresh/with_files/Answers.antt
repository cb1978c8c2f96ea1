use Rattle.std.proofs.Common.{ap, ◌∙◌}
use Rattle.disk_model.specs.Held.{held}
use Rattle.disk_model.proofs.FreshLemmas.{at_first}
use Rattle.disk_model.proofs.fresh.with_files.Goals as goal

pub returns-clause-holding : goal.returns-clause-holding
returns-clause-holding c = record { each = at_first _ _ _ (c.in_ok-start.ensures ∙ ap held c.deref.ensures.value) c.new.ensures.items }
