use Rattle.std.proofs.Common.{[]}
use Rattle.log_tables.specs.Changes.{installed_after}
use Rattle.dictionary.proofs.TellsLemmas.{after_changes-changes_of, installed_changes-changes_of}
use Rattle.dictionary.proofs.laws.changes_of_a_log.Goals as goal

pub returns : goal.returns
returns c = record { tables = λ log. after_changes-changes_of log []; installed = λ log. installed_changes-changes_of log (installed_after []) }
