use Rattle.std.proofs.Common.{subst}
use Rattle.plugin_registry.specs.Registry.{IsRegistry}
use Rattle.plugin_registry.proofs.FindLemmas.{slot_of-current}
use Rattle.plugin_registry.proofs.registry.Registry.laws.Goals as goal

pub returns-clause-found : goal.returns-clause-found
returns-clause-found c = λ n slot there current. slot_of-current c.args.self.now n slot (subst IsRegistry c.self.view_is c.self.invariant) there current
