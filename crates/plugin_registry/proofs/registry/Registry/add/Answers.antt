use Rattle.std.proofs.Common.{ap, ◌∙◌, arith}
use Rattle.plugin_registry.specs.Registry.{slot_of}
use Rattle.plugin_registry.proofs.SlotLemmas.{after_install-push}
use Rattle.plugin_registry.proofs.KeepLemmas.{registry-install}
use Rattle.plugin_registry.proofs.CallLemmas.{installs}
use Rattle.plugin_registry.proofs.registry.Registry.add.Goals as goal

pub invariant_of-self-2 : goal.invariant_of-self-2
invariant_of-self-2 c =
    let xs = c.self.inside.slots.items in
    registry-install c.args.name.now xs c.push.new.self.items c.self.invariant (omega arith) (ap (slot_of c.args.name.now) c.self.view_is ∙ c.requires)
    (after_install-push c.args.name.now c.in_ok-name.name c.new.result xs c.push.new.self.items c.in_ok-name.ensures c.new.ensures c.in_ok-push.ensures.items)

pub returns-clause-installs : goal.returns-clause-installs
returns-clause-installs c =
    let xs = c.self.inside.slots.items in
    installs c.args.name.now xs c.args.self.now c.push.new.self.items c.len-number.result c.self.view_is (omega arith) c.requires (omega arith)
    (after_install-push c.args.name.now c.in_ok-name.name c.new.result xs c.push.new.self.items c.in_ok-name.ensures c.new.ensures c.in_ok-push.ensures.items)
