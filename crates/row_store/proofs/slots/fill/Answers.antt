use Rattle.std.proofs.Common.{subst, arith}
use Rattle.row_store.specs.Slots.{AreVacant}
use Rattle.row_store.proofs.SlotLemmas.{vacant_front, fills_free}
use Rattle.row_store.proofs.slots.fill.Goals as goal

pub index_mut-requires : goal.index_mut-requires
index_mut-requires c =
    let v = vacant_front c.args.slots.now.items c.pop.new.self.items c.in-Some.slot (subst (AreVacant c.args.slots.now.items) c.in-Some.ensures.items c.requires.free.vacant) in
    omega (arith, v.1)

pub returns-in-Some-clause-fills : goal.returns-in-Some-clause-fills
returns-in-Some-clause-fills c = fills_free c.args.slots.now.items c.pop.new.self.items c.args.row c.in-Some.slot c.args.free.now.items c.in-Some.ensures.items c.requires.free
