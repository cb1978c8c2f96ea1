use Rattle.std.proofs.Common.{rules, ◌≡◌, ◌∷◌, ◌++◌, [], sym, ◌∙◌}
use Rattle.row_store.proofs.SlotLemmas.{frees_now}
use Rattle.row_store.proofs.slots.take.Goals as goal

pub returns-clause-frees : goal.returns-clause-frees
returns-clause-frees c =
    let pushed : c.push.new.self.items ≡ c.args.free.now.items ++ c.args.slot ∷ [] = search rules in
    frees_now c.args.slots.now.items c.args.free.now.items c.args.slot c.in-Some.row c.index_mut.result.now c.take.new.self c.push.new.self.items c.requires.taken c.index_mut.ensures.value (sym c.take.ensures.value ∙ c.in-Some.is) c.take.ensures.after
    c.requires.free pushed

pub returns-clause-free_room : goal.returns-clause-free_room
returns-clause-free_room c = c.push.ensures.capacity
