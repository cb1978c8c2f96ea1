use Rattle.std.proofs.Common.{true, false, refl, ◌∙◌, sym}
use Rattle.row_format.specs.declared.change.Change.TheVariants.{Drop}
use Rattle.dictionary.specs.contracts.dictionary.Dictionary.{the_view}
use Rattle.dictionary.proofs.EntryLemmas.{AreKeyed-removed, remove_entry-drops}
use Rattle.dictionary.proofs.StepLemmas.{steps-on, steps-dropped}
use Rattle.dictionary.proofs.dictionary.Dictionary.remove.Goals as goal

pub invariant_of-self : goal.invariant_of-self
invariant_of-self c = AreKeyed-removed c.args.table.now _ _ c.self.invariant c.take_out.ensures.left

pub invariant_of-self-else-is_some : goal.invariant_of-self-else-is_some
invariant_of-self-else-is_some c = AreKeyed-removed c.args.table.now _ _ c.self.invariant c.take_out.ensures.left

pub returns-then-is_some : goal.returns-then-is_some
returns-then-is_some c =
    let drops = remove_entry-drops c.args.table.now _ _ _ c.self.invariant c.take_out.ensures.left c.take_out.ensures.taken in
    steps-on (Drop c.args.table.now) (the_view c.self.inside) c.args.self.now c.self.view_is
    (steps-dropped c.args.table.now (the_view c.self.inside) _ true (drops.told ∙ sym c.is_some.ensures ∙ c.if-is_some.true) drops.left refl c.raise.ensures)

pub returns-else-is_some : goal.returns-else-is_some
returns-else-is_some c =
    let drops = remove_entry-drops c.args.table.now _ _ _ c.self.invariant c.take_out.ensures.left c.take_out.ensures.taken in
    steps-on (Drop c.args.table.now) (the_view c.self.inside) c.args.self.now c.self.view_is
    (steps-dropped c.args.table.now (the_view c.self.inside) _ false (drops.told ∙ sym c.is_some.ensures ∙ c.if-is_some.false) drops.left refl refl)
