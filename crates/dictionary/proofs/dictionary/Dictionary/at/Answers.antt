use Rattle.std.proofs.Common.{ap, ◌∙◌, sym}
use Rattle.dictionary.specs.Dictionary.{definition_named}
use Rattle.dictionary.proofs.EntryLemmas.{definition_named-at}
use Rattle.dictionary.proofs.dictionary.Dictionary.at.Goals as goal

pub returns-clause-named : goal.returns-clause-named
returns-clause-named c =
    let it = c.in_ok-definition in
    sym (ap (λ s. definition_named it.definition.now.table s.definitions) c.self.view_is)
    ∙ definition_named-at c.self.inside.definitions.entries c.args.place it.field-0-0.now it.definition.now c.self.invariant (sym it.ensures.entry) it.ensures.value
