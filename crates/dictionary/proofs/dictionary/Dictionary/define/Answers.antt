use Rattle.std.proofs.Common.{◌≡◌, [], ◌∷◌, ◌++◌, false, refl, ap, ◌∙◌, sym, is_some}
use Rattle.std.specs.Map.{values_of}
use Rattle.row_format.specs.declared.change.Change.TheVariants.{Create}
use Rattle.dictionary.specs.Dictionary.{definition_named}
use Rattle.dictionary.specs.contracts.dictionary.Dictionary.{the_view}
use Rattle.dictionary.proofs.DefinitionLemmas.{made}
use Rattle.dictionary.proofs.EntryLemmas.{GoesLast, insert_entry-free}
use Rattle.dictionary.proofs.StepLemmas.{steps-on, steps-created}
use Rattle.dictionary.proofs.dictionary.Dictionary.define.Goals as goal

free : (c : goal.After-raise) → is_some (definition_named c.args.table.now (values_of c.self.inside.definitions.entries)) ≡ false
free c = ap (λ s. is_some (definition_named c.args.table.now s.definitions)) c.self.view_is ∙ ap is_some c.requires

added : (c : goal.After-raise) → GoesLast c.self.inside.definitions.entries c.insert.new.self.entries c.in_ok-definition.definition
added c =
    let it = c.in_ok-definition in
    insert_entry-free c.self.inside.definitions c.into_bytes-key.result it.definition c.insert.new.self.entries c.self.invariant
    (c.into_bytes-key.ensures ∙ c.in_ok-copy.ensures ∙ sym it.ensures.table)
    (ap (λ n. is_some (definition_named n (values_of c.self.inside.definitions.entries))) it.ensures.table ∙ free c)
    c.in_ok-insert.ensures.entries

pub invariant_of-self-2 : goal.invariant_of-self-2
invariant_of-self-2 c = (added c).keyed

pub returns-clause-ok : goal.returns-clause-ok
returns-clause-ok c =
    let it = c.in_ok-definition in
    let is : it.definition ≡ made c.args.table.now c.args.engine.now c.args.schema.now =
    λ i. record { table = it.ensures.table i; engine = it.ensures.engine i; schema = it.ensures.schema i } in
    let last = (added c).last ∙ ap (λ d. values_of c.self.inside.definitions.entries ++ d ∷ []) is in
    steps-on (Create c.args.table.now c.args.engine.now c.args.schema.now) (the_view c.self.inside) c.args.self.now c.self.view_is
    (steps-created c.args.table.now c.args.engine.now c.args.schema.now (the_view c.self.inside) _ (free c) last refl c.raise.ensures)
