use Rattle.std.proofs.Common.{ap, ◌∙◌}
use Rattle.std.specs.Map.{lookup}
use Rattle.dictionary.specs.Inside.{is_key}
use Rattle.dictionary.specs.Dictionary.{definition_named}
use Rattle.dictionary.proofs.EntryLemmas.{lookup-keyed}
use Rattle.dictionary.proofs.dictionary.Dictionary.find.Goals as goal

pub returns : goal.returns
returns c =
    c.get.ensures.value
    ∙ ap (λ n. lookup (is_key n) c.self.inside.definitions.entries) c.as_bytes.ensures.value
    ∙ lookup-keyed c.args.table.now c.self.inside.definitions.entries c.self.invariant
    ∙ ap (λ s. definition_named c.args.table.now s.definitions) c.self.view_is
