use Rattle.dictionary.proofs.DefinitionLemmas.{definition_named-definitions_of}
use Rattle.dictionary.proofs.laws.definition_of_a_table.Goals as goal

pub returns : goal.returns
returns c = definition_named-definitions_of
