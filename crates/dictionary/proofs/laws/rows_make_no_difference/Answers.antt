use Rattle.dictionary.proofs.DefinitionLemmas.{definitions_of-rows}
use Rattle.dictionary.proofs.laws.rows_make_no_difference.Goals as goal

pub returns : goal.returns
returns c = definitions_of-rows
