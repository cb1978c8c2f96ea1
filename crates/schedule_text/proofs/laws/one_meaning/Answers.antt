use Rattle.schedule_text.proofs.MeaningLemmas.{meaning_same}
use Rattle.schedule_text.proofs.laws.one_meaning.Goals as goal

pub returns : goal.returns
returns c = meaning_same
