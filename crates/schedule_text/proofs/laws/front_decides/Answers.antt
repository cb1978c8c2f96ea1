use Rattle.schedule_text.proofs.FrontLemmas.{front_tells}
use Rattle.schedule_text.proofs.laws.front_decides.Goals as goal

pub returns : goal.returns
returns c = front_tells
