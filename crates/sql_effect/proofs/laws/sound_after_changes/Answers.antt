use Rattle.sql_effect.proofs.SoundLemmas.{stay_sound}
use Rattle.sql_effect.proofs.laws.sound_after_changes.Goals as goal

pub returns : goal.returns
returns c = stay_sound
