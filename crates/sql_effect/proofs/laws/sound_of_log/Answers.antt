use Rattle.sql_effect.proofs.SoundLemmas.{log_sound}
use Rattle.sql_effect.proofs.laws.sound_of_log.Goals as goal

pub returns : goal.returns
returns c = log_sound
