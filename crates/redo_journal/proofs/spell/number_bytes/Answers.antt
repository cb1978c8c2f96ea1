use Rattle.frame_codec.specs.Bytes.{le64}
use Rattle.redo_journal.proofs.spell.number_bytes.Goals as goal

pub returns : goal.returns
unfolding le64
returns c = c.to_le_bytes.ensures
