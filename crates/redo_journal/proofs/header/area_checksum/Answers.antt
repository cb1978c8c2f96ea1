use Rattle.redo_journal.proofs.HeaderLemmas.{checksum_is}
use Rattle.redo_journal.proofs.header.area_checksum.Goals as goal

pub returns : goal.returns
returns c = checksum_is _ _ _ c.crc.ensures c.fields.ensures
