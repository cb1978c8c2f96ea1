use Rattle.redo_journal.proofs.HeaderLemmas.{header_written}
use Rattle.redo_journal.proofs.header.header.Goals as goal

pub returns : goal.returns
returns c = header_written _ _ _ _ _ c.to_le_bytes.ensures c.to_le_bytes-2.ensures c.area_checksum.ensures
