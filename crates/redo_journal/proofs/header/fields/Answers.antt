use Rattle.redo_journal.proofs.HeaderLemmas.{fields_written}
use Rattle.redo_journal.proofs.header.fields.Goals as goal

pub returns : goal.returns
returns c = fields_written _ _ c.to_le_bytes.ensures
