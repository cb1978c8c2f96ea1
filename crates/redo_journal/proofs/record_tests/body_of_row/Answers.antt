use Rattle.row_format.proofs.ImageLemmas.{has_image}
use Rattle.redo_journal.proofs.record_tests.body_of_row.Goals as goal

pub row_body-requires : goal.row_body-requires
row_body-requires c = has_image c.args.schema.now c.args.row.now c.requires.schema c.requires.row
