use Rattle.redo_journal.proofs.TestLemmas.{put_fits, put_kept}
use Rattle.redo_journal.proofs.tests.put.Goals as goal

pub append-requires-clause-fits : goal.append-requires-clause-fits
append-requires-clause-fits g c = put_fits _ _ _ c.requires

pub append-requires-clause-kept : goal.append-requires-clause-kept
append-requires-clause-kept g c = put_kept _ _ _ c.requires
