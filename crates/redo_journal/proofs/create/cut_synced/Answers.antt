use Rattle.std.proofs.Common.{rules}
use Rattle.disk_model.proofs.StagedLemmas as staged
use Rattle.redo_journal.proofs.create.cut_synced.Goals as goal

pub returns-in_err-cut : goal.returns-in_err-cut
returns-in_err-cut g c = record { changes = staged.cut_failed _ _ c.requires.settled _ _ _ _ (search rules) c.in_err-cut.ensures }

pub returns : goal.returns
returns g c = record { changes = staged.cut_synced _ _ c.requires.settled _ _ _ _ _ c.in_ok-cut.ensures c.sync.ensures }
