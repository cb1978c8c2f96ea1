use Rattle.std.proofs.Common.{rules}
use Rattle.disk_model.proofs.StagedLemmas as staged
use Rattle.redo_journal.proofs.create.write_synced.Goals as goal

pub returns-in_err-write : goal.returns-in_err-write
returns-in_err-write g c = record { changes = staged.write_failed _ _ c.requires.settled _ _ _ _ _ (search rules) c.in_err-write.ensures }

pub returns : goal.returns
returns g c = record { changes = staged.write_synced _ _ c.requires.settled _ _ _ _ _ _ c.in_ok-write.ensures c.sync.ensures }
