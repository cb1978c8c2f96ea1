use Rattle.binlog_file.proofs.StagedLemmas.{changes_write, changes_write_end, changes_header}
use Rattle.std.proofs.Common.{rules}
use Rattle.binlog_file.proofs.settle.put_header.Goals as goal

pub returns-in_err-write_at : goal.returns-in_err-write_at
returns-in_err-write_at g c = changes_header _ _ _ (changes_write _ _ _ _ _ _ _ (search rules) c.in_ok-sync.ensures c.in_err-write_at.ensures)

pub returns : goal.returns
returns g c = changes_header _ _ _ (changes_write_end _ _ _ _ _ _ _ _ c.in_ok-sync.ensures c.in_ok-write_at.ensures c.sync-2.ensures)
