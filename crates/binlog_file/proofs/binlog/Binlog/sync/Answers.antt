use Rattle.std.proofs.Common.{refl}
use Rattle.binlog_file.proofs.CallLemmas.{sync_moments, sync_is_log}
use Rattle.binlog_file.proofs.binlog.Binlog.sync.Goals as goal

pub returns-in_err-sync-clause-any_moment : goal.returns-in_err-sync-clause-any_moment
returns-in_err-sync-clause-any_moment g c = λ list told is. sync_moments _ _ c.args.self.now _ list told is c.sync.ensures

pub returns-clause-any_moment : goal.returns-clause-any_moment
returns-clause-any_moment g c = λ list told is. sync_moments _ _ c.args.self.now _ list told is c.sync.ensures

pub returns-clause-ok : goal.returns-clause-ok
returns-clause-ok g c = λ list told is. sync_is_log _ _ c.args.self.now _ list _ told is c.in_ok-sync.ensures refl refl refl refl
