use Rattle.redo_journal.proofs.AppendLemmas.{rest_holds, no_area, sync_ok, sync_settles, sync_holds}
use Rattle.redo_journal.proofs.journal.Journal.sync.Goals as goal

pub returns-in-None-clause-any_moment : goal.returns-in-None-clause-any_moment
returns-in-None-clause-any_moment g c = rest_holds _ _

pub returns-in-Some-clause-ok : goal.returns-in-Some-clause-ok
returns-in-Some-clause-ok g c = sync_ok c.args.self.now c.in-Some.area _ _ _ _ c.in-Some.is c.file.ensures c.sync.ensures

pub returns-in-Some-clause-any_moment : goal.returns-in-Some-clause-any_moment
returns-in-Some-clause-any_moment g c = sync_holds c.args.self.now c.in-Some.area _ _ _ _ c.in-Some.is c.file.ensures c.sync.ensures

pub returns-in-Some-clause-settled : goal.returns-in-Some-clause-settled
returns-in-Some-clause-settled g c = sync_settles c.args.self.now c.in-Some.area _ _ _ _ c.in-Some.is c.file.ensures c.sync.ensures

pub returns-in-None-clause-settled : goal.returns-in-None-clause-settled
returns-in-None-clause-settled g c told there = no_area c.args.self.now c.in-None.is there
