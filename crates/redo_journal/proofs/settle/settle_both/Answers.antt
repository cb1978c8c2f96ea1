use Rattle.std.proofs.Common.{rules, refl}
use Rattle.redo_journal.proofs.OpenLemmas.{settles_first, settles_both}
use Rattle.redo_journal.proofs.settle.settle_both.Goals as goal

pub returns-in_err-sync : goal.returns-in_err-sync
returns-in_err-sync g c = settles_first _ _ _ _ _ (search rules) c.in_err-sync.ensures

pub returns : goal.returns
returns g c = settles_both _ _ _ _ _ _ _ refl c.in_ok-sync.ensures c.sync-2.ensures
