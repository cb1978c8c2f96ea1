use Rattle.std.proofs.Common.{◌≡◌, true, take}
use Rattle.log_tables.specs.Changes.{after_changes, all_apply}
use Rattle.live_tables.specs.Folds.{AreMade}
use Rattle.live_tables.proofs.behind.all_fit.Given as goal

abbrev pub invariant-loop-i : goal.invariant-loop-i
invariant-loop-i l = AreMade l.tables → all_apply l.done l.tables ≡ true → all_apply (take l.i l.changes) (after_changes l.done l.tables) ≡ true
