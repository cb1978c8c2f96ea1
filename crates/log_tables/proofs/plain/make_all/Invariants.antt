use Rattle.std.proofs.Common.{◌≡◌}
use Rattle.std.specs.Vec.Iter.{into_iter_items}
use Rattle.log_tables.specs.Changes.{after_changes}
use Rattle.log_tables.proofs.plain.make_all.Given as goal

abbrev pub invariant-loop-it : goal.invariant-loop-it
invariant-loop-it l = record { so_far : after_changes (into_iter_items l.it-iterator) l.tables.items ≡ after_changes l.fn.list l.fn.tables.items }
