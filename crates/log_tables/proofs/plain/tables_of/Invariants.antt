use Rattle.std.proofs.Common.{◌≡◌}
use Rattle.std.specs.Vec.Iter.{into_iter_items}
use Rattle.log_tables.specs.Changes.{after_all, tables_after}
use Rattle.log_tables.proofs.plain.tables_of.Given as goal

abbrev pub invariant-loop-it : goal.invariant-loop-it
invariant-loop-it l = record { so_far : after_all (into_iter_items l.it-iterator) l.tables.items ≡ tables_after l.fn.log.items }
