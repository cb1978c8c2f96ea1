use Rattle.std.specs.Vec.Iter.{into_iter_items}
use Rattle.journal_engine.specs.Replaying.{HasReadUpTo}
use Rattle.journal_engine.proofs.replay.replay.Given as goal

abbrev pub invariant-loop-it : goal.invariant-loop-it
invariant-loop-it l = HasReadUpTo (into_iter_items l.it-iterator) l.fn.records.items l.live.state
