use Rattle.std.proofs.Common.{rules, refl}
use Rattle.plugd.proofs.CoordinatorLemmas.{flushed_same}
use Rattle.plugd.proofs.PieceLemmas.{played_bytes, sink_broke, memory_spent, some_put}
use Rattle.plugd.proofs.play.play_bytes.Goals as goal

pub returns-then-is_err : goal.returns-then-is_err
returns-then-is_err g c =
    record {
      same = flushed_same g.C.Coordinator.reads _ _ _ c.take_all.ensures.same c.flush.ensures.core;
      plays = memory_spent c.args.bytes.now c.args.session.now c.take_all.new.self c.flush.new.self c.take_all.result _ c.flush.ensures.counts.no_fewer c.take_all.ensures.takes (search rules)
          c.flush.ensures.core (some_put c.flush.result _ _ _ c.flush.ensures.ok c.flush.ensures.err);
    }

pub returns-in-Ok : goal.returns-in-Ok
returns-in-Ok g c =
    record {
      same = flushed_same g.C.Coordinator.reads _ _ _ c.take_all.ensures.same c.flush-2.ensures.core;
      plays = played_bytes c.args.bytes.now c.args.session.now c.take_all.new.self c.flush-2.new.self c.take_all.result _ c.flush-2.ensures.counts.no_fewer c.take_all.ensures.takes (λ is. search rules)
          c.flush-2.ensures.core c.flush-2.ensures.front c.in-Ok.ensures.empty c.in-Ok.ensures.ok;
    }

pub returns-in-Err : goal.returns-in-Err
returns-in-Err g c =
    record {
      same = flushed_same g.C.Coordinator.reads _ _ _ c.take_all.ensures.same c.flush-2.ensures.core;
      plays = sink_broke g.met.C.Coordinator.may_rest c.args.bytes.now c.args.session.now c.take_all.new.self c.flush-2.new.self c.take_all.result _ c.flush-2.ensures.counts.no_fewer c.take_all.ensures.takes (λ is. search rules)
          c.flush-2.ensures.core c.in-Err.ensures.err (c.in-Err.ensures.counts.cause refl);
    }
