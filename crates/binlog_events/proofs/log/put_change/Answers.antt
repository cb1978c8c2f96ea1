use Rattle.std.proofs.Common.{List, subst}
use Rattle.std.specs.Prelude.{Ok}
use Rattle.frame_codec.specs.Frame.{Event}
use Rattle.binlog_events.specs.Frames.{Chains}
use Rattle.binlog_events.proofs.WriteLemmas.{chains_then}
use Rattle.binlog_events.proofs.log.put_change.Goals as goal

pub returns : goal.returns
returns c = record {
  chains =
      chains_then c.put_own_event.result c.args.start c.in_ok-end.end _ _ _ _ _
      (subst (λ (l : List Event). Chains (Ok c.in_ok-end.end) c.args.start c.args.out.now.items c.put_map_event.new.out.items l) c.map_needed.ensures.value c.in_ok-end.ensures.chains)
      c.put_own_event.ensures.chains;
}
