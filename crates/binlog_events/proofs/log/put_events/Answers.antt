use Rattle.std.proofs.Common.{◌++◌, ◌∷◌, [], List, ℕ, None, sym, subst, ap, arith, length}
use Rattle.frame_codec.specs.Bytes.{le64}
use Rattle.frame_codec.specs.Chain.{EndsWithin}
use Rattle.frame_codec.proofs.FrameLemmas.{length-le64}
use Rattle.row_format.specs.declared.change.Change.{Change}
use Rattle.binlog_events.specs.Changes.{change_events}
use Rattle.binlog_events.specs.Transaction.{begin, xid_event}
use Rattle.binlog_events.specs.Frames.{Chains}
use Rattle.binlog_events.proofs.WriteLemmas.{chains_then, ends_front, ends_back}
use Rattle.binlog_events.proofs.log.put_events.Goals as goal

pub put_event-requires : goal.put_event-requires
put_event-requires c =
    let t = c.args.txn.now in
    omega (arith, ends_front c.args.start.at (begin ∷ []) (change_events None t.changes ++ xid_event t.xid ∷ []) c.requires.ends)

pub put_changes-requires-clause-ends : goal.put_changes-requires-clause-ends
put_changes-requires-clause-ends c =
    let t = c.args.txn.now in
    let behind = ends_back c.args.start.at c.in_ok-begun.begun.at (begin ∷ []) (change_events None t.changes ++ xid_event t.xid ∷ []) c.in_ok-begun.ensures.1 c.requires.ends in
    subst (λ (l : List Change). EndsWithin c.in_ok-begun.begun.at (change_events None l)) (sym c.as_slice.ensures)
    (ends_front c.in_ok-begun.begun.at (change_events None t.changes) (xid_event t.xid ∷ []) behind)

pub put_event-requires-2 : goal.put_event-requires-2
unfolding le64
put_event-requires-2 c =
    let t = c.args.txn.now in
    let list = c.as_slice.result.now in
    let all = subst (λ (l : List Change). EndsWithin c.args.start.at (begin ∷ (change_events None l ++ xid_event t.xid ∷ []))) (sym c.as_slice.ensures) c.requires.ends in
    let behind = ends_back c.args.start.at c.in_ok-begun.begun.at (begin ∷ []) (change_events None list ++ xid_event t.xid ∷ []) c.in_ok-begun.ensures.1 all in
    let last : EndsWithin c.in_ok-end.end.at (xid_event t.xid ∷ []) = ends_back c.in_ok-begun.begun.at c.in_ok-end.end.at (change_events None list) (xid_event t.xid ∷ []) c.in_ok-end.ensures.chains.1 behind in
    omega (arith, last, length-le64 t.xid, ap length c.to_le_bytes.ensures)

pub returns : goal.returns
unfolding le64
returns c =
    let t = c.args.txn.now in
    let list = c.as_slice.result.now in
    let last = subst (λ (l : List ℕ). Chains c.put_event-2.result c.in_ok-end.end c.put_changes.new.out.items c.put_event-2.new.out.items (record { kind = 16; body = l } ∷ [])) c.to_le_bytes.ensures c.put_event-2.ensures in
    record {
      chains = subst (λ (l : List Change). Chains c.put_event-2.result c.args.start c.args.out.now.items c.put_event-2.new.out.items (begin ∷ (change_events None l ++ xid_event t.xid ∷ []))) c.as_slice.ensures
          (chains_then c.put_event-2.result c.args.start c.in_ok-begun.begun c.args.out.now.items c.put_event.new.out.items c.put_event-2.new.out.items (begin ∷ []) (change_events None list ++ xid_event t.xid ∷ []) c.in_ok-begun.ensures
          (chains_then c.put_event-2.result c.in_ok-begun.begun c.in_ok-end.end c.put_event.new.out.items c.put_changes.new.out.items c.put_event-2.new.out.items (change_events None list) (xid_event t.xid ∷ []) c.in_ok-end.ensures.chains last));
    }
