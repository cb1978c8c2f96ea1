-- Frame after frame, none of an XID; then the front of one more, or of none.
use Rattle.std.proofs.Common.{◌+◌, refl, arith}
use Rattle.std.proofs.lemmas.List.{take_rest}
use Rattle.frame_codec.specs.Frame.{Event, IsFrameAt}
use Rattle.frame_codec.specs.Read.{Reads}
use Rattle.binlog_file.proofs.WalkLemmas.{some_is}
use Rattle.binlog_file.proofs.PlainLemmas.{never_some}
use Rattle.binlog_file.proofs.CutOffLemmas.{passed_none, passed_more, xid_ends, never_cut, never_past, needs_cut}
use Rattle.binlog_file.proofs.cut_off.needed.Goals as goal
use Rattle.binlog_file.proofs.cut_off.needed.Goals.{then-size-rest-via-then-size-rest, then-size-rest-via-else-size-rest+then-size-end}

pub loop-frame-init : goal.loop-frame-init
loop-frame-init c = passed_none _ _ _ c.requires.within

pub returns-then-frame-eq-XID-clause-none : goal.returns-then-frame-eq-XID-clause-none
returns-then-frame-eq-XID-clause-none c =
    let reads = some_is _ c.in-Some.frame (Reads c.loop-frame.crc c.loop-frame.end c.loop-frame.rest.now) c.in-Some.is c.frame_at.ensures.some in
    xid_ends _ _ _ _ _ _ c.in-Some.frame c.loop-frame.invariant reads c.if-frame-eq-XID.true c.requires.none

pub loop-frame-preserved : goal.loop-frame-preserved
loop-frame-preserved c =
    let reads = some_is _ c.in-Some.frame (Reads c.loop-frame.crc c.loop-frame.end c.loop-frame.rest.now) c.in-Some.is c.frame_at.ensures.some in
    passed_more _ _ _ _ _ _ _ c.in-Some.frame c.loop-frame.invariant reads c.if-frame-eq-XID.false (take_rest c.loop-frame.rest.now (c.in-Some.frame.body_end + 4))

pub returns-then-size-rest-clause-none : goal.returns-then-size-rest-clause-none
returns-then-size-rest-clause-none c =
    let none = never_some _ ((event : Event) → IsFrameAt c.loop-frame.crc c.loop-frame.end c.loop-frame.rest.now event → ⊥) c.in_default.not-Some c.frame_at.ensures.none in
    elim c.then-size-rest.branch [
      | then-size-rest-via-then-size-rest w ↦
          never_cut _ _ _ _ c.least_size-size.result _ _ c.loop-frame.invariant none w.if-size-rest.true
          (λ event beyond here. c.least_size-size.ensures.exact w.if-size-rest.true c.loop-frame.crc c.loop-frame.end event beyond here)
      | then-size-rest-via-else-size-rest+then-size-end w ↦
          never_past _ _ _ _ c.least_size-size.result _ _ c.loop-frame.invariant w.if-size-end.true
          (λ event beyond here. c.least_size-size.ensures.least c.loop-frame.crc c.loop-frame.end event beyond here)
    ]

pub returns-clause-some : goal.returns-clause-some
returns-clause-some c =
    needs_cut _ _ _ _ c.least_size-size.result _ _ _ c.loop-frame.invariant (omega (arith, c.if-size-rest.false)) (omega (arith, c.if-size-end.false))
    (λ event beyond here. c.least_size-size.ensures.least c.loop-frame.crc c.loop-frame.end event beyond here) refl
