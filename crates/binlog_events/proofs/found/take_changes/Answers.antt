use Rattle.std.proofs.Common.{◌≡◌, ◌∙◌, sym, ap, subst, arith, List, length, Option, None}
use Rattle.std.proofs.lemmas.Bool.{eq-eqb, ne_eqb, eqb-true, eqb-false}
use Rattle.std.proofs.lemmas.Result.{err_from_is_err_and}
use Rattle.frame_codec.specs.Frame.{Event}
use Rattle.row_format.specs.declared.change.Change.{Change}
use Rattle.row_format.specs.declared.change.TableMap.{TableMap}
use Rattle.row_format.specs.Reading.{Fails}
use Rattle.binlog_events.specs.Walking.{item_of, before_of, last_map, event_item}
use Rattle.binlog_events.proofs.LogLemmas.{Walked, walked_none, walked_no_frame, walked_no_xid, walked_empty, walked_end, walked_fails, walked_more, next_shorter, body_bytes}
use Rattle.binlog_events.proofs.found.take_changes.Goals as goal

pub events-init : goal.events-init
events-init c =
    subst (λ (l : List Change). Walked c.args.start c.args.bytes.now l (before_of None (last_map l)) c.args.bytes.now c.args.start)
    (sym c.new-changes.ensures.items) (walked_none c.args.start c.args.bytes.now c.requires)

pub returns-in_default-clause-absent : goal.returns-in_default-clause-absent
returns-in_default-clause-absent c = walked_no_frame c.args.start c.events.end c.args.bytes.now c.events.rest.now c.events.changes.items _ c.events.invariant c.in_default.ensures.none

pub returns-in_default-xid_of-clause-absent : goal.returns-in_default-xid_of-clause-absent
returns-in_default-xid_of-clause-absent c =
    walked_no_xid c.args.start c.events.end c.in-Some.next.end c.args.bytes.now c.events.rest.now c.in-Some.next.rest.now c.events.changes.items _ _ c.events.invariant c.in-Some.ensures.some
    (eq-eqb _ _ c.if-next-eq-XID_KIND.true) (sym (c.in_default-xid_of.ensures (last_map c.events.changes.items)))

pub returns-then-is_empty-clause-absent : goal.returns-then-is_empty-clause-absent
returns-then-is_empty-clause-absent c =
    let none : length c.as_slice.result.now ≡ 0 = eqb-true _ _ (sym c.is_empty.ensures ∙ c.if-is_empty.true) in
    walked_empty c.args.start c.events.end c.in-Some.next.end c.args.bytes.now c.events.rest.now c.in-Some.next.rest.now c.events.changes.items _ _ c.in-Some-xid_of.xid c.events.invariant c.in-Some.ensures.some
    (eq-eqb _ _ c.if-next-eq-XID_KIND.true) (sym (c.in-Some-xid_of.ensures (last_map c.events.changes.items))) (omega (arith, none, ap length c.as_slice.ensures.value))

pub returns-then-next-eq-XID_KIND-clause-found : goal.returns-then-next-eq-XID_KIND-clause-found
returns-then-next-eq-XID_KIND-clause-found c =
    let some : length c.as_slice.result.now ≡ 0 → ⊥ = eqb-false _ _ (sym c.is_empty.ensures ∙ c.if-is_empty.false) in
    walked_end c.args.start c.events.end c.in-Some.next.end c.args.bytes.now c.events.rest.now c.in-Some.next.rest.now c.events.changes.items _ _ c.in-Some-xid_of.xid c.events.invariant c.in-Some.ensures.some
    (body_bytes c.args.start c.events.end c.in-Some.next.end c.args.bytes.now c.events.rest.now c.in-Some.next.rest.now c.events.changes.items _ _ (λ i. omega (arith, c.type_inv.bytes i)) c.events.invariant c.in-Some.ensures.some)
    (eq-eqb _ _ c.if-next-eq-XID_KIND.true) (sym (c.in-Some-xid_of.ensures (last_map c.events.changes.items))) (omega (arith, some, ap length c.as_slice.ensures.value))

pub returns-in_err-told-clause-absent : goal.returns-in_err-told-clause-absent
returns-in_err-told-clause-absent c =
    let last = c.last_map.ensures ∙ ap last_map c.deref.ensures.value in
    let p = err_from_is_err_and c.from_residual.result c.from_residual.ensures.1 in
    let event : Event = record { kind = c.in-Some.next.kind; body = c.in-Some.next.body.now } in
    let told = subst (λ (o : Option TableMap). Fails c.in_err-told.field-0.0 (event_item (before_of c.events.waiting o) event)) last c.in_err-told.ensures in
    rw (p.1, p.2) (walked_fails c.in_err-told.field-0.0 c.args.start c.events.end c.in-Some.next.end c.args.bytes.now c.events.rest.now
    c.in-Some.next.rest.now c.events.changes.items _ event c.events.invariant c.in-Some.ensures.some (ne_eqb _ _ c.if-next-eq-XID_KIND.false) told)

pub events-smaller : goal.events-smaller
events-smaller c = next_shorter c.events.end c.in-Some.next.end c.events.rest.now c.in-Some.next.rest.now _ c.in-Some.ensures.some

pub events-preserved : goal.events-preserved
events-preserved c =
    let last = c.last_map.ensures ∙ ap last_map c.deref.ensures.value in
    let event : Event = record { kind = c.in-Some.next.kind; body = c.in-Some.next.body.now } in
    let told = ap (λ (o : Option TableMap). event_item (before_of c.events.waiting o) event) (sym last) ∙ c.in_ok-told.ensures in
    let fits = body_bytes c.args.start c.events.end c.in-Some.next.end c.args.bytes.now c.events.rest.now c.in-Some.next.rest.now
    c.events.changes.items _ event (λ i. omega (arith, c.type_inv.bytes i)) c.events.invariant c.in-Some.ensures.some in
    rw (c.in_ok-waiting.ensures.before, c.in_ok-waiting.ensures.changes) (walked_more c.args.start c.events.end c.in-Some.next.end
    c.args.bytes.now c.events.rest.now c.in-Some.next.rest.now c.events.changes.items _ event (item_of c.in_ok-told.told) c.events.invariant
    c.in-Some.ensures.some fits (ne_eqb _ _ c.if-next-eq-XID_KIND.false) told)
