use Rattle.std.proofs.Common.{◌≡◌, ◌∙◌, ◌+◌, ◌-◌, length, sym, ap, subst, arith, sum_by}
use Rattle.live_tables.specs.Bytes.{capped}
use Rattle.live_tables.specs.Folds.{change_bytes}
use Rattle.live_tables.specs.Opens.{shares}
use Rattle.live_tables.specs.Live.{Live, AreSound, AreCounted, state_of}
use Rattle.live_tables.proofs.SoundLaws.{sound_left}
use Rattle.live_tables.proofs.CountLemmas.{counted_left_dropped, bytes_wait, enough_wait}
use Rattle.live_tables.proofs.LeftLemmas.{own_left, some_in_left, state_left_dropped}
use Rattle.live_tables.proofs.live.LiveTables.rollback_left.Goals as goal

pub take_left-requires : goal.take_left-requires
take_left-requires c =
    let it = c.self.inside in
    own_left it.left.items (shares it.pending.items) c.self.invariant.0.xids

pub unreachable-requires : goal.unreachable-requires
unreachable-requires c =
    let it = c.self.inside in
    some_in_left c.args.xid it.last it.tables.items it.done.items it.left.items it.pending.items c.args.self.now.state (ap (λ (l : Live). l.state) c.self.view_is) c.requires c.in_default.ensures.found

pub overflow_sub-self : goal.overflow_sub-self
overflow_sub-self c =
    let it = c.self.inside in
    let own = own_left it.left.items (shares it.pending.items) c.self.invariant.0.xids in
    let bytes = c.changes_len.ensures ∙ ap (λ l. capped (sum_by change_bytes l)) c.as_slice.ensures in
    (bytes_wait c.args.xid c.in-Some.it it.tables.items it.done.items it.left.items it.pending.items it.committed it.opened it.waits it.waiting c.changes_len.result c.self.invariant.1 own (sym c.in-Some.ensures.found) bytes).1

pub overflow_sub-self-2 : goal.overflow_sub-self-2
overflow_sub-self-2 c =
    let it = c.self.inside in
    let own = own_left it.left.items (shares it.pending.items) c.self.invariant.0.xids in
    let enough = enough_wait c.args.xid c.in-Some.it it.tables.items it.done.items it.left.items it.pending.items it.committed it.opened it.waits it.waiting c.self.invariant.1 own (sym c.in-Some.ensures.found) in
    omega (arith, enough, ap length c.as_slice-2.ensures)

pub invariant_of-self : goal.invariant_of-self
invariant_of-self c =
    let it = c.self.inside in
    let own = own_left it.left.items (shares it.pending.items) c.self.invariant.0.xids in
    let found = sym c.in-Some.ensures.found in
    let bytes = c.changes_len.ensures ∙ ap (λ l. capped (sum_by change_bytes l)) c.as_slice.ensures in
    let enough = enough_wait c.args.xid c.in-Some.it it.tables.items it.done.items it.left.items it.pending.items it.committed it.opened it.waits it.waiting c.self.invariant.1 own found in
    let len = ap length c.as_slice-2.ensures in
    let now = it.waiting - length c.as_slice-2.result.now in
    let fewer : now + length c.in-Some.it.changes ≡ it.waiting = omega (arith, enough, len) in (
      subst (λ l. AreSound it.tables.items it.done.items l it.pending.items) (sym c.in-Some.ensures.rest)
          (sound_left c.args.xid it.tables.items it.done.items it.left.items it.pending.items c.self.invariant.0),
      subst (λ l. AreCounted it.tables.items it.done.items l it.pending.items it.committed it.opened (it.waits - c.changes_len.result) now) (sym c.in-Some.ensures.rest)
          (counted_left_dropped c.args.xid c.in-Some.it it.tables.items it.done.items it.left.items it.pending.items it.committed it.opened it.waits it.waiting c.changes_len.result c.self.invariant.1 own found bytes now fewer),
      omega (arith, c.self.invariant.2),
    )

pub returns : goal.returns
returns c =
    let it = c.self.inside in
    ap (λ l. state_of it.tables.items it.done.items l it.pending.items it.last) c.in-Some.ensures.rest
    ∙ state_left_dropped c.args.xid it.last it.tables.items it.done.items it.left.items it.pending.items c.args.self.now.state (ap (λ (l : Live). l.state) c.self.view_is) c.requires.1
