use Rattle.std.proofs.Common.{◌≡◌, ◌∙◌, ◌+◌, ◌-◌, ◌++◌, length, sym, ap, arith}
use Rattle.log_tables.specs.Gists.{without_xid}
use Rattle.live_tables.specs.Opens.{shares}
use Rattle.live_tables.specs.Live.{Live, AreCounted}
use Rattle.std.proofs.Common.{subst}
use Rattle.live_tables.proofs.CountLemmas.{enough_wait, counted_left_committed}
use Rattle.live_tables.proofs.LeftLemmas.{own_left, some_in_left, fits_in_left, left_done, left_done_state}
use Rattle.live_tables.proofs.live.LiveTables.commit_left.Goals as goal

pub take_left-requires : goal.take_left-requires
take_left-requires c =
    let it = c.self.inside in
    own_left it.left.items (shares it.pending.items) c.self.invariant.0.xids

pub unreachable-requires : goal.unreachable-requires
unreachable-requires c =
    let it = c.self.inside in
    some_in_left c.args.xid it.last it.tables.items it.done.items it.left.items it.pending.items c.args.self.now.state (ap (λ (l : Live). l.state) c.self.view_is) c.requires.left c.in_default.ensures.found

pub overflow_sub-self : goal.overflow_sub-self
overflow_sub-self c =
    let it = c.self.inside in
    let own = own_left it.left.items (shares it.pending.items) c.self.invariant.0.xids in
    let enough = enough_wait c.args.xid c.in-Some.it it.tables.items it.done.items it.left.items it.pending.items it.committed it.opened it.waits it.waiting c.self.invariant.1 own (sym c.in-Some.ensures.found) in
    omega (arith, enough, c.len.ensures, ap length c.into_changes-changes.ensures)

pub append_reserved-requires : goal.append_reserved-requires
append_reserved-requires c =
    let it = c.self.inside in
    let own = own_left it.left.items (shares it.pending.items) c.self.invariant.0.xids in
    let enough = enough_wait c.args.xid c.in-Some.it it.tables.items it.done.items it.left.items it.pending.items it.committed it.opened it.waits it.waiting c.self.invariant.1 own (sym c.in-Some.ensures.found) in
    omega (arith, enough, c.self.invariant.2, ap length c.into_changes-changes.ensures)

pub invariant_of-self : goal.invariant_of-self
invariant_of-self c =
    let it = c.self.inside in
    let out = c.in-Some.it in
    let behind = c.append_reserved.new.done.items in
    let is = ap (λ (l : Live). l.state) c.self.view_is in
    let own = own_left it.left.items (shares it.pending.items) c.self.invariant.0.xids in
    let found = sym c.in-Some.ensures.found in
    let fits = fits_in_left c.args.xid it.last out it.tables.items it.done.items it.left.items it.pending.items c.args.self.now.state is c.requires.left.1 found c.requires.fits in
    let appended : behind ≡ it.done.items ++ out.changes = c.append_reserved.ensures.items ∙ ap (λ l. it.done.items ++ l) c.into_changes-changes.ensures in
    let enough = enough_wait c.args.xid out it.tables.items it.done.items it.left.items it.pending.items it.committed it.opened it.waits it.waiting c.self.invariant.1 own found in
    let len = ap length c.into_changes-changes.ensures in
    let now = it.waiting - c.len.result in
    let fewer : now + length out.changes ≡ it.waiting = omega (arith, enough, len, c.len.ensures) in
    let counted = counted_left_committed c.args.xid out it.tables.items it.done.items it.left.items it.pending.items it.committed it.opened it.waits it.waiting c.self.invariant.1 own found now fewer in (
      left_done c.args.xid out it.tables.items it.done.items behind it.left.items c.take_left.new.left.items it.pending.items c.self.invariant.0 found fits appended c.in-Some.ensures.rest,
      subst (λ l. AreCounted it.tables.items behind l it.pending.items it.committed it.opened it.waits now) (sym c.in-Some.ensures.rest)
          (subst (λ l. AreCounted it.tables.items l (without_xid c.args.xid it.left.items) it.pending.items it.committed it.opened it.waits now) (sym appended) counted),
      omega (arith, c.append_reserved.ensures.len, c.append_reserved.ensures.capacity, c.self.invariant.2, len, c.len.ensures, enough),
    )

pub returns : goal.returns
returns c =
    let it = c.self.inside in
    let is = ap (λ (l : Live). l.state) c.self.view_is in
    let appended = c.append_reserved.ensures.items ∙ ap (λ l. it.done.items ++ l) c.into_changes-changes.ensures in
    record {
      state = λ p asked.
          c.settle.ensures
          ∙ left_done_state c.args.xid c.args.number it.last c.in-Some.it p it.tables.items it.done.items c.append_reserved.new.done.items it.left.items c.take_left.new.left.items it.pending.items
          c.args.self.now.state is c.requires.left.1 (sym c.in-Some.ensures.found) appended c.in-Some.ensures.rest asked;
    }
