use Rattle.std.proofs.Common.{◌+◌, ◌∙◌, List, ap, sym, subst}
use Rattle.row_format.specs.declared.change.Change.{Change}
use Rattle.engine_api.specs.States.{Pending, with_change}
use Rattle.live_tables.specs.Live.{Live, state_of, AreSound, AreCounted}
use Rattle.live_tables.proofs.AddLemmas.{sound_more, state_more, counted_more, unprepared_at}
use Rattle.live_tables.proofs.live.LiveTables.push.Goals as goal

pub invariant_of-self-2 : goal.invariant_of-self-2
invariant_of-self-2 c =
    let it = c.self.inside in
    let is = ap (λ (l : Live). l.state) c.self.view_is in
    let next = sound_more c.args.txn c.args.change it.tables.items it.done.items it.left.items it.pending.items it.last c.args.self.now.state c.self.invariant.0 is
    c.requires.applies c.requires.unprepared c.requires.apart in
    let counted = counted_more c.args.txn c.args.change it.tables.items it.done.items it.left.items it.pending.items it.committed it.opened it.waits it.waiting c.change_len-more.result
    c.self.invariant.0 c.self.invariant.1 c.change_len-more.ensures c.if-not-is_countable.ensures in
    let done_is = c.in_ok-reserve.ensures.items in
    let open_is = c.in_ok-add_change.ensures.ok in (
      subst (λ (d : List Change). AreSound it.tables.items d it.left.items c.add_change.new.pending.items) (sym done_is)
          (subst (λ (ps : List Pending). AreSound it.tables.items it.done.items it.left.items ps) (sym open_is) next),
      subst (λ (d : List Change). AreCounted it.tables.items d it.left.items c.add_change.new.pending.items it.committed (it.opened + c.change_len-more.result) it.waits (it.waiting + 1)) (sym done_is)
          (subst (λ (ps : List Pending). AreCounted it.tables.items it.done.items it.left.items ps it.committed (it.opened + c.change_len-more.result) it.waits (it.waiting + 1)) (sym open_is) counted),
      c.in_ok-reserve.ensures.ok,
    )

pub returns-clause-ok : goal.returns-clause-ok
returns-clause-ok c =
    let it = c.self.inside in
    let is = ap (λ (l : Live). l.state) c.self.view_is in
    let free = unprepared_at c.args.txn it.tables.items it.done.items it.left.items it.pending.items it.last c.args.self.now.state is c.requires.unprepared in
    ap (λ (d : List Change). state_of it.tables.items d it.left.items c.add_change.new.pending.items it.last) c.in_ok-reserve.ensures.items
    ∙ ap (λ (ps : List Pending). state_of it.tables.items it.done.items it.left.items ps it.last) c.in_ok-add_change.ensures.ok
    ∙ state_more c.args.txn c.args.change it.tables.items it.done.items it.left.items it.pending.items it.last c.self.invariant.0 free
    ∙ ap (with_change c.args.txn c.args.change) is
