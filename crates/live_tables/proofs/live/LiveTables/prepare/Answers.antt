use Rattle.std.proofs.Common.{◌∙◌, List, ap, sym, subst}
use Rattle.engine_api.specs.States.{Pending}
use Rattle.live_tables.specs.Live.{Live, state_of, AreSound, AreCounted}
use Rattle.live_tables.proofs.FinishLemmas.{sound_under, counted_under, state_under}
use Rattle.live_tables.proofs.live.LiveTables.prepare.Goals as goal

pub invariant_of-self : goal.invariant_of-self
invariant_of-self c =
    let it = c.self.inside in
    let is = ap (λ (l : Live). l.state) c.self.view_is in
    let sound = sound_under c.args.txn c.args.xid it.last it.tables.items it.done.items it.left.items it.pending.items c.args.self.now.state c.self.invariant.0 is c.requires.unprepared c.requires.fresh in
    let counted = counted_under c.args.txn c.args.xid it.tables.items it.done.items it.left.items it.pending.items it.committed it.opened it.waits it.waiting c.self.invariant.0.distinct c.self.invariant.1 in (
      subst (λ (ps : List Pending). AreSound it.tables.items it.done.items it.left.items ps) (sym c.prepare.ensures.items) sound,
      subst (λ (ps : List Pending). AreCounted it.tables.items it.done.items it.left.items ps it.committed it.opened it.waits it.waiting) (sym c.prepare.ensures.items) counted,
      c.self.invariant.2,
    )

pub returns : goal.returns
returns c =
    let it = c.self.inside in
    let is = ap (λ (l : Live). l.state) c.self.view_is in
    record {
      state = ap (λ (ps : List Pending). state_of it.tables.items it.done.items it.left.items ps it.last) c.prepare.ensures.items
          ∙ state_under c.args.txn c.args.xid it.last it.tables.items it.done.items it.left.items it.pending.items c.args.self.now.state c.self.invariant.0.distinct is c.requires.unprepared;
    }
