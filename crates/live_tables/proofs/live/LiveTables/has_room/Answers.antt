use Rattle.std.proofs.Common.{sym, ap, arith}
use Rattle.std.specs.Vec.{vec_len}
use Rattle.std.proofs.lemmas.Bool.{leb-true}
use Rattle.engine_api.specs.States.{live_tables, with_change}
use Rattle.engine_api.specs.Live.{live_bytes, live_limit}
use Rattle.live_tables.specs.Live.{Live}
use Rattle.live_tables.proofs.AddLemmas.{emptied, can_more, room_more, no_room}
use Rattle.live_tables.proofs.live.LiveTables.has_room.Goals as goal

pub is_within-requires : goal.is_within-requires
is_within-requires c =
    let it = c.self.inside in
    can_more c.args.change.now it.tables.items c.deref.result.now it.done.items it.left.items it.pending.items c.deref-2.result.now it.last it.committed it.opened it.waits it.waiting
    c.change_len-more.result c.args.self.now.state c.self.invariant.0 c.self.invariant.1 (emptied it.done.items (vec_len it.done) (omega arith) c.if-not-is_empty.ensures)
    (ap (λ (l : Live). l.state) c.self.view_is) c.deref.ensures.value c.deref-2.ensures.value c.requires.applies c.change_len-more.ensures c.if-not-is_countable.ensures

pub returns-then-not-is_within-clause-full : goal.returns-then-not-is_within-clause-full
returns-then-not-is_within-clause-full c = λ q.
    let it = c.self.inside in
    no_room (live_bytes (live_tables (with_change c.args.txn c.args.change.now c.args.self.now.state)))
    (room_more c.args.txn c.args.change.now it.tables.items c.deref.result.now it.done.items it.left.items it.pending.items c.deref-2.result.now it.last c.args.self.now.state _
    c.self.invariant.0 (emptied it.done.items (vec_len it.done) (omega arith) c.if-not-is_empty.ensures) (ap (λ (l : Live). l.state) c.self.view_is) c.deref.ensures.value c.deref-2.ensures.value c.if-not-is_within.ensures)

pub returns-clause-not_full : goal.returns-clause-not_full
returns-clause-not_full c =
    let it = c.self.inside in
    leb-true (live_bytes (live_tables (with_change c.args.txn c.args.change.now c.args.self.now.state))) live_limit
    (sym
    (room_more c.args.txn c.args.change.now it.tables.items c.deref.result.now it.done.items it.left.items it.pending.items c.deref-2.result.now it.last c.args.self.now.state _
    c.self.invariant.0 (emptied it.done.items (vec_len it.done) (omega arith) c.if-not-is_empty.ensures) (ap (λ (l : Live). l.state) c.self.view_is) c.deref.ensures.value c.deref-2.ensures.value c.if-not-is_within.ensures))
