use Rattle.std.proofs.Common.{◌≡◌, ◌∙◌, ℕ, ◌+◌, ◌-◌, ◌++◌, List, length, ap, sym, subst, arith, sum_by}
use Rattle.engine_api.specs.States.{Pending}
use Rattle.live_tables.specs.Bytes.{capped}
use Rattle.live_tables.specs.Folds.{change_bytes}
use Rattle.live_tables.specs.Live.{Live, state_of, AreSound, AreCounted}
use Rattle.live_tables.proofs.FinishLemmas.{enough, sound_done, counted_done, state_done}
use Rattle.live_tables.proofs.live.LiveTables.commit.Goals as goal

pub overflow_sub-self : goal.overflow_sub-self
overflow_sub-self c =
    let it = c.self.inside in
    let bytes = c.changes_len-len.ensures ∙ ap (λ l. capped (sum_by change_bytes l)) (c.deref.ensures.value ∙ c.into_changes-changes.ensures) in
    (enough c.args.txn c.in-Some.it it.tables.items it.done.items it.left.items it.pending.items it.committed it.opened it.waits it.waiting c.changes_len-len.result c.self.invariant.0.distinct c.self.invariant.1 c.in-Some.ensures.found bytes).0

pub overflow_add-self : goal.overflow_add-self
overflow_add-self c =
    let it = c.self.inside in
    let bytes = c.changes_len-len.ensures ∙ ap (λ l. capped (sum_by change_bytes l)) (c.deref.ensures.value ∙ c.into_changes-changes.ensures) in
    let all = (enough c.args.txn c.in-Some.it it.tables.items it.done.items it.left.items it.pending.items it.committed it.opened it.waits it.waiting c.changes_len-len.result c.self.invariant.0.distinct c.self.invariant.1 c.in-Some.ensures.found bytes).2 in
    omega (arith, all)

pub overflow_sub-self-2 : goal.overflow_sub-self-2
overflow_sub-self-2 c =
    let it = c.self.inside in
    let bytes = c.changes_len-len.ensures ∙ ap (λ l. capped (sum_by change_bytes l)) (c.deref.ensures.value ∙ c.into_changes-changes.ensures) in
    let all = (enough c.args.txn c.in-Some.it it.tables.items it.done.items it.left.items it.pending.items it.committed it.opened it.waits it.waiting c.changes_len-len.result c.self.invariant.0.distinct c.self.invariant.1 c.in-Some.ensures.found bytes).1 in
    omega (arith, all, c.len.ensures, ap length c.into_changes-changes.ensures)

pub append_reserved-requires : goal.append_reserved-requires
append_reserved-requires c =
    let it = c.self.inside in
    let bytes = c.changes_len-len.ensures ∙ ap (λ l. capped (sum_by change_bytes l)) (c.deref.ensures.value ∙ c.into_changes-changes.ensures) in
    let all = (enough c.args.txn c.in-Some.it it.tables.items it.done.items it.left.items it.pending.items it.committed it.opened it.waits it.waiting c.changes_len-len.result c.self.invariant.0.distinct c.self.invariant.1 c.in-Some.ensures.found bytes).1 in
    omega (arith, all, c.self.invariant.2, ap length c.into_changes-changes.ensures)

pub invariant_of-self : goal.invariant_of-self
invariant_of-self c =
    let it = c.self.inside in
    let out = c.in-Some.it in
    let behind = c.append_reserved.new.done.items in
    let len = ap length c.into_changes-changes.ensures in
    let bytes = c.changes_len-len.ensures ∙ ap (λ l. capped (sum_by change_bytes l)) (c.deref.ensures.value ∙ c.into_changes-changes.ensures) in
    let appended : behind ≡ it.done.items ++ out.changes = c.append_reserved.ensures.items ∙ ap (λ l. it.done.items ++ l) c.into_changes-changes.ensures in
    let all = (enough c.args.txn out it.tables.items it.done.items it.left.items it.pending.items it.committed it.opened it.waits it.waiting c.changes_len-len.result c.self.invariant.0.distinct c.self.invariant.1 c.in-Some.ensures.found bytes).1 in
    let sound = sound_done c.args.txn out it.tables.items it.done.items behind it.left.items it.pending.items c.self.invariant.0 c.in-Some.ensures.found appended in
    let counted = counted_done c.args.txn out it.tables.items it.done.items behind it.left.items it.pending.items it.committed it.opened it.waits it.waiting c.changes_len-len.result
    c.self.invariant.0.distinct c.self.invariant.1 c.in-Some.ensures.found bytes appended in
    let long : length out.changes ≡ c.len.result = omega (arith, len, c.len.ensures) in (
      subst (λ (ps : List Pending). AreSound it.tables.items behind it.left.items ps) (sym c.in-Some.ensures.rest) sound,
      subst (λ (cs : ℕ). AreCounted it.tables.items behind it.left.items c.take.new.pending.items it.committed (it.opened - c.changes_len-len.result) (it.waits + c.changes_len-len.result) (it.waiting - cs)) long
          (subst (λ (ps : List Pending). AreCounted it.tables.items behind it.left.items ps it.committed (it.opened - c.changes_len-len.result) (it.waits + c.changes_len-len.result) (it.waiting - length out.changes)) (sym c.in-Some.ensures.rest) counted),
      omega (arith, c.append_reserved.ensures.len, c.append_reserved.ensures.capacity, c.self.invariant.2, len, c.len.ensures, all),
    )

pub returns : goal.returns
returns c =
    let it = c.self.inside in
    let is = ap (λ (l : Live). l.state) c.self.view_is in
    let appended = c.append_reserved.ensures.items ∙ ap (λ l. it.done.items ++ l) c.into_changes-changes.ensures in
    c.settle.ensures
    ∙ ap (λ (ps : List Pending). state_of it.tables.items c.append_reserved.new.done.items it.left.items ps c.args.number) c.in-Some.ensures.rest
    ∙ state_done c.args.txn c.args.xid c.args.number it.last c.in-Some.it it.tables.items it.done.items c.append_reserved.new.done.items
    it.left.items it.pending.items c.args.self.now.state c.self.invariant.0 is c.requires c.in-Some.ensures.found appended
