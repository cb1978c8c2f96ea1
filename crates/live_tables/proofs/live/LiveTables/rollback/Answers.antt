use Rattle.std.proofs.Common.{◌≡◌, ◌∙◌, ℕ, ◌-◌, List, length, ap, sym, subst, arith, sum_by}
use Rattle.engine_api.specs.States.{Pending}
use Rattle.live_tables.specs.Bytes.{capped}
use Rattle.live_tables.specs.Folds.{change_bytes}
use Rattle.live_tables.specs.Live.{Live, state_of, AreSound, AreCounted}
use Rattle.live_tables.proofs.OpenLaws.{without_absent}
use Rattle.live_tables.proofs.SoundLaws.{sound_rolled_back}
use Rattle.live_tables.proofs.FinishLemmas.{enough, counted_without, state_rolled_back}
use Rattle.live_tables.proofs.live.LiveTables.rollback.Goals as goal

pub invariant_of-self : goal.invariant_of-self
invariant_of-self c =
    let it = c.self.inside in
    let same : c.take.new.pending.items ≡ it.pending.items = c.in_default.ensures.rest ∙ without_absent c.args.txn it.pending.items (sym c.in_default.ensures.found) in (
      subst (λ (ps : List Pending). AreSound it.tables.items it.done.items it.left.items ps) (sym same) c.self.invariant.0,
      subst (λ (ps : List Pending). AreCounted it.tables.items it.done.items it.left.items ps it.committed it.opened it.waits it.waiting) (sym same) c.self.invariant.1,
      c.self.invariant.2,
    )

pub returns-in_default : goal.returns-in_default
returns-in_default c =
    let it = c.self.inside in
    let is = ap (λ (l : Live). l.state) c.self.view_is in
    ap (λ (ps : List Pending). state_of it.tables.items it.done.items it.left.items ps it.last) c.in_default.ensures.rest
    ∙ state_rolled_back c.args.txn it.last it.tables.items it.done.items it.left.items it.pending.items c.args.self.now.state c.self.invariant.0 is

pub overflow_sub-self : goal.overflow_sub-self
overflow_sub-self c =
    let it = c.self.inside in
    let bytes = c.changes_len.ensures ∙ ap (λ l. capped (sum_by change_bytes l)) (c.changes.ensures) in
    (enough c.args.txn c.in-Some.it it.tables.items it.done.items it.left.items it.pending.items it.committed it.opened it.waits it.waiting c.changes_len.result c.self.invariant.0.distinct c.self.invariant.1 c.in-Some.ensures.found bytes).0

pub overflow_sub-self-2 : goal.overflow_sub-self-2
overflow_sub-self-2 c =
    let it = c.self.inside in
    let bytes = c.changes_len.ensures ∙ ap (λ l. capped (sum_by change_bytes l)) (c.changes.ensures) in
    let own : c.changes-2.result.now ≡ c.in-Some.it.changes = c.changes-2.ensures in
    let all = (enough c.args.txn c.in-Some.it it.tables.items it.done.items it.left.items it.pending.items it.committed it.opened it.waits it.waiting c.changes_len.result c.self.invariant.0.distinct c.self.invariant.1 c.in-Some.ensures.found bytes).1 in
    omega (arith, all, ap length own)

pub invariant_of-self-2 : goal.invariant_of-self-2
invariant_of-self-2 c =
    let it = c.self.inside in
    let bytes = c.changes_len.ensures ∙ ap (λ l. capped (sum_by change_bytes l)) (c.changes.ensures) in
    let own : c.changes-2.result.now ≡ c.in-Some.it.changes = c.changes-2.ensures in
    let rest = c.in-Some.ensures.rest in
    let counted = counted_without c.args.txn c.in-Some.it it.tables.items it.done.items it.left.items it.pending.items it.committed it.opened it.waits it.waiting c.changes_len.result
    c.self.invariant.0.distinct c.self.invariant.1 c.in-Some.ensures.found bytes in (
      subst (λ (ps : List Pending). AreSound it.tables.items it.done.items it.left.items ps) (sym rest) (sound_rolled_back c.args.txn it.tables.items it.done.items it.left.items it.pending.items c.self.invariant.0),
      subst (λ (cs : ℕ). AreCounted it.tables.items it.done.items it.left.items c.take.new.pending.items it.committed (it.opened - c.changes_len.result) it.waits (it.waiting - cs)) (sym (ap length own))
          (subst (λ (ps : List Pending). AreCounted it.tables.items it.done.items it.left.items ps it.committed (it.opened - c.changes_len.result) it.waits (it.waiting - length c.in-Some.it.changes)) (sym rest) counted),
      omega (arith, c.self.invariant.2),
    )

pub returns : goal.returns
returns c =
    let it = c.self.inside in
    let is = ap (λ (l : Live). l.state) c.self.view_is in
    ap (λ (ps : List Pending). state_of it.tables.items it.done.items it.left.items ps it.last) c.in-Some.ensures.rest
    ∙ state_rolled_back c.args.txn it.last it.tables.items it.done.items it.left.items it.pending.items c.args.self.now.state c.self.invariant.0 is
