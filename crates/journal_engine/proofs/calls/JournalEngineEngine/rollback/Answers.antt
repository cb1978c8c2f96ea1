-- rollback
use Rattle.std.proofs.Common.{sym, ap, subst, ◌∙◌, [], ◌∷◌, ℕ, Option, None, ◌≡◌}
use Rattle.std.proofs.lemmas.Result.{err_from_is_err_and}
use Rattle.engine_api.specs.States.{EngineState, xid_by, gist_without, rolled_back_state}
use Rattle.journal_engine.specs.Engine.{Journaled, IsWell}
use Rattle.journal_engine.proofs.TurnLemmas.{turns_quiet}
use Rattle.journal_engine.proofs.EndLemmas.{turns_told, held_told}
use Rattle.log_tables.specs.declared.gist.Gist.{Gist}
use Rattle.journal_engine.proofs.CallLemmas.{well_next}
use Rattle.journal_engine.proofs.SpeltLemmas.{spelt_rolled_back}
use Rattle.journal_engine.proofs.PutLemmas.{rollback_may, may_admit, may_files, call_put, call_not_put, call_well}
use Rattle.journal_engine.proofs.calls.JournalEngineEngine.rollback.Goals as goal

pub put-requires-clause-fits : goal.put-requires-clause-fits
put-requires-clause-fits g c =
    let may = rollback_may _ _ c.self.view_is c.self.invariant c.args.txn c.in-Some.xid (sym c.in-Some.ensures) c.laws.ensures.prepared c.small.ensures in
    may_admit _ _ c.self.view_is _ _ may

pub put-requires-clause-kept : goal.put-requires-clause-kept
put-requires-clause-kept g c =
    let may = rollback_may _ _ c.self.view_is c.self.invariant c.args.txn c.in-Some.xid (sym c.in-Some.ensures) c.laws.ensures.prepared c.small.ensures in
    may_files _ _ c.self.view_is _ _ _ may c.requires.holds

pub invariant_of-self : goal.invariant_of-self
invariant_of-self g c =
    let it = c.self.inside in
    let none : xid_by c.args.txn it.live.state.pending ≡ None = sym c.in_default.ensures in
    let next = rolled_back_state c.args.txn it.live.state in
    let same : next.gist ≡ it.live.state.gist = ap (λ (o : Option ℕ). gist_without o it.live.state.gist) none in
    let kept : next.kept ≡ it.live.state.kept = ap (λ (g : Gist). g ∷ []) same ∙ sym c.self.invariant.alone in
    subst (λ (s : EngineState). IsWell it.first_file it.journal s) (sym c.rollback.ensures)
    (well_next it.first_file it.journal it.live.state next same kept (spelt_rolled_back c.args.txn it.live.state c.self.invariant.spelt) c.self.invariant)

pub returns-in_default-clause-turns : goal.returns-in_default-clause-turns
returns-in_default-clause-turns g c =
    let it = c.self.inside in
    let none : xid_by c.args.txn it.live.state.pending ≡ None = sym c.in_default.ensures in
    let next = rolled_back_state c.args.txn in
    let new = c.rollback.new.self.state in
    let e : Journaled = record { name = it.name; soname = it.soname; first_file = it.first_file; journal = it.journal; live = it.live.state } in
    let d = (goal.Storage-dyn g c.args.volume.now).disk c.args.volume.now.1 in
    let same : new.gist ≡ it.live.state.gist = ap (λ (s : EngineState). s.gist) c.rollback.ensures ∙ ap (λ (o : Option ℕ). gist_without o it.live.state.gist) none in
    let kept : new.kept ≡ it.live.state.kept = ap (λ (s : EngineState). s.kept) c.rollback.ensures ∙ ap (λ (o : Option ℕ). gist_without o it.live.state.gist ∷ []) none ∙ sym c.self.invariant.alone in
    turns_told e c.args.self.now c.self.view_is _ next _ _ _ _
    (turns_quiet e _ (next it.live.state) new d c.rollback.ensures (λ refused. absurd refused) (λ is. let same = is in cc) c.self.invariant.alone kept same c.self.invariant.stands
    (held_told e c.args.self.now c.self.view_is d c.requires.holds))

pub returns-in_err-put-clause-turns : goal.returns-in_err-put-clause-turns
returns-in_err-put-clause-turns g c =
    let may = rollback_may _ _ c.self.view_is c.self.invariant c.args.txn c.in-Some.xid (sym c.in-Some.ensures) c.laws.ensures.prepared c.small.ensures in
    let p = err_from_is_err_and c.from_residual.result c.from_residual.ensures.1 in
    rw (p.1, p.2) (call_not_put _ _ c.self.view_is _ (rolled_back_state c.args.txn) _ _ _ _ may c.requires.holds c.in_err-put.field-0.0 c.in_err-put.ensures.puts)

pub invariant_of-self-2 : goal.invariant_of-self-2
invariant_of-self-2 g c =
    let may = rollback_may _ _ c.self.view_is c.self.invariant c.args.txn c.in-Some.xid (sym c.in-Some.ensures) c.laws.ensures.prepared c.small.ensures in
    call_well _ _ c.self.view_is _ _ _ _ _ _ _ may c.in_ok-put.field-0 c.in_ok-put.ensures.puts (c.rollback-2.ensures ∙ ap (rolled_back_state c.args.txn) c.in_ok-put.ensures.puts.same)

pub returns-clause-turns : goal.returns-clause-turns
returns-clause-turns g c =
    let may = rollback_may _ _ c.self.view_is c.self.invariant c.args.txn c.in-Some.xid (sym c.in-Some.ensures) c.laws.ensures.prepared c.small.ensures in
    let next = rolled_back_state c.args.txn in
    call_put _ _ c.self.view_is _ next _ _ _ _ _ may c.requires.holds c.in_ok-put.field-0 c.in_ok-put.ensures.puts (c.rollback-2.ensures ∙ ap next c.in_ok-put.ensures.puts.same)
