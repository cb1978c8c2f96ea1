-- prepare
use Rattle.std.proofs.Common.{◌≡◌, ◌≤◌, refl, sym, ap, subst, ◌∙◌, arith, [], ◌∷◌, Err}
use Rattle.std.proofs.lemmas.Result.{err_from_is_err_and}
use Rattle.engine_api.specs.declared.fault.Code.TheVariants.{Full}
use Rattle.engine_api.specs.declared.fault.EngineFault.{EngineFault}
use Rattle.engine_api.specs.States.{changes_by, prepared_state}
use Rattle.live_tables.specs.Live.{Live}
use Rattle.journal_engine.specs.Engine.{AreWritable, files_of}
use Rattle.journal_engine.proofs.SpeltLemmas.{writable_by}
use Rattle.journal_engine.proofs.TurnLemmas.{put_files, not_put_well, no_more_answers}
use Rattle.journal_engine.proofs.EndLemmas.{found_there, not_code, held_told}
use Rattle.journal_engine.proofs.PutLemmas.{prepare_may, may_admit, call_put, call_not_put, call_well, call_ended, call_stopped, puts_from}
use Rattle.journal_engine.proofs.calls.JournalEngineEngine.prepare.Goals as goal

pub returns-in_err-changes-clause-turns : goal.returns-in_err-changes-clause-turns
returns-in_err-changes-clause-turns g c =
    let p = err_from_is_err_and c.from_residual.result c.from_residual.ensures.1 in
    rw (p.1, p.2) (call_stopped _ _ c.self.view_is c.self.invariant _ (prepared_state c.args.txn c.args.xid c.args.self.now.live) _ c.requires.holds tt (λ is. let same = is in cc))

pub returns-in_err-xids-clause-turns : goal.returns-in_err-xids-clause-turns
returns-in_err-xids-clause-turns g c =
    let p = err_from_is_err_and c.from_residual-in_err-xids.result c.from_residual-in_err-xids.ensures.1 in
    rw (p.1, p.2) (call_stopped _ _ c.self.view_is c.self.invariant _ (prepared_state c.args.txn c.args.xid c.args.self.now.live) _ c.requires.holds tt (λ is. let same = is in cc))

pub is_past-requires : goal.is_past-requires
is_past-requires g c =
    let it = c.self.inside in
    let copied : c.new.result ≡ changes_by c.args.txn it.live.state.pending = c.new.ensures ∙ c.in_ok-changes.ensures ∙ c.changes.ensures in
    subst AreWritable (sym copied) (writable_by c.args.txn it.live.state.pending c.self.invariant.spelt.pending)

pub returns-then-is_past-clause-turns : goal.returns-then-is_past-clause-turns
returns-then-is_past-clause-turns g c =
    call_stopped _ _ c.self.view_is c.self.invariant _ (prepared_state c.args.txn c.args.xid c.args.self.now.live) _ c.requires.holds tt (λ is. let same = is in cc)

pub returns-in_err-reserve-clause-turns : goal.returns-in_err-reserve-clause-turns
returns-in_err-reserve-clause-turns g c =
    let p = err_from_is_err_and c.from_residual-in_err-reserve.result c.from_residual-in_err-reserve.ensures.1 in
    rw (p.1, p.2) (call_ended _ _ c.self.view_is c.self.invariant _ (prepared_state c.args.txn c.args.xid) _ _ c.requires.holds tt (λ is. let same = is in cc) c.reserve.ensures.same)

pub put-requires-clause-fits : goal.put-requires-clause-fits
put-requires-clause-fits g c =
    let may = prepare_may _ _ c.self.view_is c.self.invariant c.args.txn c.args.xid c.len.result c.in_ok-xids.field-0.items _ _ _ c.in-Some.is (c.new.ensures ∙ c.in_ok-changes.ensures ∙ c.changes.ensures)
    (omega (arith, c.ranges.xid)) c.requires.fresh (omega (arith, c.len.ensures)) c.in_ok-xids.ensures c.is_past.ensures c.if-is_past.false in
    may_admit _ _ c.self.view_is _ _ may

pub put-requires-clause-kept : goal.put-requires-clause-kept
put-requires-clause-kept g c =
    let it = c.self.inside in
    let d = (goal.Storage-dyn g c.args.volume.now).disk c.args.volume.now.1 in
    put_files it.first_file it.journal it.live.state.gist d c.self.invariant.stands (held_told _ _ c.self.view_is d c.requires.holds) (found_there it.journal c.in-Some.journal c.in-Some.is)

pub invariant_of-self-in_err-put : goal.invariant_of-self-in_err-put
invariant_of-self-in_err-put g c =
    not_put_well c.self.inside.first_file _ c.in_err-put.field-0.0 _ _ _ _ _ _ c.self.invariant (puts_from c.reserve.ensures.same c.in_err-put.ensures.puts)

pub returns-in_err-put-clause-turns : goal.returns-in_err-put-clause-turns
returns-in_err-put-clause-turns g c =
    let may = prepare_may _ _ c.self.view_is c.self.invariant c.args.txn c.args.xid c.len.result c.in_ok-xids.field-0.items _ _ _ c.in-Some.is (c.new.ensures ∙ c.in_ok-changes.ensures ∙ c.changes.ensures)
    (omega (arith, c.ranges.xid)) c.requires.fresh (omega (arith, c.len.ensures)) c.in_ok-xids.ensures c.is_past.ensures c.if-is_past.false in
    let p = err_from_is_err_and c.from_residual-in_err-put.result c.from_residual-in_err-put.ensures.1 in
    rw (p.1, p.2) (call_not_put _ _ c.self.view_is _ (prepared_state c.args.txn c.args.xid) _ _ _ _ may c.requires.holds c.in_err-put.field-0.0 (puts_from c.reserve.ensures.same c.in_err-put.ensures.puts))

pub returns-in_err-put-clause-full : goal.returns-in_err-put-clause-full
returns-in_err-put-clause-full g c full =
    let p = err_from_is_err_and c.from_residual-in_err-put.result c.from_residual-in_err-put.ensures.1 in
    absurd (not_code Full c.in_err-put.field-0.0 (Err c.in_err-put.field-0.0) refl c.in_err-put.ensures.puts.answers (ap (λ (f : EngineFault). Err f) (sym p.2) ∙ sym p.1 ∙ full))

pub returns-in_err-put-clause-answers : goal.returns-in_err-put-clause-answers
returns-in_err-put-clause-answers g c =
    let d = (goal.Storage-dyn g c.args.volume.now).disk c.args.volume.now.1 in
    let p = err_from_is_err_and c.from_residual-in_err-put.result c.from_residual-in_err-put.ensures.1 in
    rw (p.1, p.2) (no_more_answers (Full ∷ []) (files_of c.args.self.now.first_file) d.told (Err c.in_err-put.field-0.0) c.in_err-put.ensures.puts.answers)

pub prepare-requires-clause-room : goal.prepare-requires-clause-room
prepare-requires-clause-room g c = subst (λ (l : Live). 1 ≤ l.spare) (sym c.in_ok-put.ensures.live) c.in_ok-reserve.ensures.room

pub invariant_of-self-2 : goal.invariant_of-self-2
invariant_of-self-2 g c =
    let may = prepare_may _ _ c.self.view_is c.self.invariant c.args.txn c.args.xid c.len.result c.in_ok-xids.field-0.items _ _ _ c.in-Some.is (c.new.ensures ∙ c.in_ok-changes.ensures ∙ c.changes.ensures)
    (omega (arith, c.ranges.xid)) c.requires.fresh (omega (arith, c.len.ensures)) c.in_ok-xids.ensures c.is_past.ensures c.if-is_past.false in
    let next = prepared_state c.args.txn c.args.xid in
    call_well _ _ c.self.view_is _ _ _ _ _ _ _ may c.in_ok-put.field-0 (puts_from c.reserve.ensures.same c.in_ok-put.ensures.puts)
    (c.prepare.ensures.state ∙ ap next (c.in_ok-put.ensures.puts.same ∙ c.reserve.ensures.same))

pub returns-clause-turns : goal.returns-clause-turns
returns-clause-turns g c =
    let may = prepare_may _ _ c.self.view_is c.self.invariant c.args.txn c.args.xid c.len.result c.in_ok-xids.field-0.items _ _ _ c.in-Some.is (c.new.ensures ∙ c.in_ok-changes.ensures ∙ c.changes.ensures)
    (omega (arith, c.ranges.xid)) c.requires.fresh (omega (arith, c.len.ensures)) c.in_ok-xids.ensures c.is_past.ensures c.if-is_past.false in
    let puts = puts_from c.reserve.ensures.same c.in_ok-put.ensures.puts in
    let next = prepared_state c.args.txn c.args.xid in
    call_put _ _ c.self.view_is _ next _ _ _ _ _ may c.requires.holds c.in_ok-put.field-0 puts (c.prepare.ensures.state ∙ ap next puts.same)
