-- rollback_by_xid
use Rattle.std.proofs.Common.{ap, ◌∙◌, arith}
use Rattle.std.proofs.lemmas.Result.{err_from_is_err_and}
use Rattle.engine_api.specs.States.{dropped_state}
use Rattle.journal_engine.proofs.PutLemmas.{drop_may, may_admit, may_files, call_put, call_not_put, call_well}
use Rattle.journal_engine.proofs.calls.JournalEngineEngine.rollback_by_xid.Goals as goal

pub put-requires-clause-fits : goal.put-requires-clause-fits
put-requires-clause-fits g c =
    let may = drop_may _ _ c.self.view_is c.self.invariant c.args.xid c.requires.left (omega (arith, c.ranges.xid)) in
    may_admit _ _ c.self.view_is _ _ may

pub put-requires-clause-kept : goal.put-requires-clause-kept
put-requires-clause-kept g c =
    let may = drop_may _ _ c.self.view_is c.self.invariant c.args.xid c.requires.left (omega (arith, c.ranges.xid)) in
    may_files _ _ c.self.view_is _ _ _ may c.requires.holds

pub returns-in_err-put-clause-turns : goal.returns-in_err-put-clause-turns
returns-in_err-put-clause-turns g c =
    let may = drop_may _ _ c.self.view_is c.self.invariant c.args.xid c.requires.left (omega (arith, c.ranges.xid)) in
    let p = err_from_is_err_and c.from_residual.result c.from_residual.ensures.1 in
    rw (p.1, p.2) (call_not_put _ _ c.self.view_is _ (dropped_state c.args.xid) _ _ _ _ may c.requires.holds c.in_err-put.field-0.0 c.in_err-put.ensures.puts)

pub invariant_of-self-2 : goal.invariant_of-self-2
invariant_of-self-2 g c =
    let may = drop_may _ _ c.self.view_is c.self.invariant c.args.xid c.requires.left (omega (arith, c.ranges.xid)) in
    call_well _ _ c.self.view_is _ _ _ _ _ _ _ may c.in_ok-put.field-0 c.in_ok-put.ensures.puts (c.rollback_left.ensures ∙ ap (dropped_state c.args.xid) c.in_ok-put.ensures.puts.same)

pub returns-clause-turns : goal.returns-clause-turns
returns-clause-turns g c =
    let may = drop_may _ _ c.self.view_is c.self.invariant c.args.xid c.requires.left (omega (arith, c.ranges.xid)) in
    let next = dropped_state c.args.xid in
    call_put _ _ c.self.view_is _ next _ _ _ _ _ may c.requires.holds c.in_ok-put.field-0 c.in_ok-put.ensures.puts (c.rollback_left.ensures ∙ ap next c.in_ok-put.ensures.puts.same)
