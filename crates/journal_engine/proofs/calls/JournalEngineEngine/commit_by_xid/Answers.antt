-- commit_by_xid
use Rattle.std.proofs.Common.{subst, ◌≡◌, arith, true, false}
use Rattle.std.proofs.lemmas.Result.{err_from_is_err_and}
use Rattle.engine_api.specs.States.{resolved_state, dropped_state}
use Rattle.journal_engine.specs.Engine.{Journaled, journal_reading}
use Rattle.journal_engine.proofs.EndLemmas.{resolved_drops, turns_same}
use Rattle.journal_engine.proofs.PutLemmas.{left_one, left_may, left_is, may_admit, may_files, call_put, call_not_put, call_well}
use Rattle.journal_engine.proofs.calls.JournalEngineEngine.commit_by_xid.Goals as goal

pub put-requires-clause-fits : goal.put-requires-clause-fits
put-requires-clause-fits g c =
    let one = left_one _ _ c.self.view_is c.args.xid c.args.number _ true c.requires.left c.can_commit.ensures.left c.if-not-can_commit.false in
    let may = left_may _ _ c.self.view_is c.self.invariant c.args.xid c.args.number one.0 one.1 one.2 (omega (arith, c.ranges.xid)) (omega (arith, c.ranges.number)) in
    may_admit _ _ c.self.view_is _ _ may

pub put-requires-clause-kept : goal.put-requires-clause-kept
put-requires-clause-kept g c =
    let one = left_one _ _ c.self.view_is c.args.xid c.args.number _ true c.requires.left c.can_commit.ensures.left c.if-not-can_commit.false in
    let may = left_may _ _ c.self.view_is c.self.invariant c.args.xid c.args.number one.0 one.1 one.2 (omega (arith, c.ranges.xid)) (omega (arith, c.ranges.number)) in
    may_files _ _ c.self.view_is _ _ _ may c.requires.holds

pub returns-in_err-put-clause-turns : goal.returns-in_err-put-clause-turns
returns-in_err-put-clause-turns g c =
    let one = left_one _ _ c.self.view_is c.args.xid c.args.number _ true c.requires.left c.can_commit.ensures.left c.if-not-can_commit.false in
    let may = left_may _ _ c.self.view_is c.self.invariant c.args.xid c.args.number one.0 one.1 one.2 (omega (arith, c.ranges.xid)) (omega (arith, c.ranges.number)) in
    let p = err_from_is_err_and c.from_residual.result c.from_residual.ensures.1 in
    rw (p.1, p.2) (call_not_put _ _ c.self.view_is _ (resolved_state c.args.xid c.args.number) _ _ _ _ may c.requires.holds c.in_err-put.field-0.0 c.in_err-put.ensures.puts)

pub invariant_of-self-2 : goal.invariant_of-self-2
invariant_of-self-2 g c =
    let one = left_one _ _ c.self.view_is c.args.xid c.args.number _ true c.requires.left c.can_commit.ensures.left c.if-not-can_commit.false in
    let may = left_may _ _ c.self.view_is c.self.invariant c.args.xid c.args.number one.0 one.1 one.2 (omega (arith, c.ranges.xid)) (omega (arith, c.ranges.number)) in
    let new_is = left_is c.args.xid c.args.number one.0 _ _ _ one.1 one.2 c.in_ok-put.ensures.puts.same c.commit_left.ensures.state in
    call_well _ _ c.self.view_is _ _ _ _ _ _ _ may c.in_ok-put.field-0 c.in_ok-put.ensures.puts new_is

pub returns-clause-turns : goal.returns-clause-turns
returns-clause-turns g c =
    let one = left_one _ _ c.self.view_is c.args.xid c.args.number _ true c.requires.left c.can_commit.ensures.left c.if-not-can_commit.false in
    let may = left_may _ _ c.self.view_is c.self.invariant c.args.xid c.args.number one.0 one.1 one.2 (omega (arith, c.ranges.xid)) (omega (arith, c.ranges.number)) in
    let new_is = left_is c.args.xid c.args.number one.0 _ _ _ one.1 one.2 c.in_ok-put.ensures.puts.same c.commit_left.ensures.state in
    call_put _ _ c.self.view_is _ (resolved_state c.args.xid c.args.number) _ _ _ _ _ may c.requires.holds c.in_ok-put.field-0 c.in_ok-put.ensures.puts new_is

pub returns-then-not-can_commit-clause-turns : goal.returns-then-not-can_commit-clause-turns
returns-then-not-can_commit-clause-turns g c =
    let xid = c.args.xid in
    let one = left_one _ _ c.self.view_is xid c.args.number _ false c.requires.left c.can_commit.ensures.left c.if-not-can_commit.true in
    let same = subst (λ (v : Journaled). resolved_state xid c.args.number v.live ≡ dropped_state xid v.live) c.self.view_is (resolved_drops xid c.args.number c.self.inside.live.state one.0 one.1 one.2) in
    turns_same _ journal_reading _ _ _ _ _ _ _ _ same c.rollback_by_xid.ensures.turns
