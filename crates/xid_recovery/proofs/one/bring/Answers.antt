use Rattle.std.proofs.Common.{Err, refl, ◌∙◌, ap, None, arith}
use Rattle.disk_model.specs.Object.{object}
use Rattle.engine_api.specs.States.{Kind}
use Rattle.engine_api.specs.States.{EngineState}
use Rattle.xid_recovery.specs.Pairs.{has}
use Rattle.xid_recovery.proofs.RunLemmas.{answers_on}
use Rattle.xid_recovery.proofs.OneLemmas.{looked, ran_looked, has_prepared, ran_committed, ran_rolled, aims_rolled, brought, reports}
use Rattle.xid_recovery.proofs.one.bring.Goals as goal

pub returns-in_err-found-clause-ran : goal.returns-in_err-found-clause-ran
returns-in_err-found-clause-ran g c = λ aim fits aims. ran_looked _ _ _ _ _ c.requires.idle c.in_err-found.ensures.same c.in_err-found.ensures.turns aim aims

pub returns-in_err-left-clause-ran : goal.returns-in_err-left-clause-ran
returns-in_err-left-clause-ran g c = λ aim fits aims. ran_looked _ _ _ _ _ c.requires.idle c.in_ok-found.ensures.same c.in_ok-found.ensures.turns aim aims

pub commit_logged-requires-clause-idle : goal.commit_logged-requires-clause-idle
commit_logged-requires-clause-idle g c =
    (looked (let e = goal.Engine-dyn g (object c.args.engine.now) in record { kind = e.kind c.args.engine.now.value; reading = e.reading c.args.engine.now.value; state = e.state c.args.engine.now.value; holds = e.holds c.args.engine.now.value }) (let e = goal.Engine-dyn g (object c.prepared.new.engine) in record { kind = e.kind c.prepared.new.engine.value; reading = e.reading c.prepared.new.engine.value; state = e.state c.prepared.new.engine.value; holds = e.holds c.prepared.new.engine.value }) c.in_ok-found.found _ _ c.requires.idle c.in_ok-found.ensures.same c.in_ok-found.ensures.turns).idle

pub commit_logged-requires-clause-prepared : goal.commit_logged-requires-clause-prepared
commit_logged-requires-clause-prepared g c =
    has_prepared _ _ _ _ _ _ (looked (let e = goal.Engine-dyn g (object c.args.engine.now) in record { kind = e.kind c.args.engine.now.value; reading = e.reading c.args.engine.now.value; state = e.state c.args.engine.now.value; holds = e.holds c.args.engine.now.value }) (let e = goal.Engine-dyn g (object c.prepared.new.engine) in record { kind = e.kind c.prepared.new.engine.value; reading = e.reading c.prepared.new.engine.value; state = e.state c.prepared.new.engine.value; holds = e.holds c.prepared.new.engine.value }) c.in_ok-found.found _ _ c.requires.idle c.in_ok-found.ensures.same c.in_ok-found.ensures.turns)
    (λ x. c.in_ok-left.ensures x ∙ ap (has x) c.as_slice.ensures.value) c.in_ok-found.ensures.xids

pub returns-in_err-commit_logged-clause-ran : goal.returns-in_err-commit_logged-clause-ran
returns-in_err-commit_logged-clause-ran g c =
    ran_committed _ _ (let e = goal.Engine-dyn g (object c.commit_logged.new.engine) in record { kind = e.kind c.commit_logged.new.engine.value; reading = e.reading c.commit_logged.new.engine.value; state = e.state c.commit_logged.new.engine.value; holds = e.holds c.commit_logged.new.engine.value }) _ _ _ _ (looked (let e = goal.Engine-dyn g (object c.args.engine.now) in record { kind = e.kind c.args.engine.now.value; reading = e.reading c.args.engine.now.value; state = e.state c.args.engine.now.value; holds = e.holds c.args.engine.now.value }) (let e = goal.Engine-dyn g (object c.prepared.new.engine) in record { kind = e.kind c.prepared.new.engine.value; reading = e.reading c.prepared.new.engine.value; state = e.state c.prepared.new.engine.value; holds = e.holds c.prepared.new.engine.value }) c.in_ok-found.found _ _ c.requires.idle c.in_ok-found.ensures.same c.in_ok-found.ensures.turns) c.in_err-commit_logged.ensures.ran

pub returns-in_err-roll_back_rest-clause-ran : goal.returns-in_err-roll_back_rest-clause-ran
returns-in_err-roll_back_rest-clause-ran g c =
    ran_rolled _ _ (let e = goal.Engine-dyn g (object c.commit_logged.new.engine) in record { kind = e.kind c.commit_logged.new.engine.value; reading = e.reading c.commit_logged.new.engine.value; state = e.state c.commit_logged.new.engine.value; holds = e.holds c.commit_logged.new.engine.value }) (let e = goal.Engine-dyn g (object c.roll_back_rest.new.engine) in record { kind = e.kind c.roll_back_rest.new.engine.value; reading = e.reading c.roll_back_rest.new.engine.value; state = e.state c.roll_back_rest.new.engine.value; holds = e.holds c.roll_back_rest.new.engine.value }) _ _ _ _ _ _ _ (looked (let e = goal.Engine-dyn g (object c.args.engine.now) in record { kind = e.kind c.args.engine.now.value; reading = e.reading c.args.engine.now.value; state = e.state c.args.engine.now.value; holds = e.holds c.args.engine.now.value }) (let e = goal.Engine-dyn g (object c.prepared.new.engine) in record { kind = e.kind c.prepared.new.engine.value; reading = e.reading c.prepared.new.engine.value; state = e.state c.prepared.new.engine.value; holds = e.holds c.prepared.new.engine.value }) c.in_ok-found.found _ _ c.requires.idle c.in_ok-found.ensures.same c.in_ok-found.ensures.turns) c.in_ok-commit_logged.ensures.done c.in_err-roll_back_rest.ensures.ran

pub returns-in_err-roll_back_rest-clause-answers : goal.returns-in_err-roll_back_rest-clause-answers
returns-in_err-roll_back_rest-clause-answers g c =
    answers_on _ (let e = goal.Engine-dyn g (object c.commit_logged.new.engine) in record { kind = e.kind c.commit_logged.new.engine.value; reading = e.reading c.commit_logged.new.engine.value; state = e.state c.commit_logged.new.engine.value; holds = e.holds c.commit_logged.new.engine.value }) _ _ (Err c.in_err-roll_back_rest.field-0.0) _ c.in_err-roll_back_rest.field-0.0
    (ran_committed _ _ (let e = goal.Engine-dyn g (object c.commit_logged.new.engine) in record { kind = e.kind c.commit_logged.new.engine.value; reading = e.reading c.commit_logged.new.engine.value; state = e.state c.commit_logged.new.engine.value; holds = e.holds c.commit_logged.new.engine.value }) _ _ _ _ (looked (let e = goal.Engine-dyn g (object c.args.engine.now) in record { kind = e.kind c.args.engine.now.value; reading = e.reading c.args.engine.now.value; state = e.state c.args.engine.now.value; holds = e.holds c.args.engine.now.value }) (let e = goal.Engine-dyn g (object c.prepared.new.engine) in record { kind = e.kind c.prepared.new.engine.value; reading = e.reading c.prepared.new.engine.value; state = e.state c.prepared.new.engine.value; holds = e.holds c.prepared.new.engine.value }) c.in_ok-found.found _ _ c.requires.idle c.in_ok-found.ensures.same c.in_ok-found.ensures.turns) c.in_ok-commit_logged.ensures.ran None tt tt)
    c.in_err-roll_back_rest.ensures.answers refl c.from_residual-in_err-roll_back_rest.ensures.1

pub returns-in_err-told-clause-ran : goal.returns-in_err-told-clause-ran
returns-in_err-told-clause-ran g c =
    ran_rolled _ _ (let e = goal.Engine-dyn g (object c.commit_logged.new.engine) in record { kind = e.kind c.commit_logged.new.engine.value; reading = e.reading c.commit_logged.new.engine.value; state = e.state c.commit_logged.new.engine.value; holds = e.holds c.commit_logged.new.engine.value }) (let e = goal.Engine-dyn g (object c.roll_back_rest.new.engine) in record { kind = e.kind c.roll_back_rest.new.engine.value; reading = e.reading c.roll_back_rest.new.engine.value; state = e.state c.roll_back_rest.new.engine.value; holds = e.holds c.roll_back_rest.new.engine.value }) _ _ _ _ _ _ _ (looked (let e = goal.Engine-dyn g (object c.args.engine.now) in record { kind = e.kind c.args.engine.now.value; reading = e.reading c.args.engine.now.value; state = e.state c.args.engine.now.value; holds = e.holds c.args.engine.now.value }) (let e = goal.Engine-dyn g (object c.prepared.new.engine) in record { kind = e.kind c.prepared.new.engine.value; reading = e.reading c.prepared.new.engine.value; state = e.state c.prepared.new.engine.value; holds = e.holds c.prepared.new.engine.value }) c.in_ok-found.found _ _ c.requires.idle c.in_ok-found.ensures.same c.in_ok-found.ensures.turns) c.in_ok-commit_logged.ensures.done c.in_ok-roll_back_rest.ensures.ran

pub returns-clause-ran : goal.returns-clause-ran
returns-clause-ran g c =
    ran_rolled _ _ (let e = goal.Engine-dyn g (object c.commit_logged.new.engine) in record { kind = e.kind c.commit_logged.new.engine.value; reading = e.reading c.commit_logged.new.engine.value; state = e.state c.commit_logged.new.engine.value; holds = e.holds c.commit_logged.new.engine.value }) (let e = goal.Engine-dyn g (object c.roll_back_rest.new.engine) in record { kind = e.kind c.roll_back_rest.new.engine.value; reading = e.reading c.roll_back_rest.new.engine.value; state = e.state c.roll_back_rest.new.engine.value; holds = e.holds c.roll_back_rest.new.engine.value }) _ _ _ _ _ _ _ (looked (let e = goal.Engine-dyn g (object c.args.engine.now) in record { kind = e.kind c.args.engine.now.value; reading = e.reading c.args.engine.now.value; state = e.state c.args.engine.now.value; holds = e.holds c.args.engine.now.value }) (let e = goal.Engine-dyn g (object c.prepared.new.engine) in record { kind = e.kind c.prepared.new.engine.value; reading = e.reading c.prepared.new.engine.value; state = e.state c.prepared.new.engine.value; holds = e.holds c.prepared.new.engine.value }) c.in_ok-found.found _ _ c.requires.idle c.in_ok-found.ensures.same c.in_ok-found.ensures.turns) c.in_ok-commit_logged.ensures.done c.in_ok-roll_back_rest.ensures.ran

pub returns-clause-aims : goal.returns-clause-aims
returns-clause-aims g c =
    aims_rolled _ _ (let e = goal.Engine-dyn g (object c.commit_logged.new.engine) in record { kind = e.kind c.commit_logged.new.engine.value; reading = e.reading c.commit_logged.new.engine.value; state = e.state c.commit_logged.new.engine.value; holds = e.holds c.commit_logged.new.engine.value }) (let e = goal.Engine-dyn g (object c.roll_back_rest.new.engine) in record { kind = e.kind c.roll_back_rest.new.engine.value; reading = e.reading c.roll_back_rest.new.engine.value; state = e.state c.roll_back_rest.new.engine.value; holds = e.holds c.roll_back_rest.new.engine.value }) _ _ _ _ _ _ _ _ (looked (let e = goal.Engine-dyn g (object c.args.engine.now) in record { kind = e.kind c.args.engine.now.value; reading = e.reading c.args.engine.now.value; state = e.state c.args.engine.now.value; holds = e.holds c.args.engine.now.value }) (let e = goal.Engine-dyn g (object c.prepared.new.engine) in record { kind = e.kind c.prepared.new.engine.value; reading = e.reading c.prepared.new.engine.value; state = e.state c.prepared.new.engine.value; holds = e.holds c.prepared.new.engine.value }) c.in_ok-found.found _ _ c.requires.idle c.in_ok-found.ensures.same c.in_ok-found.ensures.turns) c.in_ok-commit_logged.ensures.done c.in_ok-roll_back_rest.ensures.done

pub returns-clause-brought : goal.returns-clause-brought
returns-clause-brought g c =
    brought (let e = goal.Engine-dyn g (object c.commit_logged.new.engine) in record { kind = e.kind c.commit_logged.new.engine.value; reading = e.reading c.commit_logged.new.engine.value; state = e.state c.commit_logged.new.engine.value; holds = e.holds c.commit_logged.new.engine.value }) (let e = goal.Engine-dyn g (object c.roll_back_rest.new.engine) in record { kind = e.kind c.roll_back_rest.new.engine.value; reading = e.reading c.roll_back_rest.new.engine.value; state = e.state c.roll_back_rest.new.engine.value; holds = e.holds c.roll_back_rest.new.engine.value }) _ _ _ c.in_ok-roll_back_rest.ensures.done c.in_ok-roll_back_rest.ensures.none_left

pub returns-clause-report : goal.returns-clause-report
returns-clause-report g c =
    reports _ _ (let e = goal.Engine-dyn g (object c.commit_logged.new.engine) in record { kind = e.kind c.commit_logged.new.engine.value; reading = e.reading c.commit_logged.new.engine.value; state = e.state c.commit_logged.new.engine.value; holds = e.holds c.commit_logged.new.engine.value }) _ c.in_ok-left.left c.commit_logged.new.left _ _ _ _ _ _ _ (looked (let e = goal.Engine-dyn g (object c.args.engine.now) in record { kind = e.kind c.args.engine.now.value; reading = e.reading c.args.engine.now.value; state = e.state c.args.engine.now.value; holds = e.holds c.args.engine.now.value }) (let e = goal.Engine-dyn g (object c.prepared.new.engine) in record { kind = e.kind c.prepared.new.engine.value; reading = e.reading c.prepared.new.engine.value; state = e.state c.prepared.new.engine.value; holds = e.holds c.prepared.new.engine.value }) c.in_ok-found.found _ _ c.requires.idle c.in_ok-found.ensures.same c.in_ok-found.ensures.turns)
    (has_prepared _ _ _ _ _ _ (looked (let e = goal.Engine-dyn g (object c.args.engine.now) in record { kind = e.kind c.args.engine.now.value; reading = e.reading c.args.engine.now.value; state = e.state c.args.engine.now.value; holds = e.holds c.args.engine.now.value }) (let e = goal.Engine-dyn g (object c.prepared.new.engine) in record { kind = e.kind c.prepared.new.engine.value; reading = e.reading c.prepared.new.engine.value; state = e.state c.prepared.new.engine.value; holds = e.holds c.prepared.new.engine.value }) c.in_ok-found.found _ _ c.requires.idle c.in_ok-found.ensures.same c.in_ok-found.ensures.turns)
    (λ x. c.in_ok-left.ensures x ∙ ap (has x) c.as_slice.ensures.value) c.in_ok-found.ensures.xids)
    c.in_ok-commit_logged.ensures.done c.len-all.ensures.ordered c.len-rolled_back.ensures.ordered c.len-all.ensures.len c.len-rolled_back.ensures.len
    (c.in_ok-told.ensures.name ∙ ap (λ (k : Kind). k.name) (ran_rolled _ _ (let e = goal.Engine-dyn g (object c.commit_logged.new.engine) in record { kind = e.kind c.commit_logged.new.engine.value; reading = e.reading c.commit_logged.new.engine.value; state = e.state c.commit_logged.new.engine.value; holds = e.holds c.commit_logged.new.engine.value }) (let e = goal.Engine-dyn g (object c.roll_back_rest.new.engine) in record { kind = e.kind c.roll_back_rest.new.engine.value; reading = e.reading c.roll_back_rest.new.engine.value; state = e.state c.roll_back_rest.new.engine.value; holds = e.holds c.roll_back_rest.new.engine.value }) _ _ _ _ _ _ _ (looked (let e = goal.Engine-dyn g (object c.args.engine.now) in record { kind = e.kind c.args.engine.now.value; reading = e.reading c.args.engine.now.value; state = e.state c.args.engine.now.value; holds = e.holds c.args.engine.now.value }) (let e = goal.Engine-dyn g (object c.prepared.new.engine) in record { kind = e.kind c.prepared.new.engine.value; reading = e.reading c.prepared.new.engine.value; state = e.state c.prepared.new.engine.value; holds = e.holds c.prepared.new.engine.value }) c.in_ok-found.found _ _ c.requires.idle c.in_ok-found.ensures.same c.in_ok-found.ensures.turns) c.in_ok-commit_logged.ensures.done c.in_ok-roll_back_rest.ensures.ran None tt tt).same.kind)
    c.in_ok-told.ensures.last c.in_ok-told.ensures.committed c.in_ok-told.ensures.rolled_back

pub returns-clause-last : goal.returns-clause-last
returns-clause-last g c = λ bound all within.
    let begun = ap (λ (s : EngineState). s.gist.last) c.in_ok-found.ensures.turns.ok in
    let far = c.in_ok-commit_logged.ensures.done.last bound all (omega (arith, begun, within)) in
    let last = c.in_ok-roll_back_rest.ensures.done.last in
    omega (arith, last, far)
