use Rattle.std.proofs.Common.{Err, refl, sym, ◌∙◌, subst, None, Some}
use Rattle.disk_model.specs.Object.{object}
use Rattle.engine_api.specs.States.{Kind}
use Rattle.xid_recovery.specs.Recovers.{GoesWith}
use Rattle.xid_recovery.specs.Running.{Fits}
use Rattle.xid_recovery.proofs.RunLemmas.{ran_both}
use Rattle.xid_recovery.proofs.OneLemmas.{begun_idle, ran_begun, goes_begun, recovers_ahead, others, recovers_err, recovers_ok, begins_outside, calls_outside, tells_call, none_behind, no_code_behind, outside_as, not_ahead}
use Rattle.xid_recovery.proofs.one.recover_one.Goals as goal

pub returns-in-Err-clause-recovers : goal.returns-in-Err-clause-recovers
returns-in-Err-clause-recovers g c = λ log distinct pairs is told from.
    recovers_err (let e = goal.Engine-dyn g (object c.args.engine.now) in record { kind = e.kind c.args.engine.now.value; reading = e.reading c.args.engine.now.value; state = e.state c.args.engine.now.value; holds = e.holds c.args.engine.now.value }) (let e = goal.Engine-dyn g (object c.begin.new.engine) in record { kind = e.kind c.begin.new.engine.value; reading = e.reading c.begin.new.engine.value; state = e.state c.begin.new.engine.value; holds = e.holds c.begin.new.engine.value }) log _ _ _ (ran_begun (let e = goal.Engine-dyn g (object c.args.engine.now) in record { kind = e.kind c.args.engine.now.value; reading = e.reading c.args.engine.now.value; state = e.state c.args.engine.now.value; holds = e.holds c.args.engine.now.value }) (let e = goal.Engine-dyn g (object c.begin.new.engine) in record { kind = e.kind c.begin.new.engine.value; reading = e.reading c.begin.new.engine.value; state = e.state c.begin.new.engine.value; holds = e.holds c.begin.new.engine.value }) _ _ _ c.in-Err.ensures.same c.in-Err.ensures.device c.in-Err.ensures.any_moment (Some log) from) told
    (outside_as _ _ c.open_fault.ensures (begins_outside _ _ log _ _ c.in-Err.fault refl told from c.in-Err.ensures.not_a_volume))

pub returns-in-Err-clause-others : goal.returns-in-Err-clause-others
returns-in-Err-clause-others g c = others (let e = goal.Engine-dyn g (object c.args.engine.now) in record { kind = e.kind c.args.engine.now.value; reading = e.reading c.args.engine.now.value; state = e.state c.args.engine.now.value; holds = e.holds c.args.engine.now.value }) (let e = goal.Engine-dyn g (object c.begin.new.engine) in record { kind = e.kind c.begin.new.engine.value; reading = e.reading c.begin.new.engine.value; state = e.state c.begin.new.engine.value; holds = e.holds c.begin.new.engine.value }) _ _ (ran_begun (let e = goal.Engine-dyn g (object c.args.engine.now) in record { kind = e.kind c.args.engine.now.value; reading = e.reading c.args.engine.now.value; state = e.state c.args.engine.now.value; holds = e.holds c.args.engine.now.value }) (let e = goal.Engine-dyn g (object c.begin.new.engine) in record { kind = e.kind c.begin.new.engine.value; reading = e.reading c.begin.new.engine.value; state = e.state c.begin.new.engine.value; holds = e.holds c.begin.new.engine.value }) _ _ _ c.in-Err.ensures.same c.in-Err.ensures.device c.in-Err.ensures.any_moment None tt)

pub returns-then-is_ahead-clause-recovers : goal.returns-then-is_ahead-clause-recovers
returns-then-is_ahead-clause-recovers g c = λ log distinct pairs is told from.
    recovers_ahead (let e = goal.Engine-dyn g (object c.args.engine.now) in record { kind = e.kind c.args.engine.now.value; reading = e.reading c.args.engine.now.value; state = e.state c.args.engine.now.value; holds = e.holds c.args.engine.now.value }) (let e = goal.Engine-dyn g (object c.begin.new.engine) in record { kind = e.kind c.begin.new.engine.value; reading = e.reading c.begin.new.engine.value; state = e.state c.begin.new.engine.value; holds = e.holds c.begin.new.engine.value }) log c.args.logged _ _ _ c.in_default.ensures.one_gist c.in_default.ensures.gist (sym c.is_ahead.ensures ∙ c.if-is_ahead.true) is told from

pub returns-then-is_ahead-clause-others : goal.returns-then-is_ahead-clause-others
returns-then-is_ahead-clause-others g c = others (let e = goal.Engine-dyn g (object c.args.engine.now) in record { kind = e.kind c.args.engine.now.value; reading = e.reading c.args.engine.now.value; state = e.state c.args.engine.now.value; holds = e.holds c.args.engine.now.value }) (let e = goal.Engine-dyn g (object c.begin.new.engine) in record { kind = e.kind c.begin.new.engine.value; reading = e.reading c.begin.new.engine.value; state = e.state c.begin.new.engine.value; holds = e.holds c.begin.new.engine.value }) _ _ (ran_begun (let e = goal.Engine-dyn g (object c.args.engine.now) in record { kind = e.kind c.args.engine.now.value; reading = e.reading c.args.engine.now.value; state = e.state c.args.engine.now.value; holds = e.holds c.args.engine.now.value }) (let e = goal.Engine-dyn g (object c.begin.new.engine) in record { kind = e.kind c.begin.new.engine.value; reading = e.reading c.begin.new.engine.value; state = e.state c.begin.new.engine.value; holds = e.holds c.begin.new.engine.value }) _ _ _ c.in_default.ensures.same c.in_default.ensures.device c.in_default.ensures.any_moment None tt)

pub bring-requires : goal.bring-requires
bring-requires g c = record { idle = begun_idle (let e = goal.Engine-dyn g (object c.args.engine.now) in record { kind = e.kind c.args.engine.now.value; reading = e.reading c.args.engine.now.value; state = e.state c.args.engine.now.value; holds = e.holds c.args.engine.now.value }) (let e = goal.Engine-dyn g (object c.begin.new.engine) in record { kind = e.kind c.begin.new.engine.value; reading = e.reading c.begin.new.engine.value; state = e.state c.begin.new.engine.value; holds = e.holds c.begin.new.engine.value }) ((goal.Storage-dyn g c.args.volume.now).disk c.args.volume.now.1) ((goal.Storage-dyn g (c.args.volume.now.0, c.begin.new.volume)).disk c.begin.new.volume) c.in_default.ensures.same c.in_default.ensures.begun c.in_default.ensures.device.told c.in_default.ensures.files }

pub open_fault-requires-in-Err-bring : goal.open_fault-requires-in-Err-bring
open_fault-requires-in-Err-bring g c = record { no_code = no_code_behind _ _ (Err c.in-Err-bring.fault) _ c.in-Err-bring.ensures.answers refl }

pub returns-in-Ok-clause-same : goal.returns-in-Ok-clause-same
returns-in-Ok-clause-same g c = (ran_both (let e = goal.Engine-dyn g (object c.args.engine.now) in record { kind = e.kind c.args.engine.now.value; reading = e.reading c.args.engine.now.value; state = e.state c.args.engine.now.value; holds = e.holds c.args.engine.now.value }) (let e = goal.Engine-dyn g (object c.begin.new.engine) in record { kind = e.kind c.begin.new.engine.value; reading = e.reading c.begin.new.engine.value; state = e.state c.begin.new.engine.value; holds = e.holds c.begin.new.engine.value }) (let e = goal.Engine-dyn g (object c.bring.new.engine) in record { kind = e.kind c.bring.new.engine.value; reading = e.reading c.bring.new.engine.value; state = e.state c.bring.new.engine.value; holds = e.holds c.bring.new.engine.value }) None _ _ _ (ran_begun (let e = goal.Engine-dyn g (object c.args.engine.now) in record { kind = e.kind c.args.engine.now.value; reading = e.reading c.args.engine.now.value; state = e.state c.args.engine.now.value; holds = e.holds c.args.engine.now.value }) (let e = goal.Engine-dyn g (object c.begin.new.engine) in record { kind = e.kind c.begin.new.engine.value; reading = e.reading c.begin.new.engine.value; state = e.state c.begin.new.engine.value; holds = e.holds c.begin.new.engine.value }) _ _ _ c.in_default.ensures.same c.in_default.ensures.device c.in_default.ensures.any_moment None tt) (c.in-Ok.ensures.ran None tt tt)).same

pub returns-in-Ok-clause-recovers : goal.returns-in-Ok-clause-recovers
returns-in-Ok-clause-recovers g c = λ log distinct pairs is told from.
    let fits : Fits (Some log) c.args.xids.now = (distinct, pairs) in
    recovers_ok (let e = goal.Engine-dyn g (object c.args.engine.now) in record { kind = e.kind c.args.engine.now.value; reading = e.reading c.args.engine.now.value; state = e.state c.args.engine.now.value; holds = e.holds c.args.engine.now.value }) (let e = goal.Engine-dyn g (object c.bring.new.engine) in record { kind = e.kind c.bring.new.engine.value; reading = e.reading c.bring.new.engine.value; state = e.state c.bring.new.engine.value; holds = e.holds c.bring.new.engine.value }) log c.in-Ok.report _ _ (ran_both (let e = goal.Engine-dyn g (object c.args.engine.now) in record { kind = e.kind c.args.engine.now.value; reading = e.reading c.args.engine.now.value; state = e.state c.args.engine.now.value; holds = e.holds c.args.engine.now.value }) (let e = goal.Engine-dyn g (object c.begin.new.engine) in record { kind = e.kind c.begin.new.engine.value; reading = e.reading c.begin.new.engine.value; state = e.state c.begin.new.engine.value; holds = e.holds c.begin.new.engine.value }) (let e = goal.Engine-dyn g (object c.bring.new.engine) in record { kind = e.kind c.bring.new.engine.value; reading = e.reading c.bring.new.engine.value; state = e.state c.bring.new.engine.value; holds = e.holds c.bring.new.engine.value }) (Some log) _ _ _ (ran_begun (let e = goal.Engine-dyn g (object c.args.engine.now) in record { kind = e.kind c.args.engine.now.value; reading = e.reading c.args.engine.now.value; state = e.state c.args.engine.now.value; holds = e.holds c.args.engine.now.value }) (let e = goal.Engine-dyn g (object c.begin.new.engine) in record { kind = e.kind c.begin.new.engine.value; reading = e.reading c.begin.new.engine.value; state = e.state c.begin.new.engine.value; holds = e.holds c.begin.new.engine.value }) _ _ _ c.in_default.ensures.same c.in_default.ensures.device c.in_default.ensures.any_moment (Some log) from) (c.in-Ok.ensures.ran (Some log) fits (goes_begun (let e = goal.Engine-dyn g (object c.args.engine.now) in record { kind = e.kind c.args.engine.now.value; reading = e.reading c.args.engine.now.value; state = e.state c.args.engine.now.value; holds = e.holds c.args.engine.now.value }) (let e = goal.Engine-dyn g (object c.begin.new.engine) in record { kind = e.kind c.begin.new.engine.value; reading = e.reading c.begin.new.engine.value; state = e.state c.begin.new.engine.value; holds = e.holds c.begin.new.engine.value }) log _ c.in_default.ensures.same c.in_default.ensures.one_gist from (c.in_default.ensures.gist told)))) told
    (subst (λ (k : Kind). GoesWith k log ((goal.Engine-dyn g (object c.bring.new.engine)).state c.bring.new.engine.value).gist) c.in_default.ensures.same.kind (c.in-Ok.ensures.aims (Some log) fits (goes_begun (let e = goal.Engine-dyn g (object c.args.engine.now) in record { kind = e.kind c.args.engine.now.value; reading = e.reading c.args.engine.now.value; state = e.state c.args.engine.now.value; holds = e.holds c.args.engine.now.value }) (let e = goal.Engine-dyn g (object c.begin.new.engine) in record { kind = e.kind c.begin.new.engine.value; reading = e.reading c.begin.new.engine.value; state = e.state c.begin.new.engine.value; holds = e.holds c.begin.new.engine.value }) log _ c.in_default.ensures.same c.in_default.ensures.one_gist from (c.in_default.ensures.gist told))))
    c.in-Ok.ensures.brought.none_prepared

pub returns-in-Ok-clause-others : goal.returns-in-Ok-clause-others
returns-in-Ok-clause-others g c = others (let e = goal.Engine-dyn g (object c.args.engine.now) in record { kind = e.kind c.args.engine.now.value; reading = e.reading c.args.engine.now.value; state = e.state c.args.engine.now.value; holds = e.holds c.args.engine.now.value }) (let e = goal.Engine-dyn g (object c.bring.new.engine) in record { kind = e.kind c.bring.new.engine.value; reading = e.reading c.bring.new.engine.value; state = e.state c.bring.new.engine.value; holds = e.holds c.bring.new.engine.value }) _ _ (ran_both (let e = goal.Engine-dyn g (object c.args.engine.now) in record { kind = e.kind c.args.engine.now.value; reading = e.reading c.args.engine.now.value; state = e.state c.args.engine.now.value; holds = e.holds c.args.engine.now.value }) (let e = goal.Engine-dyn g (object c.begin.new.engine) in record { kind = e.kind c.begin.new.engine.value; reading = e.reading c.begin.new.engine.value; state = e.state c.begin.new.engine.value; holds = e.holds c.begin.new.engine.value }) (let e = goal.Engine-dyn g (object c.bring.new.engine) in record { kind = e.kind c.bring.new.engine.value; reading = e.reading c.bring.new.engine.value; state = e.state c.bring.new.engine.value; holds = e.holds c.bring.new.engine.value }) None _ _ _ (ran_begun (let e = goal.Engine-dyn g (object c.args.engine.now) in record { kind = e.kind c.args.engine.now.value; reading = e.reading c.args.engine.now.value; state = e.state c.args.engine.now.value; holds = e.holds c.args.engine.now.value }) (let e = goal.Engine-dyn g (object c.begin.new.engine) in record { kind = e.kind c.begin.new.engine.value; reading = e.reading c.begin.new.engine.value; state = e.state c.begin.new.engine.value; holds = e.holds c.begin.new.engine.value }) _ _ _ c.in_default.ensures.same c.in_default.ensures.device c.in_default.ensures.any_moment None tt) (c.in-Ok.ensures.ran None tt tt))

pub returns-in-Err-bring-clause-same : goal.returns-in-Err-bring-clause-same
returns-in-Err-bring-clause-same g c = (ran_both (let e = goal.Engine-dyn g (object c.args.engine.now) in record { kind = e.kind c.args.engine.now.value; reading = e.reading c.args.engine.now.value; state = e.state c.args.engine.now.value; holds = e.holds c.args.engine.now.value }) (let e = goal.Engine-dyn g (object c.begin.new.engine) in record { kind = e.kind c.begin.new.engine.value; reading = e.reading c.begin.new.engine.value; state = e.state c.begin.new.engine.value; holds = e.holds c.begin.new.engine.value }) (let e = goal.Engine-dyn g (object c.bring.new.engine) in record { kind = e.kind c.bring.new.engine.value; reading = e.reading c.bring.new.engine.value; state = e.state c.bring.new.engine.value; holds = e.holds c.bring.new.engine.value }) None _ _ _ (ran_begun (let e = goal.Engine-dyn g (object c.args.engine.now) in record { kind = e.kind c.args.engine.now.value; reading = e.reading c.args.engine.now.value; state = e.state c.args.engine.now.value; holds = e.holds c.args.engine.now.value }) (let e = goal.Engine-dyn g (object c.begin.new.engine) in record { kind = e.kind c.begin.new.engine.value; reading = e.reading c.begin.new.engine.value; state = e.state c.begin.new.engine.value; holds = e.holds c.begin.new.engine.value }) _ _ _ c.in_default.ensures.same c.in_default.ensures.device c.in_default.ensures.any_moment None tt) (c.in-Err-bring.ensures.ran None tt tt)).same

pub returns-in-Err-bring-clause-recovers : goal.returns-in-Err-bring-clause-recovers
returns-in-Err-bring-clause-recovers g c = λ log distinct pairs is told from.
    let fits : Fits (Some log) c.args.xids.now = (distinct, pairs) in
    recovers_err (let e = goal.Engine-dyn g (object c.args.engine.now) in record { kind = e.kind c.args.engine.now.value; reading = e.reading c.args.engine.now.value; state = e.state c.args.engine.now.value; holds = e.holds c.args.engine.now.value }) (let e = goal.Engine-dyn g (object c.bring.new.engine) in record { kind = e.kind c.bring.new.engine.value; reading = e.reading c.bring.new.engine.value; state = e.state c.bring.new.engine.value; holds = e.holds c.bring.new.engine.value }) log _ _ _ (ran_both (let e = goal.Engine-dyn g (object c.args.engine.now) in record { kind = e.kind c.args.engine.now.value; reading = e.reading c.args.engine.now.value; state = e.state c.args.engine.now.value; holds = e.holds c.args.engine.now.value }) (let e = goal.Engine-dyn g (object c.begin.new.engine) in record { kind = e.kind c.begin.new.engine.value; reading = e.reading c.begin.new.engine.value; state = e.state c.begin.new.engine.value; holds = e.holds c.begin.new.engine.value }) (let e = goal.Engine-dyn g (object c.bring.new.engine) in record { kind = e.kind c.bring.new.engine.value; reading = e.reading c.bring.new.engine.value; state = e.state c.bring.new.engine.value; holds = e.holds c.bring.new.engine.value }) (Some log) _ _ _ (ran_begun (let e = goal.Engine-dyn g (object c.args.engine.now) in record { kind = e.kind c.args.engine.now.value; reading = e.reading c.args.engine.now.value; state = e.state c.args.engine.now.value; holds = e.holds c.args.engine.now.value }) (let e = goal.Engine-dyn g (object c.begin.new.engine) in record { kind = e.kind c.begin.new.engine.value; reading = e.reading c.begin.new.engine.value; state = e.state c.begin.new.engine.value; holds = e.holds c.begin.new.engine.value }) _ _ _ c.in_default.ensures.same c.in_default.ensures.device c.in_default.ensures.any_moment (Some log) from) (c.in-Err-bring.ensures.ran (Some log) fits (goes_begun (let e = goal.Engine-dyn g (object c.args.engine.now) in record { kind = e.kind c.args.engine.now.value; reading = e.reading c.args.engine.now.value; state = e.state c.args.engine.now.value; holds = e.holds c.args.engine.now.value }) (let e = goal.Engine-dyn g (object c.begin.new.engine) in record { kind = e.kind c.begin.new.engine.value; reading = e.reading c.begin.new.engine.value; state = e.state c.begin.new.engine.value; holds = e.holds c.begin.new.engine.value }) log _ c.in_default.ensures.same c.in_default.ensures.one_gist from (c.in_default.ensures.gist told)))) told
    (outside_as _ _ c.open_fault-in-Err-bring.ensures (calls_outside _ _ (Err c.in-Err-bring.fault) c.in-Err-bring.fault c.in-Err-bring.ensures.answers refl (c.in_default.ensures.device.told ∙ told)))

pub returns-in-Err-bring-clause-others : goal.returns-in-Err-bring-clause-others
returns-in-Err-bring-clause-others g c = others (let e = goal.Engine-dyn g (object c.args.engine.now) in record { kind = e.kind c.args.engine.now.value; reading = e.reading c.args.engine.now.value; state = e.state c.args.engine.now.value; holds = e.holds c.args.engine.now.value }) (let e = goal.Engine-dyn g (object c.bring.new.engine) in record { kind = e.kind c.bring.new.engine.value; reading = e.reading c.bring.new.engine.value; state = e.state c.bring.new.engine.value; holds = e.holds c.bring.new.engine.value }) _ _ (ran_both (let e = goal.Engine-dyn g (object c.args.engine.now) in record { kind = e.kind c.args.engine.now.value; reading = e.reading c.args.engine.now.value; state = e.state c.args.engine.now.value; holds = e.holds c.args.engine.now.value }) (let e = goal.Engine-dyn g (object c.begin.new.engine) in record { kind = e.kind c.begin.new.engine.value; reading = e.reading c.begin.new.engine.value; state = e.state c.begin.new.engine.value; holds = e.holds c.begin.new.engine.value }) (let e = goal.Engine-dyn g (object c.bring.new.engine) in record { kind = e.kind c.bring.new.engine.value; reading = e.reading c.bring.new.engine.value; state = e.state c.bring.new.engine.value; holds = e.holds c.bring.new.engine.value }) None _ _ _ (ran_begun (let e = goal.Engine-dyn g (object c.args.engine.now) in record { kind = e.kind c.args.engine.now.value; reading = e.reading c.args.engine.now.value; state = e.state c.args.engine.now.value; holds = e.holds c.args.engine.now.value }) (let e = goal.Engine-dyn g (object c.begin.new.engine) in record { kind = e.kind c.begin.new.engine.value; reading = e.reading c.begin.new.engine.value; state = e.state c.begin.new.engine.value; holds = e.holds c.begin.new.engine.value }) _ _ _ c.in_default.ensures.same c.in_default.ensures.device c.in_default.ensures.any_moment None tt) (c.in-Err-bring.ensures.ran None tt tt))

pub returns-in-Err-bring-clause-tells : goal.returns-in-Err-bring-clause-tells
returns-in-Err-bring-clause-tells g c =
    tells_call _ _ _ _ (Err c.in-Err-bring.fault) c.in-Err-bring.fault _ refl c.open_fault-in-Err-bring.ensures
    (none_behind (let e = goal.Engine-dyn g (object c.args.engine.now) in record { kind = e.kind c.args.engine.now.value; reading = e.reading c.args.engine.now.value; state = e.state c.args.engine.now.value; holds = e.holds c.args.engine.now.value }) (let e = goal.Engine-dyn g (object c.begin.new.engine) in record { kind = e.kind c.begin.new.engine.value; reading = e.reading c.begin.new.engine.value; state = e.state c.begin.new.engine.value; holds = e.holds c.begin.new.engine.value }) ((goal.Storage-dyn g c.args.volume.now).disk c.args.volume.now.1) ((goal.Storage-dyn g (c.args.volume.now.0, c.begin.new.volume)).disk c.begin.new.volume) (Err c.in-Err-bring.fault) c.in_default.ensures.same c.in_default.ensures.device.told c.in-Err-bring.ensures.answers)

pub returns-in-Ok-clause-last : goal.returns-in-Ok-clause-last
returns-in-Ok-clause-last g c = λ all. c.in-Ok.ensures.last c.args.logged all (not_ahead c.args.logged _ c.is_ahead.result c.is_ahead.ensures c.if-is_ahead.false)
