use Rattle.std.proofs.Common.{rules, [], ◌∷◌, Err, refl, ap}
use Rattle.engine_api.specs.declared.fault.Code.TheVariants.{Full}
use Rattle.plugd.proofs.PrepareLemmas.{ready_unprepared, ready_fresh, prepares_done, prepares_full, prepares_halted, prepares_err, spent_where_full}
use Rattle.plugd.proofs.kernel.Kernel.prepare.Goals as goal

pub returns-in-Ok-clause-prepares : goal.returns-in-Ok-clause-prepares
returns-in-Ok-clause-prepares g c =
    prepares_done c.args.xid _ c.in-Ok.field-0 _ _ _ _ _ c.in-Ok.ensures.same c.in-Ok.ensures.turns

pub returns-in-Err-Code-clause-prepares : goal.returns-in-Err-Code-clause-prepares
returns-in-Err-Code-clause-prepares g c =
    prepares_full c.args.xid _ c.in-Err-Code.field-0 c.in-Err-Code.field-0-0 _ _ _ _ _ c.in-Err-Code.ensures.same c.in-Err-Code.ensures.turns c.in-Err-Code.field-0-is

pub returns-in-Err-Code-clause-full : goal.returns-in-Err-Code-clause-full
returns-in-Err-Code-clause-full g c = λ done. spent_where_full _ _ c.in-Err-Code.field-0 c.in-Err-Code.field-0-0 c.in-Err-Code.field-0-is c.in-Err-Code.ensures.answers (λ is. c.in-Err-Code.ensures.full (ap Err is))

pub returns-in_ok-cause-in-Err-clause-prepares : goal.returns-in_ok-cause-in-Err-clause-prepares
returns-in_ok-cause-in-Err-clause-prepares g c =
    prepares_halted c.args.xid _ c.in-Err.fault (Full ∷ []) c.in_ok-cause-in-Err.cause _ _ _ _ _ c.in-Err.ensures.same c.in-Err.ensures.turns c.in_ok-cause-in-Err.ensures.some (c.in-Err.ensures.answers c.in-Err.fault refl)

pub returns-in_err-cause-in-Err-clause-prepares : goal.returns-in_err-cause-in-Err-clause-prepares
returns-in_err-cause-in-Err-clause-prepares g c =
    prepares_err c.from_residual.result (search rules) c.args.xid _ c.in-Err.fault _ _ _ _ _ c.in-Err.ensures.same c.in-Err.ensures.turns c.in_err-cause-in-Err.ensures.none

pub prepare-requires-clause-unprepared : goal.prepare-requires-clause-unprepared
prepare-requires-clause-unprepared g c = let r = c.requires.ready in ready_unprepared r.0 r.1 r.2 r.3 c.args.xid _ r.4

pub prepare-requires-clause-fresh : goal.prepare-requires-clause-fresh
prepare-requires-clause-fresh g c = let r = c.requires.ready in ready_fresh r.0 r.1 r.2 r.3 c.args.xid _ r.4
