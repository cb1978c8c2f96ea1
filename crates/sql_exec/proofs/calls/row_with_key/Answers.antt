use Rattle.std.proofs.Common.{◌∙◌, ap}
use Rattle.std.specs.Prelude.{◌∷◌, [], Err, None}
use Rattle.engine_api.specs.declared.fault.Code.TheVariants.{KeyNotFound}
use Rattle.engine_api.specs.declared.fault.EngineFault.TheVariants as engine
use Rattle.sql_exec.proofs.FaultLemmas.{only_code, none_here}
use Rattle.sql_exec.proofs.calls.row_with_key.Goals as goal

pub unreachable-requires : goal.unreachable-requires
unreachable-requires g c =
    c.in_default.not-KeyNotFound (only_code KeyNotFound c.in-Err-Code.code (c.read_key.ensures.answers (engine.Code c.in-Err-Code.code) (c.in-Err-Code.is ∙ ap Err c.in-Err-Code.field-0-is)))

pub returns-in-Err-NotAVolume-clause-answers : goal.returns-in-Err-NotAVolume-clause-answers
returns-in-Err-NotAVolume-clause-answers g c =
    none_here (KeyNotFound ∷ []) _ _ c.in-Err-NotAVolume.file None (c.read_key.ensures.answers (engine.NotAVolume c.in-Err-NotAVolume.file) (c.in-Err-NotAVolume.is ∙ ap Err c.in-Err-NotAVolume.field-0-is))
