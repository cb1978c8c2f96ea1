use Rattle.std.proofs.Common.{◌∙◌, ap, sym, Err, ◌∷◌, []}
use Rattle.engine_api.specs.declared.fault.EngineFault.TheVariants as engine
use Rattle.engine_api.specs.declared.fault.Code.TheVariants.{Duplicate, Full}
use Rattle.disk_model.specs.Object.{object}
use Rattle.sql_exec.specs.Inserts.{put_refusal}
use Rattle.sql_exec.proofs.FaultLemmas.{none_here}
use Rattle.sql_exec.proofs.PutLemmas.{one_of_two, put_full, put_granted}
use Rattle.sql_exec.proofs.inserting.add_row.Goals as goal

pub unreachable-requires : goal.unreachable-requires
unreachable-requires g c =
    one_of_two c.in-Err-Code.code (c.put.ensures.writes.answers (engine.Code c.in-Err-Code.code) (c.in-Err-Code.is ∙ ap Err c.in-Err-Code.field-0-is))
    c.in_default-code.not-Duplicate c.in_default-code.not-Full

pub returns-in-Ok-clause-puts : goal.returns-in-Ok-clause-puts
returns-in-Ok-clause-puts g c = record {
  granted = put_granted c.args.txn _ _ _ _ _ c.requires.can (sym c.in_default.ensures.value) c.in-Ok.ensures.writes.not_duplicate c.in-Ok.ensures.turns.ok c.in-Ok.ensures.writes.not_full;
  err = tt;
}

pub returns-in-Full-clause-puts : goal.returns-in-Full-clause-puts
returns-in-Full-clause-puts g c =
    let full = c.put.ensures.writes.full (c.in-Err-Code.is ∙ ap Err (c.in-Err-Code.field-0-is ∙ ap engine.Code c.in-Full.is)) in
    record { granted = tt; err = put_full c.args.txn _ _ _ _ c.requires.can (sym c.in_default.ensures.value) full.0 full.1 }

pub returns-in-Err-NotAVolume-clause-puts : goal.returns-in-Err-NotAVolume-clause-puts
returns-in-Err-NotAVolume-clause-puts g c =
    let state = (goal.Engine-dyn g (object c.args.engine.now)).state c.args.engine.now.value in
    record {
      granted = tt;
      err = none_here (Duplicate ∷ Full ∷ []) _ _ c.in-Err-NotAVolume.file (put_refusal c.args.table.now c.args.schema.now c.args.row.now state)
          (c.put.ensures.writes.answers (engine.NotAVolume c.in-Err-NotAVolume.file) (c.in-Err-NotAVolume.is ∙ ap Err c.in-Err-NotAVolume.field-0-is));
    }
