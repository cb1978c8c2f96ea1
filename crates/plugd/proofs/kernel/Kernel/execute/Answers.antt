use Rattle.plugd.proofs.ExecuteLemmas.{some_can, executes_done, executes_refused, executes_device, executes_none, executes_ended}
use Rattle.plugd.proofs.kernel.Kernel.execute.Goals as goal

pub carry_out-requires : goal.carry_out-requires
carry_out-requires g c = record { step = some_can _ c.requires.way }

pub returns-in-Ok-clause-executes : goal.returns-in-Ok-clause-executes
returns-in-Ok-clause-executes g c =
    executes_done c.args.text.now _ c.in-Ok.outcome _ _ _ _ _ c.in-Ok.ensures.same c.in-Ok.ensures.carries c.in-Ok.ensures.answers c.in-Ok.ensures.loggable

pub returns-in-Err-Refused-clause-executes : goal.returns-in-Err-Refused-clause-executes
returns-in-Err-Refused-clause-executes g c =
    executes_refused c.args.text.now _ c.in-Err-Refused.field-0 c.in-Err-Refused.refusal _ _ _ _ _ c.in-Err-Refused.field-0-is c.in-Err-Refused.ensures.same c.in-Err-Refused.ensures.carries c.in-Err-Refused.ensures.answers

pub returns-in-Err-Device-clause-executes : goal.returns-in-Err-Device-clause-executes
returns-in-Err-Device-clause-executes g c =
    executes_device c.args.text.now _ c.in-Err-Device.field-0 _ _ _ _ _ c.in-Err-Device.field-0-is c.in-Err-Device.ensures.same c.in-Err-Device.ensures.carries

pub returns-in-Err-NotAVolume-clause-executes : goal.returns-in-Err-NotAVolume-clause-executes
returns-in-Err-NotAVolume-clause-executes g c =
    executes_none c.args.text.now _ c.in-Err-NotAVolume.field-0 c.in-Err-NotAVolume.file _ _ _ _ _ c.in-Err-NotAVolume.field-0-is c.in-Err-NotAVolume.ensures.same c.in-Err-NotAVolume.ensures.carries
    c.in-Err-NotAVolume.ensures.answers

pub returns-in-Err-Memory-clause-executes : goal.returns-in-Err-Memory-clause-executes
returns-in-Err-Memory-clause-executes g c =
    executes_ended c.args.text.now _ c.in-Err-Memory.field-0 _ _ _ _ _ _ c.in-Err-Memory.field-0-is c.in-Err-Memory.ensures.same c.in-Err-Memory.ensures.carries
