use Rattle.plugd.proofs.UndoLemmas.{undoes_ok, undoes_halted}
use Rattle.plugd.proofs.kernel.Kernel.undo.Goals as goal

pub returns-in-Ok-clause-undoes : goal.returns-in-Ok-clause-undoes
returns-in-Ok-clause-undoes g c =
    undoes_ok c.args.refusal _ c.in-Ok.field-0 _ _ _ _ _ c.in-Ok.ensures.same c.in-Ok.ensures.turns

pub returns-in-Err-clause-undoes : goal.returns-in-Err-clause-undoes
returns-in-Err-clause-undoes g c =
    undoes_halted c.args.refusal _ c.in-Err.field-0 _ _ _ _ _ c.halt.new.self c.halt.result c.in-Err.ensures.same c.in-Err.ensures.turns c.in-Err.ensures.answers c.halt.ensures.server c.halt.ensures.reply
