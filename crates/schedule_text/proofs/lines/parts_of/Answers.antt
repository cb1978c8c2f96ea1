use Rattle.schedule_text.proofs.NumberLemmas.{none_has}
use Rattle.schedule_text.proofs.SpaceLemmas.{none_found, parts_found}
use Rattle.schedule_text.proofs.lines.parts_of.Goals as goal

pub returns-in_err-space : goal.returns-in_err-space
returns-in_err-space c = none_has _ _ _ c.from_residual.ensures
    (none_found c.args.bytes.now c.space_of.result c.space_of.ensures c.in_err-space.was)

pub returns : goal.returns
returns c = parts_found c.args.bytes.now c.space_of.result c.in_ok-space.space c.space_of.ensures c.in_ok-space.was
