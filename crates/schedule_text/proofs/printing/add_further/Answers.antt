use Rattle.schedule_text.proofs.PrefixLemmas.{prefix_on_err}
use Rattle.schedule_text.proofs.printing.add_further.Goals as goal

pub returns-in_err-add_behind_comma-clause-err : goal.returns-in_err-add_behind_comma-clause-err
returns-in_err-add_behind_comma-clause-err c = prefix_on_err c.from_residual.result c.args.out.now.items _ c.loop-value.out.items
    c.add_behind_comma.new.out.items c.loop-value.invariant c.in_err-add_behind_comma.ensures.err
