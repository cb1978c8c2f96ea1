-- Record by record: at each step both lists have the same bytes behind them, and stand for the same so far.
use Rattle.redo_journal.proofs.AreaLemmas.{one_list}
use Rattle.redo_journal.proofs.laws.one_journal.Goals as goal

pub returns : goal.returns
returns c = one_list
