-- Transaction by transaction: at each step both lists have the same bytes behind them.
use Rattle.binlog_file.proofs.UniqueLemmas.{one_logged}
use Rattle.binlog_file.proofs.laws.one_log.Goals as goal

pub returns : goal.returns
returns c = one_logged
