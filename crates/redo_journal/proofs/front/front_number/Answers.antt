use Rattle.std.proofs.Common.{arith}
use Rattle.redo_journal.proofs.TakeLemmas.{no_front, no_front_number}
use Rattle.redo_journal.proofs.front.front_number.Goals as goal

pub returns-then-bytes-lt-NUMBER_LEN-clause-none : goal.returns-then-bytes-lt-NUMBER_LEN-clause-none
returns-then-bytes-lt-NUMBER_LEN-clause-none c = no_front _ (omega arith)

pub returns-in-None-clause-none : goal.returns-in-None-clause-none
returns-in-None-clause-none c = no_front_number _ _ c.split_at.ensures.front c.in-None.ensures.none
