use Rattle.std.proofs.Common.{refl}
use Rattle.redo_journal.proofs.OpenLemmas.{no_sequence, some_sequence}
use Rattle.redo_journal.proofs.open_journal.sequence_at.Goals as goal

pub returns-then-n-lt-HEADER_LEN-clause-value : goal.returns-then-n-lt-HEADER_LEN-clause-value
returns-then-n-lt-HEADER_LEN-clause-value g c = λ told. no_sequence _ _ _ _ (c.in_ok-n.ensures.1.0 told) refl c.if-n-lt-HEADER_LEN.true

pub returns-clause-value : goal.returns-clause-value
returns-clause-value g c = λ told. some_sequence _ _ _ _ _ (c.in_ok-n.ensures.1.0 told) refl c.if-n-lt-HEADER_LEN.false c.open_sequence.ensures
