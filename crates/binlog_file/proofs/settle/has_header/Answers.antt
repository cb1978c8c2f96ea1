use Rattle.std.proofs.Common.{refl}
use Rattle.std.proofs.lemmas.Bool.Decides.{Decides-eqb}
use Rattle.std.proofs.lemmas.Slice.Eq.{slice_eq-Decides}
use Rattle.binlog_file.proofs.StagedLemmas.{no_header, a_header}
use Rattle.binlog_file.proofs.settle.has_header.Goals as goal

pub returns-then-n-lt32-clause-value : goal.returns-then-n-lt32-clause-value
returns-then-n-lt32-clause-value g c = λ told. no_header _ _ _ _ (c.in_ok-n.ensures.1.0 told) refl c.if-n-lt32.true

pub returns-clause-value : goal.returns-clause-value
returns-clause-value g c = λ told. a_header _ _ _ _ _ (c.in_ok-n.ensures.1.0 told) refl c.if-n-lt32.false (slice_eq-Decides Decides-eqb _ _ _ c.eq.ensures)
