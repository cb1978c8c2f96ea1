use Rattle.std.proofs.Common.{rules, ◌∙◌}
use Rattle.std.proofs.lemmas.Bool.Decides.{Decides-eqb}
use Rattle.std.proofs.lemmas.Slice.Eq.{slice_eq-Decides}
use Rattle.redo_journal.proofs.HeaderLemmas.{sequence_read, open_yes, open_no}
use Rattle.redo_journal.proofs.header.open_sequence.Goals as goal

pub returns-then-eq : goal.returns-then-eq
returns-then-eq c = open_yes c.args.front.now _ _ (search rules) (c.from_le_bytes-sequence.ensures ∙ sequence_read c.args.front.now (search rules)) ((slice_eq-Decides Decides-eqb _ _ _ c.eq.ensures).0 c.if-eq.true) c.header.ensures

pub returns-else-eq : goal.returns-else-eq
returns-else-eq c = open_no c.args.front.now _ _ (search rules) (c.from_le_bytes-sequence.ensures ∙ sequence_read c.args.front.now (search rules)) (λ same. let yes = (slice_eq-Decides Decides-eqb _ _ _ c.eq.ensures).1 same in let no = c.if-eq.false in cc) c.header.ensures
