use Rattle.std.proofs.Common.{◌∙◌, ap, List, ℕ, ◌++◌}
use Rattle.frame_codec.specs.Bytes.{le64}
use Rattle.binlog_events.specs.Items.{list_spelling}
use Rattle.redo_journal.proofs.spell.prepare_body.Goals as goal

pub returns : goal.returns
unfolding le64
returns c = c.in_ok-put_items.ensures.ok ∙ ap (λ (l : List ℕ). l ++ list_spelling c.args.it.now.changes) (c.in_ok-extend_from_slice.ensures.items ∙ ap (λ (l : List ℕ). l ++ c.to_le_bytes.result) c.new-body.ensures.items ∙ c.to_le_bytes.ensures)
