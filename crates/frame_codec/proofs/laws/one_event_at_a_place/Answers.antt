-- Their frames are the same bytes, field by field.
use Rattle.std.proofs.Common.{sym, ◌∙◌}
use Rattle.frame_codec.proofs.FrameLemmas.{one_event}
use Rattle.frame_codec.proofs.laws.one_event_at_a_place.Goals as goal

pub returns : goal.returns
returns c prev at bytes one other first second =
    (one_event prev at one other first.rest second.rest first.ends second.ends (sym first.stands ∙ second.stands)).0
