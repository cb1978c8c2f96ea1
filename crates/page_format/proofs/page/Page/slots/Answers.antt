use Rattle.std.proofs.Common.{sym, ◌∙◌}
use Rattle.page_format.proofs.SlotsLemmas.{length-slots_of}
use Rattle.page_format.proofs.page.Page.slots.Goals as goal

pub returns : goal.returns
returns c = rw (← c.self.view_is) (c.two_at.ensures ∙ sym (length-slots_of c.self.inside.bytes))
