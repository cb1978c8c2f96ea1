use Rattle.page_format.proofs.HeldLemmas.{page_of_kept}
use Rattle.page_format.proofs.page.Page.bytes.Goals as goal

pub returns-clause-page : goal.returns-clause-page
returns-clause-page c = rw (← c.self.view_is) (page_of_kept c.self.inside.bytes c.self.invariant)
