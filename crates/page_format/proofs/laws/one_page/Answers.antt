use Rattle.page_format.proofs.FormLemmas.{one_page_lem}
use Rattle.page_format.proofs.laws.one_page.Goals as goal

pub returns : goal.returns
returns c = one_page_lem
