use Rattle.plugd.proofs.XidSetLemmas.{least_is_next}
use Rattle.plugd.proofs.xids.XidSet.next.Goals as goal

pub returns : goal.returns
returns c = least_is_next c.args.self.now _ c.if-self-lt18446744073709551615.false c.least_free.ensures
