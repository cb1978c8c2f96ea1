use Rattle.std.proofs.Common.{refl}
use Rattle.page_format.proofs.HeldLemmas.{kept_new, held_is}
use Rattle.page_format.proofs.page.Page.new.Goals as goal

pub invariant_of-result : goal.invariant_of-result
invariant_of-result c = (kept_new 4096 c.args.number _ c.put_four.new.bytes refl refl c.put_four.array_long c.requires c.put_four.ensures).0

pub returns : goal.returns
returns c =
    let new = kept_new 4096 c.args.number _ c.put_four.new.bytes refl refl c.put_four.array_long c.requires c.put_four.ensures in
    held_is new.1 new.2
