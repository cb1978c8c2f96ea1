use Rattle.std.proofs.Common.{◌+◌, ◌*◌, refl, arith}
use Rattle.page_format.proofs.WriteLemmas.{entry_put}
use Rattle.page_format.proofs.place.put_entry.Goals as goal

pub returns : goal.returns
returns c =
    let slot = c.args.slot in
    entry_put slot c.args.place c.args.len (8 + 4 * slot) (8 + 4 * slot + 2) _ _ _ refl (omega arith) c.put_two.ensures c.put_two-2.ensures
