use Rattle.std.proofs.Common.{◌≡◌, ◌+◌, max, arith}
use Rattle.page_format.specs.Kept.{count_in}
use Rattle.page_format.proofs.AddLemmas.{row_added}
use Rattle.page_format.proofs.place.add_row.Goals as goal

pub returns : goal.returns
returns c =
    let slot = c.args.slot in
    let count_is : c.max-slots.result ≡ max (count_in c.args.bytes.now) (slot + 1) = omega arith in
    record {
      slots =
          row_added slot c.args.place c.max-slots.result c.args.row.now c.args.bytes.now _ _ c.requires.laid c.requires.next count_is
          (omega arith) c.requires.page c.requires.above c.put_row.ensures.put c.put_two.ensures;
    }
