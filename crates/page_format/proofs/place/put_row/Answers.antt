use Rattle.std.proofs.Common.{◌≤◌, ◌+◌, length, arith}
use Rattle.page_format.proofs.WriteLemmas.{copied_only, copied_stands, row_put}
use Rattle.page_format.proofs.place.put_row.Goals as goal

pub returns : goal.returns
returns c =
    let place = c.args.place in
    let row = c.args.row.now in
    let room : place + length row ≤ length c.args.bytes.now = omega arith in
    record {
      put =
          row_put c.args.slot place row c.args.bytes.now _ _ c.requires.behind
          (copied_only place _ c.args.bytes.now row _ room (omega arith) c.copy_from_slice.ensures.after)
          (copied_stands place _ c.args.bytes.now row _ room (omega arith) c.copy_from_slice.ensures.after)
          c.put_entry.ensures;
    }
