-- A row that was taken is one row more.
use Rattle.std.proofs.Common.{arith, ◌≡◌, ◌+◌, length, ap, ◌∙◌}
use Rattle.std.proofs.lemmas.List.Edits.{length-insert}
use Rattle.row_bench.proofs.put.Goals as goal

pub returns : goal.returns
returns c =
    let taken = c.insert.ensures.inserts.ok c.in-Ok.field-0 c.in-Ok.is in
    let longer : length c.insert.new.self.rows ≡ length c.args.table.now.rows + 1 = ap length taken.1 ∙ length-insert _ _ _ taken.2 in
    record { one_more = omega (arith, longer) }
