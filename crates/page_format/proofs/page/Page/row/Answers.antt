use Rattle.std.proofs.Common.{arith}
use Rattle.page_format.proofs.HeldLemmas.{none_past, none_empty, some_row}
use Rattle.page_format.proofs.page.Page.row.Goals as goal

pub returns-then-slot-count : goal.returns-then-slot-count
returns-then-slot-count c = rw (← c.self.view_is) (none_past c.self.inside.bytes c.args.slot c.from-slot.result c.from-slot.ensures (omega arith))

pub returns-in-empty : goal.returns-in-empty
returns-in-empty c =
    rw (← c.self.view_is) (none_empty c.self.inside.bytes c.row_at.result.now c.args.slot c.from-slot.result c.from-slot.ensures (omega arith) c.row_at.ensures.value c.in-empty.len_below)

pub returns-in_default : goal.returns-in_default
returns-in_default c =
    rw (← c.self.view_is) (some_row c.self.inside.bytes c.row_at.result.now c.args.slot c.from-slot.result c.from-slot.ensures (omega arith) c.row_at.ensures.value c.in_default.len_at_least)
