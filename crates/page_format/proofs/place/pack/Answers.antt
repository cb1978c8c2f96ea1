use Rattle.std.proofs.Common.{◌-◌, length, arith}
use Rattle.page_format.proofs.PackLemmas.{room_left, packs_more, all_packed}
use Rattle.page_format.proofs.place.pack.Goals as goal

pub overflow_sub-low : goal.overflow_sub-low
overflow_sub-low c =
    omega (arith, room_left c.loop-slot.slot c.loop-slot.low c.args.bytes.now c.requires.laid (omega arith) c.requires.room c.loop-slot.invariant.full)

pub put_row-requires-clause-behind : goal.put_row-requires-clause-behind
put_row-requires-clause-behind c =
    omega (arith, room_left c.loop-slot.slot c.loop-slot.low c.args.bytes.now c.requires.laid (omega arith) c.requires.room c.loop-slot.invariant.full)

pub put_row-requires-clause-within : goal.put_row-requires-clause-within
put_row-requires-clause-within c =
    omega (
      arith,
      c.loop-slot.invariant.full,
      room_left c.loop-slot.slot c.loop-slot.low c.args.bytes.now c.requires.laid (omega arith) c.requires.room c.loop-slot.invariant.full,
    )

pub loop-slot-preserved : goal.loop-slot-preserved
loop-slot-preserved c =
    let low = c.loop-slot.low in
    let row = c.row_at-row.result.now in
    let left = room_left c.loop-slot.slot low c.args.bytes.now c.requires.laid (omega arith) c.requires.room c.loop-slot.invariant.full in
    packs_more c.loop-slot.slot low (low - length row) row c.args.bytes.now c.loop-slot.bytes _ c.requires.laid (omega arith) c.requires.room c.loop-slot.invariant
    c.row_at-row.ensures.value c.row_at-row.ensures.size (omega (arith, left)) c.put_row.ensures.put

pub returns-clause-end : goal.returns-clause-end
returns-clause-end c = (all_packed c.loop-slot.slot c.loop-slot.low c.args.bytes.now _ (omega arith) c.requires.laid c.requires.room c.loop-slot.invariant).0

pub returns-clause-above : goal.returns-clause-above
returns-clause-above c = (all_packed c.loop-slot.slot c.loop-slot.low c.args.bytes.now _ (omega arith) c.requires.laid c.requires.room c.loop-slot.invariant).1

pub returns-clause-slots : goal.returns-clause-slots
returns-clause-slots c = (all_packed c.loop-slot.slot c.loop-slot.low c.args.bytes.now _ (omega arith) c.requires.laid c.requires.room c.loop-slot.invariant).2
