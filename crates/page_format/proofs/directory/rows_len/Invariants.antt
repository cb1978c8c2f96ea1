use Rattle.std.proofs.Common.{◌≡◌, ◌≤◌, ◌*◌, length, take}
use Rattle.std.specs.Prelude.{sum_by}
use Rattle.page_format.specs.Kept.{slots_of}
use Rattle.page_format.proofs.directory.rows_len.Given as goal

-- the records so far
abbrev pub invariant-loop-slot : goal.invariant-loop-slot
invariant-loop-slot l = (l.sum ≡ sum_by length (take l.slot (slots_of l.bytes))) × (l.sum ≤ 65536 * l.slot)
