-- The checksum that stands at the end of frames.
use Rattle.std.specs.Prelude.{ℕ, List, length, drop, ◌-◌, nat_lt, if◌then◌else◌}
use Rattle.std.specs.Int.{w32, from_le_bytes}

-- the last four bytes as a number, or another where there are fewer
abbrev pub tail_checksum : ℕ → List ℕ → ℕ
tail_checksum other bytes = if nat_lt (length bytes) 4 then other else from_le_bytes w32 (drop (length bytes - 4) bytes)
