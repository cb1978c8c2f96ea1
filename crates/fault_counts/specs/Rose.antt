-- When a count of faults rose over some calls. (This project.)
use Rattle.std.specs.Prelude.{◌≤◌, ◌+◌, ◌-◌, ◌^◌, ℕ, min}

-- the last value of a count
abbrev pub last : ℕ
last = 2 ^ 64 - 1

-- a count rose, or stands at its last value
abbrev pub Rose : ℕ → ℕ → Type 0
Rose before now = min (before + 1) last ≤ now
