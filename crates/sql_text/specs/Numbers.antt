-- Numbers as digits. (MySQL 5.7 Reference Manual, "Numeric Literals"; the limits are this project's.)
use Rattle.std.specs.Prelude.{ℕ, ◌≡◌, ◌+◌, ◌-◌, ◌*◌, ◌<◌, ◌&&◌, nat_le, true, List, length, fold, slice_index, Option, Some, None, if◌then◌else◌}
use Rattle.std.specs.Char.{is_ascii_digit}

-- each byte is a digit
abbrev pub AreDigits : List ℕ → Type 0
AreDigits bytes = (k : ℕ) → k < length bytes → is_ascii_digit (slice_index bytes k) ≡ true

-- the number that the digits spell
abbrev pub number_of : List ℕ → ℕ
number_of digits = fold (λ n digit. n * 10 + (digit - 48)) 0 digits

-- a number from 1 to 255, which a VARCHAR may have
abbrev pub small_number : ℕ → Option ℕ
small_number n = if nat_le 1 n && nat_le n 255 then Some n else None
