-- The checksum of frames and headers: the CRC-32 of MySQL's events and of zip files, with the polynomial 0xEDB88320, reflected.
-- (MySQL Internals Manual, "Binary Log Event", checksum; the polynomial is that of IEEE 802.3)
use Rattle.std.specs.Prelude.{ℕ, zero, suc, ◌/◌, ◌%◌, ◌^◌, ◌-◌, ◌==◌, if◌then◌else◌, List, [], ◌∷◌, bit_xor}

-- the polynomial, lowest power in the highest bit
abbrev pub polynomial : ℕ
polynomial = 0xedb88320

-- one bit leaves the register at its low end; where it was 1, the polynomial is taken off
abbrev pub shifted : ℕ → ℕ
shifted r = if r % 2 == 1 then bit_xor (r / 2) polynomial else r / 2

-- so many bits
abbrev pub shifted_by : ℕ → ℕ → ℕ
shifted_by zero r = r
shifted_by (suc n) r = shifted_by n (shifted r)

-- the register after these bytes
abbrev pub register : ℕ → List ℕ → ℕ
register r [] = r
register r (byte ∷ bytes) = register (shifted_by 8 (bit_xor r byte)) bytes

-- the checksum of some bytes that follow bytes with the checksum start; 0 is that of no bytes
unfoldable pub crc_of : ℕ → List ℕ → ℕ
crc_of start bytes = bit_xor (register (bit_xor start (2 ^ 32 - 1)) bytes) (2 ^ 32 - 1)
