-- Which bytes are a name? (This project.)
use Rattle.std.specs.Prelude.{ℕ, List, length, Bool, ◌&&◌, nat_le, IsTrue}

-- 1 to 64 bytes
abbrev pub is_name : List ℕ → Bool
is_name bytes = nat_le 1 (length bytes) && nat_le (length bytes) 64

-- these bytes are a name
abbrev pub IsName : List ℕ → Type 0
IsName bytes = IsTrue (is_name bytes)
