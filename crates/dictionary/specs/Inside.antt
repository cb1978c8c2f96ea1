-- What does the crate keep of its entries? (This project.)
use Rattle.std.specs.Prelude.{◌≡◌, ℕ, List, [], ◌∷◌, Bool}
use Rattle.std.specs.Str.{bytes_eq}
use Rattle.std.specs.declared.vec.Vec.{Vec}
use Rattle.std.specs.declared.alloc.Global.{Global}
use Rattle.log_tables.specs.declared.table.Definition.{Definition}

-- a key of the map: bytes in memory
abbrev pub Key : Type 0
Key = Vec ℕ Global

-- the key has these bytes
abbrev pub is_key : List ℕ → Key → Bool
is_key name key = bytes_eq name key.items

-- each definition stands under the bytes of its table's name
abbrev pub AreKeyed : List (Key × Definition) → Type 0
AreKeyed [] = Unit {0}
AreKeyed (it ∷ rest) = (it.0.items ≡ it.1.table) × AreKeyed rest
