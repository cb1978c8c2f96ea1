-- When are the checksum's tables right?
use Rattle.std.specs.Prelude.{ℕ, suc, ◌*◌, ◌==◌, Bool, true, ◌&&◌, List, [], ◌∷◌, length}
use Rattle.frame_codec.specs.Crc.{shifted_by}

-- the register after so many whole bytes of it have left at its low end
unfoldable pub shifted_bytes : ℕ → ℕ → ℕ
shifted_bytes count r = shifted_by (8 * count) r

-- from this index on, each entry is what its index becomes
abbrev pub is_table_from : ℕ → ℕ → List ℕ → Bool
is_table_from count i [] = true
is_table_from count i (entry ∷ entries) = (entry == shifted_bytes count i) && is_table_from count (suc i) entries

-- a table of 256 for each number of bytes, from this one on
abbrev pub are_tables_from : ℕ → List (List ℕ) → Bool
are_tables_from count [] = true
are_tables_from count (table ∷ tables) = (length table == 256) && is_table_from count 0 table && are_tables_from (suc count) tables

-- eight tables, for one to eight bytes
abbrev pub are_tables : List (List ℕ) → Bool
are_tables tables = (length tables == 8) && are_tables_from 1 tables
