-- Which changes can be spelt?
use Rattle.std.specs.Prelude.{◌≡◌, ◌<◌, ◌^◌, ℕ, List, [], ◌∷◌, Option, Some, None}
use Rattle.row_format.specs.declared.change.TableMap.{TableMap}
use Rattle.row_format.specs.declared.change.Change.{Change}
use Rattle.row_format.specs.declared.change.Change.TheVariants.{Install, Uninstall, Create, Drop, Insert, Update, Delete}
use Rattle.sql_value.specs.Names.{IsName}
use Rattle.sql_value.specs.declared.value.Value.{Value}
use Rattle.row_format.specs.Schemas.{IsSchema}
use Rattle.row_format.specs.Rows.{IsRow}

-- a table map that can be spelt: its table has a name, and its schema is one
pub record IsMap (map : TableMap) : Type 0 where
  pub named : IsName map.table
  pub schema : IsSchema map.schema

-- the place of a row in a table with this key column, or with none: it tells nothing where there is a key
abbrev pub IsPlace : Option ℕ → ℕ → Type 0
IsPlace None place = place < 2 ^ 32
IsPlace (Some column) place = place ≡ 0

-- a row that fits at this place, in the table of this map
pub record IsPlaced (map : TableMap) (place : ℕ) (row : List Value) : Type 0 where
  pub mapped : IsMap map
  pub placed : IsPlace map.schema.key place
  pub suits : IsRow map.schema row

-- a change that fits: names are names, schemas are schemas, and rows go into their table
abbrev pub IsFitChange : Change → Type 0
IsFitChange (Install name) = IsName name
IsFitChange (Uninstall name) = IsName name
IsFitChange (Create table engine schema) = IsName table × IsName engine × IsSchema schema
IsFitChange (Drop table) = IsName table
IsFitChange (Insert map row) = IsMap map × IsRow map.schema row
IsFitChange (Update map place before after) = IsPlaced map place before × IsRow map.schema after
IsFitChange (Delete map place before) = IsPlaced map place before

-- each of these changes fits
abbrev pub AreFitChanges : List Change → Type 0
AreFitChanges [] = Unit {0}
AreFitChanges (it ∷ rest) = IsFitChange it × AreFitChanges rest
