-- As which events is a change spelt?
-- (The types of the events are those of MySQL Internals Manual, "Event Classes and Types"; the bodies are this project's.)
use Rattle.std.specs.Prelude.{List, [], ◌∷◌, ◌++◌, Option, Some, None, Bool, true, cond, not}
use Rattle.frame_codec.specs.Bytes.{le32}
use Rattle.frame_codec.specs.Frame.{Event}
use Rattle.row_format.specs.declared.change.TableMap.{TableMap}
use Rattle.row_format.specs.declared.change.Change.{Change}
use Rattle.row_format.specs.declared.change.Change.TheVariants.{Install, Uninstall, Create, Drop, Insert, Update, Delete}
use Rattle.row_format.specs.Schemas.{same_map}
use Rattle.row_format.specs.Spelling.{counted, schema_spelling, map_spelling, row_image}

-- the map that stands before a row change
abbrev pub map_event : TableMap → Event
map_event map = record { kind = 19; body = map_spelling map }

-- the event of a change: a QUERY with a byte of its own for each statement, or an event of one row
abbrev pub change_event : Change → Event
change_event (Install name) = record { kind = 2; body = 4 ∷ counted name }
change_event (Uninstall name) = record { kind = 2; body = 5 ∷ counted name }
change_event (Create table engine schema) = record { kind = 2; body = 2 ∷ (counted table ++ (counted engine ++ schema_spelling schema)) }
change_event (Drop table) = record { kind = 2; body = 3 ∷ counted table }
change_event (Insert map row) = record { kind = 30; body = row_image row }
change_event (Update map place before after) = record { kind = 31; body = le32 place ++ (row_image before ++ row_image after) }
change_event (Delete map place before) = record { kind = 32; body = le32 place ++ row_image before }

-- the table map of a row change
abbrev pub map_of : Change → Option TableMap
map_of (Insert map row) = Some map
map_of (Update map place before after) = Some map
map_of (Delete map place before) = Some map
map_of _ = None

-- behind a change with this table map, or with none, a row change has its map before it where that is not equal
abbrev pub needs_map : Option TableMap → TableMap → Bool
needs_map None map = true
needs_map (Some it) map = not (same_map it map)

-- the TABLE_MAP event before a change with this table map, where there is one
abbrev pub map_for : Option TableMap → Option TableMap → List Event
map_for before None = []
map_for before (Some map) = cond (needs_map before map) (map_event map ∷ []) []

-- the TABLE_MAP event before a change, where there is one
abbrev pub map_events : Option TableMap → Change → List Event
map_events before change = map_for before (map_of change)

-- The events of changes that stand behind a change with this table map, or with none.
abbrev pub change_events : Option TableMap → List Change → List Event
change_events before [] = []
change_events before (it ∷ rest) = map_events before it ++ change_event it ∷ change_events (map_of it) rest

-- the events of one table map, or of none
abbrev pub map_told : Option TableMap → List Event
map_told None = []
map_told (Some map) = map_event map ∷ []
