-- Which changes do items or events tell, read one after the other?
use Rattle.std.specs.Prelude.{ℕ, zero, suc, ◌-◌, List, [], ◌∷◌, ◌++◌, length, Option, Some, None, Bool, true, false, cond, not, ◌==◌, ◌&&◌, nat_lt, slice_get}
use Rattle.std.specs.Int.{w32, w64, from_le_bytes}
use Rattle.std.specs.List.{list_all}
use Rattle.std.specs.Str.{bytes_eq}
use Rattle.frame_codec.specs.Frame.{Event}
use Rattle.row_format.specs.declared.change.TableMap.{TableMap}
use Rattle.row_format.specs.declared.change.Change.{Change}
use Rattle.row_format.specs.declared.change.Change.TheVariants.{Install, Uninstall, Create, Drop, Insert, Update, Delete}
use Rattle.row_format.specs.declared.change.Transaction.{Transaction}
use Rattle.binlog_events.specs.declared.walk.Told.{Told}
use Rattle.binlog_events.specs.declared.walk.Told.TheVariants.{Made, Map}
use Rattle.row_format.specs.Schemas.{same_map}
use Rattle.row_format.specs.Reading.{◌>>=◌, where_so, byte_at, piece_at, name_at, schema_at, map_at, row_at}
use Rattle.binlog_events.specs.Changes.{map_of}
use Rattle.binlog_events.specs.Items.{is_on_table}

-- What stands before an item.
pub data Before : Type 0 where
  -- nothing, or a change that is no row change
  Other : Before
  -- a row change with this table map
  RowOf : TableMap → Before
  -- this table map, whose row change is still to come
  MapOf : TableMap → Before

-- what an item tells, a change or none, and what then stands before the next one
pub record Item : Type 0 where
  pub changes : List Change
  pub before : Before

-- the table map of the last change, where that is a row change
abbrev pub last_map : List Change → Option TableMap
last_map changes = slice_get changes (length changes - 1) >>= map_of

-- what stands before an item behind a change with this table map, or with none
abbrev pub behind : Option TableMap → Before
behind None = Other
behind (Some map) = RowOf map

-- what stands before an item behind a table map that waits for its row change, or else behind a change with the last table map, or with none
abbrev pub before_of : Option TableMap → Option TableMap → Before
before_of (Some map) last = MapOf map
before_of None last = behind last

-- what a function of the code told
abbrev pub item_of : Told → Item
item_of (Made change) = record { changes = change ∷ []; before = behind (map_of change) }
item_of (Map map) = record { changes = []; before = MapOf map }

-- a Create behind its first byte
unfoldable pub create_at : List ℕ → Option (Change × List ℕ)
create_at bytes = do
  table ← name_at bytes
  engine ← name_at table.1
  schema ← schema_at engine.1
  Some (Create table.0 engine.0 schema.0, schema.1)

-- a change that is told by a name alone, behind its first byte
unfoldable pub named_at : (List ℕ → Change) → List ℕ → Option (Change × List ℕ)
named_at make bytes = name_at bytes >>= λ it. Some (make it.0, it.1)

-- the change of a QUERY by its first byte
abbrev pub query_of : ℕ → List ℕ → Option (Change × List ℕ)
query_of byte rest = cond (byte == 2) (create_at rest) (cond (byte == 3) (named_at Drop rest) (cond (byte == 4) (named_at Install rest) (cond (byte == 5) (named_at Uninstall rest) None)))

-- a QUERY
unfoldable pub query_at : List ℕ → Option (Change × List ℕ)
query_at bytes = do
  byte ← byte_at bytes
  query_of byte.0 byte.1

-- a QUERY stands behind no table map
abbrev pub query_item : Before → List ℕ → Option (Item × List ℕ)
query_item (MapOf map) bytes = None
query_item _ bytes = query_at bytes >>= λ it. Some (record { changes = it.0 ∷ []; before = Other }, it.1)

-- a table map stands behind no other, and not where the row change before it has an equal one
abbrev pub may_follow : Before → TableMap → Bool
may_follow Other map = true
may_follow (RowOf it) map = not (same_map it map)
may_follow (MapOf it) map = false

-- a table map, which tells no change
abbrev pub map_item : Before → List ℕ → Option (Item × List ℕ)
map_item before bytes = map_at bytes >>= λ it. where_so (may_follow before it.0) (record { changes = []; before = MapOf it.0 }, it.1)

-- a place may be told in a table with this key column, or with none
abbrev pub is_place : Option ℕ → ℕ → Bool
is_place None place = true
is_place (Some column) place = place == 0

-- the place of a row in a table with this key column, or with none
unfoldable pub place_at : Option ℕ → List ℕ → Option (ℕ × List ℕ)
place_at key bytes = piece_at 4 bytes >>= λ it. where_so (is_place key (from_le_bytes w32 it.0)) (from_le_bytes w32 it.0, it.1)

-- an Insert into the table of this map
unfoldable pub insert_at : TableMap → List ℕ → Option (Change × List ℕ)
insert_at map bytes = row_at map.schema bytes >>= λ row. Some (Insert map row.0, row.1)

-- an Update of that table
unfoldable pub update_at : TableMap → List ℕ → Option (Change × List ℕ)
update_at map bytes = do
  place ← place_at map.schema.key bytes
  before ← row_at map.schema place.1
  after ← row_at map.schema before.1
  Some (Update map place.0 before.0 after.0, after.1)

-- a Delete from that table
unfoldable pub delete_at : TableMap → List ℕ → Option (Change × List ℕ)
delete_at map bytes = do
  place ← place_at map.schema.key bytes
  before ← row_at map.schema place.1
  Some (Delete map place.0 before.0, before.1)

-- a row change by its type byte
abbrev pub row_change_at : ℕ → TableMap → List ℕ → Option (Change × List ℕ)
row_change_at kind map bytes = cond (kind == 30) (insert_at map bytes) (cond (kind == 31) (update_at map bytes) (cond (kind == 32) (delete_at map bytes) None))

-- the table map by which a row is read
abbrev pub map_before : Before → Option TableMap
map_before Other = None
map_before (RowOf map) = Some map
map_before (MapOf map) = Some map

-- a row change behind a table map, or behind a row change
abbrev pub row_item : Before → ℕ → List ℕ → Option (Item × List ℕ)
row_item before kind bytes = do
  map ← map_before before
  it ← row_change_at kind map bytes
  Some (record { changes = it.0 ∷ []; before = RowOf map }, it.1)

-- an item by its type byte
unfoldable pub item_at : Before → ℕ → List ℕ → Option (Item × List ℕ)
item_at before kind bytes = cond (kind == 2) (query_item before bytes) (cond (kind == 19) (map_item before bytes) (row_item before kind bytes))

-- no table map waits for its row change
abbrev pub may_end : Before → Bool
may_end (MapOf map) = false
may_end _ = true

-- so many items
unfoldable pub items_at : ℕ → Before → List ℕ → Option (List Change × List ℕ)
items_at zero before bytes = where_so (may_end before) ([], bytes)
items_at (suc n) before bytes = do
  kind ← byte_at bytes
  it ← item_at before kind.0 kind.1
  more ← items_at n it.0.before it.1
  Some (it.0.changes ++ more.0, more.1)

-- the list form of changes
unfoldable pub list_at : List ℕ → Option (List Change × List ℕ)
list_at bytes = do
  count ← piece_at 4 bytes
  it ← items_at (from_le_bytes w32 count.0) Other count.1
  where_so (list_all is_on_table it.0) it

-- an event is an item whose body has nothing behind it
unfoldable pub event_item : Before → Event → Option Item
event_item before event = do
  it ← item_at before event.kind event.body
  where_so (length it.1 == 0) it.0

-- the changes up to an XID event, its xid, and the events behind it
pub record Ending : Type 0 where
  pub changes : List Change
  pub xid : ℕ
  pub behind : List Event

-- with these changes told before
abbrev pub with_changes : List Change → Ending → Ending
with_changes changes told = record { changes = changes ++ told.changes; xid = told.xid; behind = told.behind }

-- the XID event: eight bytes, and no table map before it
abbrev pub xid_ends : Before → List ℕ → List Event → Option Ending
xid_ends before body events = where_so (may_end before && (length body == 8)) (record { changes = []; xid = from_le_bytes w64 body; behind = events })

-- the xid that an XID event tells
abbrev pub xid_at : Before → List ℕ → Option ℕ
xid_at before body = where_so (may_end before && (length body == 8)) (from_le_bytes w64 body)

-- the changes that events tell up to an XID
unfoldable pub told_in : Before → List Event → Option Ending
told_in before [] = None
told_in before (event ∷ events) =
    cond (event.kind == 16) (xid_ends before event.body events)
    (event_item before event >>= λ it. told_in it.before events >>= λ told. Some (with_changes it.changes told))

-- the event is a BEGIN
abbrev pub is_begin : Event → Bool
is_begin event = (event.kind == 2) && bytes_eq event.body (1 ∷ [])

-- the transaction that events begin with, and the events behind it
unfoldable pub transaction_in : List Event → Option (Transaction × List Event)
transaction_in [] = None
transaction_in (event ∷ events) = cond (is_begin event) (told_in Other events >>= λ told. where_so (nat_lt 0 (length told.changes)) (record { xid = told.xid; changes = told.changes }, told.behind)) None
