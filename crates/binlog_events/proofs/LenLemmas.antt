-- How many bytes lists and transactions have.
use Rattle.std.proofs.Common.{◌≡◌, ℕ, ◌+◌, ◌*◌, ◌≤◌, ◌<◌, List, [], ◌∷◌, ◌++◌, length, Option, None, refl, ap, arith, length-append, get_or, drop}
use Rattle.std.specs.Prelude.{sum_by}
use Rattle.std.specs.List.{flat_map}
use Rattle.std.proofs.lemmas.List.Sums.{sum_by-cons, sum_by-append}
use Rattle.frame_codec.specs.Bytes.{le32}
use Rattle.frame_codec.specs.Frame.{Event, size_of}
use Rattle.frame_codec.proofs.FrameLemmas.{length-le32, length-le64}
use Rattle.row_format.specs.declared.schema.Schema.{Schema}
use Rattle.row_format.specs.declared.change.TableMap.{TableMap}
use Rattle.row_format.specs.declared.change.Change.{Change}
use Rattle.row_format.specs.Spelling.{schema_spelling, map_spelling, row_image}
use Rattle.sql_value.specs.declared.value.Value.{Value}
use Rattle.binlog_events.specs.Changes.{change_event, map_of, map_events, change_events}
use Rattle.binlog_events.specs.Items.{item_spelling, items_of_changes, list_spelling}
use Rattle.binlog_events.specs.Transaction.{begin, xid_event, events_of}
use Rattle.binlog_events.proofs.WriteLemmas.{changes_split}

pub length-map_spelling : (map : TableMap) → length (map_spelling map) ≡ 1 + length map.table + length (schema_spelling map.schema)
length-map_spelling map = omega (arith, length-append map.table (schema_spelling map.schema))

pub length-create : (table engine : List ℕ) (schema : Schema) → length (2 ∷ ((length table ∷ table) ++ ((length engine ∷ engine) ++ schema_spelling schema))) ≡ 3 + length table + length engine + length (schema_spelling schema)
length-create table engine schema = omega (arith, length-append table ((length engine ∷ engine) ++ schema_spelling schema), length-append engine (schema_spelling schema))

pub update_len : (place : ℕ) (before after : List Value) → length (le32 place ++ (row_image before ++ row_image after)) ≡ 4 + length (row_image before) + length (row_image after)
update_len place before after = omega (arith, length-append (le32 place) (row_image before ++ row_image after), length-le32 place, length-append (row_image before) (row_image after))

pub delete_len : (place : ℕ) (before : List Value) → length (le32 place ++ row_image before) ≡ 4 + length (row_image before)
delete_len place before = omega (arith, length-append (le32 place) (row_image before), length-le32 place)

-- the events of the changes that are left
pub sizes_split : (before : Option TableMap) (changes : List Change) (i : ℕ) (change : Change) → i < length changes → change ≡ get_or changes i change
    → sum_by size_of (change_events before (drop i changes)) ≡ sum_by size_of (map_events before change) + size_of (change_event change) + sum_by size_of (change_events (map_of change) (drop (i + 1) changes))
sizes_split before changes i change within at =
    let own = map_events before change ++ change_event change ∷ [] in
    let more = change_events (map_of change) (drop (i + 1) changes) in
    omega (arith, ap (sum_by size_of) (changes_split before changes i change within at), sum_by-append size_of own more, sum_by-append size_of (map_events before change) (change_event change ∷ []), sum_by-cons size_of (change_event change) [])

-- a transaction has BEGIN and XID besides its changes' events
pub transaction_size : (xid : ℕ) (changes : List Change) → sum_by size_of (events_of (record { xid = xid; changes = changes })) ≡ 55 + sum_by size_of (change_events None changes)
transaction_size xid changes =
    omega (arith, sum_by-cons size_of begin (change_events None changes ++ xid_event xid ∷ []), sum_by-append size_of (change_events None changes) (xid_event xid ∷ []), sum_by-cons size_of (xid_event xid) [], length-le64 xid)

-- an item has 22 bytes less than its frame
pub items_sizes : (events : List Event) → length (flat_map item_spelling events) + 22 * length events ≡ sum_by size_of events
items_sizes [] = refl
items_sizes (event ∷ events) = omega (arith, length-append (item_spelling event) (flat_map item_spelling events), items_sizes events, sum_by-cons size_of event events)

-- each change has an item of its own
pub changes_fewer : (before : Option TableMap) (changes : List Change) → length changes ≤ length (change_events before changes)
changes_fewer before [] = omega arith
changes_fewer before (it ∷ rest) = omega (arith, length-append (map_events before it) (change_event it ∷ change_events (map_of it) rest), changes_fewer (map_of it) rest)

pub length-list_spelling : (changes : List Change) → length (list_spelling changes) + 22 * length (items_of_changes changes) ≡ 4 + sum_by size_of (change_events None changes)
length-list_spelling changes =
    omega (arith, length-append (le32 (length (items_of_changes changes))) (flat_map item_spelling (items_of_changes changes)), length-le32 (length (items_of_changes changes)), items_sizes (items_of_changes changes))

-- the length of the list form, from the number of its items and the size of their frames
pub listed_from : (changes one other : List Change) (count number size : ℕ) → one ≡ changes → other ≡ changes → count ≡ length (items_of_changes one) → number ≡ count → size ≡ sum_by size_of (change_events None other)
    → length (list_spelling changes) + 22 * number ≡ 4 + size
listed_from changes one other count number size one_is other_is count_is number_is size_is = omega (
  arith,
  length-list_spelling changes,
  number_is,
  count_is,
  size_is,
  ap (λ (l : List Change). length (items_of_changes l)) one_is,
  ap (λ (l : List Change). sum_by size_of (change_events None l)) other_is,
)
