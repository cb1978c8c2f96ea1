-- How is a list of changes spelt in an engine's journal? (This project.)
use Rattle.std.specs.Prelude.{◌<◌, ◌^◌, ℕ, List, ◌∷◌, ◌++◌, length, None, Bool, true, false, IsTrue}
use Rattle.std.specs.List.{flat_map, list_all}
use Rattle.frame_codec.specs.Bytes.{le32}
use Rattle.frame_codec.specs.Frame.{Event}
use Rattle.row_format.specs.declared.change.Change.{Change}
use Rattle.row_format.specs.declared.change.Change.TheVariants.{Install, Uninstall}
use Rattle.row_format.specs.Spelling.{Takes}
use Rattle.row_format.specs.Changes.{AreFitChanges}
use Rattle.binlog_events.specs.Changes.{change_events}

-- an item is an event's type byte and its body
abbrev pub item_spelling : Event → List ℕ
item_spelling event = event.kind ∷ event.body

-- the items of changes: the events that these have in a log
abbrev pub items_of_changes : List Change → List Event
items_of_changes changes = change_events None changes

-- The list form of changes: the number of items, and the items.
abbrev pub list_spelling : List Change → List ℕ
list_spelling changes = le32 (length (items_of_changes changes)) ++ flat_map item_spelling (items_of_changes changes)

-- a change on a table: a journal has no others
abbrev pub is_on_table : Change → Bool
is_on_table (Install name) = false
is_on_table (Uninstall name) = false
is_on_table _ = true

-- changes that have a list form
pub record AreListed (changes : List Change) : Type 0 where
  pub fit : AreFitChanges changes
  pub on_tables : IsTrue (list_all is_on_table changes)
  pub few : length (items_of_changes changes) < 2 ^ 32

-- no list form of changes stands at the front
abbrev pub NoList : List ℕ → Type 0
NoList bytes = (changes : List Change) (rest : List ℕ) → AreListed changes → Takes bytes (list_spelling changes) rest → ⊥
