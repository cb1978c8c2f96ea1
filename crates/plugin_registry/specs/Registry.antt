-- What is a registry of plugins? The list of its slots: a slot's number is its place. (This project.)
use Rattle.std.specs.Prelude.{◌≡◌, ◌≤◌, ℕ, List, [], Option, Some, None, Bool, true, false, ◌&&◌, if◌then◌else◌, length, position, All, count_by, slice_get, option_map, option_and_then}
use Rattle.std.specs.Option.{option_or, option_map_or}
use Rattle.std.specs.List.{IsDistinct, list_any}
use Rattle.std.specs.Str.{bytes_eq}
use Rattle.plugin_registry.specs.declared.slot.Phase.{Phase}
use Rattle.plugin_registry.specs.declared.slot.Phase.TheVariants.{Live, Dying, Gone}
use Rattle.plugin_registry.specs.declared.holder.Holder.{Holder}
use Rattle.plugin_registry.specs.Holders.{same_holder, refers}
pub use Rattle.plugin_registry.specs.declared.slot.Slot.{Slot}

-- how many slots are used at most
abbrev pub slot_limit : ℕ
slot_limit = 256

-- live or dying
abbrev pub is_current : Phase → Bool
is_current Live = true
is_current Dying = true
is_current Gone = false

-- the slot has this name
abbrev pub is_named : List ℕ → Slot → Bool
is_named name slot = bytes_eq slot.name name

-- the slot is the live or dying one of this name
abbrev pub is_of : List ℕ → Slot → Bool
is_of name slot = is_current slot.phase && is_named name slot

-- the number of a name's live or dying slot, if it has one
abbrev pub slot_of : List ℕ → List Slot → Option ℕ
slot_of name slots = position (is_of name) slots

-- the phase of the slot of this number, if it was used
abbrev pub phase_at : ℕ → List Slot → Option Phase
phase_at n slots = option_map (λ (slot : Slot). slot.phase) (slice_get slots n)

-- who refers to the slot of this number
abbrev pub holders_at : ℕ → List Slot → List Holder
holders_at n slots = option_map_or (λ (slot : Slot). slot.holders) (slice_get slots n) []

-- the phase of a name: that of its live or dying slot, else Gone where it had a slot
abbrev pub phase_of : List ℕ → List Slot → Option Phase
phase_of name slots = option_or (option_and_then (λ n. phase_at n slots) (slot_of name slots)) (if list_any (is_named name) slots then Some Gone else None)

-- the holder refers to a name's live or dying slot
abbrev pub has_slot_of : List ℕ → Holder → List Slot → Bool
has_slot_of name holder slots = option_map_or (λ n. refers holder (holders_at n slots)) (slot_of name slots) false

-- At most one slot of a name is live or dying, nobody refers to a gone one, and no holder stands twice in one.
pub record IsRegistry (slots : List Slot) : Type 0 where
  pub few : length slots ≤ slot_limit
  pub one : (name : List ℕ) → count_by (is_of name) slots ≤ 1
  pub gone : All (λ (slot : Slot). slot.phase ≡ Gone → slot.holders ≡ []) slots
  pub distinct : All (λ (slot : Slot). IsDistinct same_holder slot.holders) slots
