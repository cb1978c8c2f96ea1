-- What does each call make of a registry? (This project.)
use Rattle.std.specs.Prelude.{◌≡◌, ◌<◌, ◌⊎◌, ℕ, zero, suc, List, [], ◌∷◌, ◌++◌, Some, None, true, length}
use Rattle.plugin_registry.specs.declared.slot.Phase.{Phase}
use Rattle.plugin_registry.specs.declared.slot.Phase.TheVariants.{Live, Dying, Gone}
use Rattle.plugin_registry.specs.declared.holder.Holder.{Holder}
use Rattle.plugin_registry.specs.Holders.{refers, with_holder, without_holder}
use Rattle.plugin_registry.specs.Registry.{Slot, slot_limit, slot_of, phase_at, holders_at}

-- the slot when the holder has got it
abbrev pub got_by : Holder → Slot → Slot
got_by holder slot = record slot { holders = with_holder holder slot.holders }

-- the slot when the holder has left it
abbrev pub left_by : Holder → Slot → Slot
left_by holder slot = record slot { holders = without_holder holder slot.holders }

-- the slot in another phase
abbrev pub in_phase : Phase → Slot → Slot
in_phase phase slot = record slot { phase = phase }

-- the slot of a number is replaced by what is made of it; where none was used, nothing is
abbrev pub at_slot : ℕ → (Slot → Slot) → List Slot → List Slot
at_slot n make [] = []
at_slot zero make (slot ∷ slots) = make slot ∷ slots
at_slot (suc n) make (slot ∷ slots) = slot ∷ at_slot n make slots

-- one slot more, live, to which nobody refers
abbrev pub after_install : List ℕ → List Slot → List Slot
after_install name slots = slots ++ record { name = name; phase = Live; holders = [] } ∷ []

-- the holder refers to the slot
abbrev pub after_get : ℕ → Holder → List Slot → List Slot
after_get n holder slots = at_slot n (got_by holder) slots

-- the holder does not refer to the slot
abbrev pub after_leave : ℕ → Holder → List Slot → List Slot
after_leave n holder slots = at_slot n (left_by holder) slots

-- the slot is dying
abbrev pub after_uninstall : ℕ → List Slot → List Slot
after_uninstall n slots = at_slot n (in_phase Dying) slots

-- the slot is gone
abbrev pub after_reap : ℕ → List Slot → List Slot
after_reap n slots = at_slot n (in_phase Gone) slots

-- A name without a live or dying slot gets the next slot, the lowest that was never used.
pub record Installs (name : List ℕ) (n : ℕ) (old new : List Slot) : Type 0 where
  pub number : n ≡ length old
  pub room : n < slot_limit
  pub free : slot_of name old ≡ None
  pub after : new ≡ after_install name old

-- A holder gets a name's slot, which is live, or which it had before.
pub record Gets (name : List ℕ) (holder : Holder) (n : ℕ) (old new : List Slot) : Type 0 where
  pub slot : slot_of name old ≡ Some n
  pub allowed : (phase_at n old ≡ Some Live) ⊎ (refers holder (holders_at n old) ≡ true)
  pub after : new ≡ after_get n holder old

-- A name's slot, which was live, is dying.
pub record Uninstalls (name : List ℕ) (n : ℕ) (old new : List Slot) : Type 0 where
  pub slot : slot_of name old ≡ Some n
  pub live : phase_at n old ≡ Some Live
  pub after : new ≡ after_uninstall n old
