-- A slot is read and written by its number.
use Rattle.std.proofs.Common.{◌≡◌, ℕ, zero, suc, ◌<◌, ◌≤◌, List, [], ◌∷◌, ◌++◌, Some, refl, ap, ◌∙◌, arith, length, get_or, set}
use Rattle.std.specs.Prelude.{option_map}
use Rattle.std.specs.Option.{option_map_or}
use Rattle.std.proofs.lemmas.Option.{slice_get_read}
use Rattle.plugin_registry.specs.declared.slot.Phase.TheVariants.{Live}
use Rattle.plugin_registry.specs.declared.holder.Holder.{Holder}
use Rattle.plugin_registry.specs.Registry.{Slot, phase_at, holders_at}
use Rattle.plugin_registry.specs.Calls.{at_slot, after_install}

-- The slot that stands at a number is written.
pub at_slot-set : (slots : List Slot) (n : ℕ) (make : Slot → Slot) (slot new : Slot) → n < length slots → slot ≡ get_or slots n slot → new ≡ make slot → set slots n new ≡ at_slot n make slots
at_slot-set [] n make slot new within at is = absurd (omega arith)
at_slot-set (s ∷ ss) zero make slot new within at is = ap (λ (x : Slot). x ∷ ss) (is ∙ ap make at)
at_slot-set (s ∷ ss) (suc n) make slot new within at is = ap (λ (xs : List Slot). s ∷ xs) (at_slot-set ss n make slot new (omega arith) at is)

-- Where none stands, nothing is.
pub at_slot-past : (slots : List Slot) (n : ℕ) (make : Slot → Slot) → length slots ≤ n → at_slot n make slots ≡ slots
at_slot-past [] n make past = refl
at_slot-past (s ∷ ss) zero make past = absurd (omega arith)
at_slot-past (s ∷ ss) (suc n) make past = ap (λ (xs : List Slot). s ∷ xs) (at_slot-past ss n make (omega arith))

-- The phase of a number is that of the slot that stands there.
pub phase_at-there : (slots : List Slot) (n : ℕ) (slot : Slot) → n < length slots → slot ≡ get_or slots n slot → phase_at n slots ≡ Some slot.phase
phase_at-there slots n slot within at = ap (option_map (λ (s : Slot). s.phase)) (slice_get_read slots (length slots) n slot refl within at)

-- So are those who refer to it.
pub holders_at-there : (slots : List Slot) (n : ℕ) (slot : Slot) → n < length slots → slot ≡ get_or slots n slot → holders_at n slots ≡ slot.holders
holders_at-there slots n slot within at = ap (λ o. option_map_or (λ (s : Slot). s.holders) o []) (slice_get_read slots (length slots) n slot refl within at)

-- One live slot more of a name, to which nobody refers, is what an install leaves.
pub after_install-push : (name given : List ℕ) (nobody : List Holder) (slots new : List Slot) → given ≡ name → nobody ≡ []
    → new ≡ slots ++ record { name = given; phase = Live; holders = nobody } ∷ [] → new ≡ after_install name slots
after_install-push name given nobody slots new is none pushed =
    pushed
    ∙ ap (λ (n : List ℕ). slots ++ record { name = n; phase = Live; holders = nobody } ∷ []) is
    ∙ ap (λ (hs : List Holder). slots ++ record { name = name; phase = Live; holders = hs } ∷ []) none
