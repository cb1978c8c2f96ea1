-- What each call answers, from the slot that it finds.
use Rattle.std.proofs.Common.{◌≡◌, ◌≢◌, ◌⊎◌, ℕ, ◌<◌, List, Bool, true, false, Some, None, refl, sym, ap, subst, ◌∙◌, inl, inr, length, get_or, set, IsTrue}
use Rattle.plugin_registry.specs.declared.slot.Phase.{Phase}
use Rattle.plugin_registry.specs.declared.slot.Phase.TheVariants.{Live, Dying, Gone}
use Rattle.plugin_registry.specs.declared.holder.Holder.{Holder}
use Rattle.plugin_registry.specs.Holders.{refers}
use Rattle.plugin_registry.specs.Registry.{Slot, slot_limit, is_current, slot_of, phase_at, holders_at, phase_of, has_slot_of}
use Rattle.plugin_registry.specs.Calls.{got_by, in_phase, after_install, Installs, Gets, Uninstalls}
use Rattle.plugin_registry.proofs.SlotLemmas.{at_slot-set, phase_at-there, holders_at-there}
use Rattle.plugin_registry.proofs.FindLemmas.{found, phase_of-found, has_slot_of-found, current-found}

-- A name without a live or dying slot gets the next one, in a list that is the registry's.
pub installs : (name : List ℕ) (slots now next : List Slot) (n : ℕ) → slots ≡ now → length slots < slot_limit → slot_of name now ≡ None
    → n ≡ length slots → next ≡ after_install name slots → Installs name n now next
installs name slots now next n same room free number after =
    subst (λ (s : List Slot). Installs name n s next) same (record {
      number = number;
      room = subst (λ k. k < slot_limit) (sym number) room;
      free = ap (slot_of name) same ∙ free;
      after = after;
    })

-- A holder gets the slot that a name finds.
pub gets : (name : List ℕ) (holder : Holder) (slots : List Slot) (i : ℕ) (old new : Slot) → slot_of name slots ≡ Some i → old ≡ get_or slots i old
    → new ≡ got_by holder old → (old.phase ≡ Live) ⊎ (refers holder old.holders ≡ true) → Gets name holder i slots (set slots i new)
gets name holder slots i old new is at becomes allowed =
    let within = (found name slots i old is at).0 in
    record {
      slot = is;
      allowed = at_its_place (phase_at-there slots i old within at) (holders_at-there slots i old within at) allowed;
      after = at_slot-set slots i (got_by holder) old new within at becomes;
    }
  where
    at_its_place : phase_at i slots ≡ Some old.phase → holders_at i slots ≡ old.holders → (old.phase ≡ Live) ⊎ (refers holder old.holders ≡ true)
        → (phase_at i slots ≡ Some Live) ⊎ (refers holder (holders_at i slots) ≡ true)
    at_its_place phase holders (inl live) = inl (phase ∙ ap (λ (p : Phase). Some p) live)
    at_its_place phase holders (inr held) = inr (ap (refers holder) holders ∙ held)

-- Who may get the slot is not told that its name is unknown.
pub not_unknown : (name : List ℕ) (holder : Holder) (slots : List Slot) (i : ℕ) (slot : Slot) → slot_of name slots ≡ Some i → slot ≡ get_or slots i slot
    → (slot.phase ≡ Live) ⊎ (refers holder slot.holders ≡ true) → (phase_of name slots ≢ Some Live) × (has_slot_of name holder slots ≡ false) → ⊥
not_unknown name holder slots i slot is at (inl live) unknown = unknown.0 (phase_of-found name slots i slot is at ∙ ap (λ (p : Phase). Some p) live)
not_unknown name holder slots i slot is at (inr held) unknown = apart (sym unknown.1 ∙ has_slot_of-found name holder slots i slot is at ∙ held)
  where
    apart : false ≡ true → ⊥
    apart e = cc

-- a live or dying slot that is not dying
live : (phase : Phase) → is_current phase ≡ true → phase ≢ Dying → phase ≡ Live
live Live current other = refl
live Dying current other = absurd (other refl)
live Gone current other = cc

-- The uninstall of the slot that a name finds, which is not dying.
pub uninstalls : (name : List ℕ) (slots : List Slot) (i : ℕ) (old : Slot) → slot_of name slots ≡ Some i → old ≡ get_or slots i old → old.phase ≢ Dying
    → Uninstalls name i slots (set slots i (in_phase Dying old))
uninstalls name slots i old is at other =
    let within = (found name slots i old is at).0 in
    record {
      slot = is;
      live = phase_at-there slots i old within at ∙ ap (λ (p : Phase). Some p) (live old.phase (current-found name slots i old is at) other);
      after = at_slot-set slots i (in_phase Dying) old (in_phase Dying old) within at refl;
    }

-- A name is live whose slot, found in a list that is the registry's, is not dying.
pub told_live : (name : List ℕ) (slots now : List Slot) (i : ℕ) (slot : Slot) → slots ≡ now → slot_of name slots ≡ Some i → slot ≡ get_or slots i slot
    → slot.phase ≢ Dying → phase_of name now ≡ Some Live
told_live name slots now i slot same is at other =
    ap (phase_of name) (sym same) ∙ phase_of-found name slots i slot is at ∙ ap (λ (p : Phase). Some p) (live slot.phase (current-found name slots i slot is at) other)

-- It is dying where that slot is.
pub told_dying : (name : List ℕ) (slots now : List Slot) (i : ℕ) (slot : Slot) → slots ≡ now → slot_of name slots ≡ Some i → slot ≡ get_or slots i slot
    → slot.phase ≡ Dying → phase_of name now ≡ Some Dying
told_dying name slots now i slot same is at dying = ap (phase_of name) (sym same) ∙ phase_of-found name slots i slot is at ∙ ap (λ (p : Phase). Some p) dying

-- What a test that failed says.
pub fails : (b : Bool) (P : Type 0) → b ≡ false → (P → IsTrue b) → P → ⊥
fails true P e h p = cc
fails false P e h p = apart (h p)
  where
    apart : false ≡ true → ⊥
    apart k = cc
