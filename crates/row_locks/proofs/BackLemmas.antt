-- The way back to the last owner, one step after the other.
use Rattle.std.proofs.Common.{◌≡◌, ℕ, ◌+◌, ◌≤◌, List, [], ◌∷◌, ◌++◌, length, Bool, true, false, ◌==◌, ap, subst, ◌∙◌, inl, inr, arith, append_assoc, length-append, eqb-true}
use Rattle.std.proofs.lemmas.Bool.{or_cases}
use Rattle.row_locks.specs.Queues.{Locks, owners, among, waits_for}
use Rattle.row_locks.specs.Cycles.{Leads}
use Rattle.row_locks.specs.Inside.{IsNext, GoesBack}
use Rattle.row_locks.proofs.ListLemmas.{no, not_more}
use Rattle.row_locks.proofs.WayLemmas.{NoCycle, distinct_way}
use Rattle.row_locks.proofs.QueueLemmas.{has_wait, length_owners}

-- these lead to an owner
abbrev pub LeadTo : (ℕ → ℕ → Bool) → List ℕ → ℕ → Type 0
LeadTo E [] z = Unit {0}
LeadTo E (a ∷ way) z = Leads E a way z

-- What holds on the way: it leads from the start to an owner that reaches the last one, and a way back from there is a way back from the start.
pub record IsOnWay (E : ℕ → ℕ → Bool) (reached : List ℕ) (last start at : ℕ) (way : List ℕ) : Type 0 where
  pub before : List ℕ
  pub made : way ≡ last ∷ (before ++ at ∷ [])
  pub leads : LeadTo E before at
  pub here : among at reached ≡ true
  pub back : (rest : List ℕ) → GoesBack E reached last at rest → (all : List ℕ) × (before ++ at ∷ rest ≡ start ∷ all) × GoesBack E reached last start all

lead_push : (E : ℕ → ℕ → Bool) (before : List ℕ) (at next : ℕ) → LeadTo E before at → E at next ≡ true → LeadTo E (before ++ at ∷ []) next
lead_push E [] at next h e = e
lead_push E (a ∷ way) at next h e = go a way h
  where
    go : (a : ℕ) (way : List ℕ) → Leads E a way at → Leads E a (way ++ at ∷ []) next
    go a [] h = (h, e)
    go a (b ∷ way) h = (h.0, go b way h.1)

pub on_way_more : (E : ℕ → ℕ → Bool) (reached : List ℕ) (last start at next : ℕ) (way new : List ℕ) → new ≡ way ++ next ∷ [] → IsNext E reached last at next
    → IsOnWay E reached last start at way → IsOnWay E reached last start next new
on_way_more E reached last start at next way new added step on = record {
  before = on.before ++ at ∷ [];
  made = added ∙ ap (λ l. l ++ next ∷ []) on.made;
  leads = lead_push E on.before at next on.leads step.waits_for;
  here = step.reaches;
  back = λ rest g.
      let from = on.back (next ∷ rest) (step, g) in
      (from.0, append_assoc on.before (at ∷ []) (next ∷ rest) ∙ from.1, from.2);
}

sources_wait : (locks : Locks) (a z : ℕ) (way : List ℕ) → Leads (waits_for locks) a way z → (x : ℕ) → among x (a ∷ way) ≡ true → among x (owners locks.waits) ≡ true
sources_wait locks a z [] h x in' = elim (or_cases (a == x) false in') [
  | inl this ↦ subst (λ y. among y (owners locks.waits) ≡ true) (eqb-true a x this) (has_wait locks a z h)
  | inr none ↦ no none
]
sources_wait locks a z (b ∷ way) h x in' = elim (or_cases (a == x) (among x (b ∷ way)) in') [
  | inl this ↦ subst (λ y. among y (owners locks.waits) ≡ true) (eqb-true a x this) (has_wait locks a b h.0)
  | inr later ↦ sources_wait locks b z way h.1 x later
]

short : (locks : Locks) (before : List ℕ) (at : ℕ) → NoCycle (waits_for locks) → LeadTo (waits_for locks) before at → length before ≤ length locks.waits
short locks [] at none leads = omega arith
short locks (a ∷ way) at none leads =
    omega (arith, not_more (a ∷ way) (owners locks.waits) (distinct_way (waits_for locks) a at way none leads) (sources_wait locks a at way leads), length_owners locks.waits)

-- The way is not longer than there are waits, but for its ends.
pub way_short : (locks : Locks) (reached : List ℕ) (last start at : ℕ) (way : List ℕ) → NoCycle (waits_for locks) → IsOnWay (waits_for locks) reached last start at way
    → length way ≤ length locks.waits + 2
way_short locks reached last start at way none on =
    omega (arith, short locks on.before at none on.leads, ap length on.made, length-append on.before (at ∷ []))

-- Where an owner waits for the last one, the way ends.
pub way_done : (E : ℕ → ℕ → Bool) (reached : List ℕ) (last start at : ℕ) (way : List ℕ) → E at last ≡ true → IsOnWay E reached last start at way
    → (rest : List ℕ) × (way ≡ last ∷ start ∷ rest) × GoesBack E reached last start rest
way_done E reached last start at way ends on =
    let from = on.back [] ends in
    (from.0, on.made ∙ ap (λ l. last ∷ l) from.1, from.2)
