-- Ways and cycles of a relation between owners, and the least way back.
use Rattle.std.proofs.Common.{◌≡◌, ℕ, ◌≤◌, List, [], ◌∷◌, ◌++◌, Bool, true, false, ◌==◌, Some, refl, sym, subst, inl, inr, eqb-true, ne_eqb, eq-or-lt_of_le}
use Rattle.std.proofs.lemmas.Bool.{cases_Bool, or_cases, or_parts, or_from, both_ways, false_from_ne_true}
use Rattle.row_locks.specs.Queues.{among, first}
use Rattle.row_locks.specs.Cycles.{AreDistinct, Leads, IsCycle, NotAfter, IsLeastCycle, NoneBegins}
use Rattle.row_locks.specs.Inside.{Reach, GoesBack}
use Rattle.row_locks.proofs.ListLemmas.{split_at, distinct_front, distinct_swapped}

-- no cycle stands
abbrev pub NoCycle : (ℕ → ℕ → Bool) → Type 0
NoCycle E = (cycle : List ℕ) → IsCycle E cycle → ⊥

-- this owner waits for nobody
abbrev pub IsIdle : (ℕ → ℕ → Bool) → ℕ → Type 0
IsIdle E o = (b : ℕ) → E o b ≡ false

pub leads_within : (E D : ℕ → ℕ → Bool) → ((a b : ℕ) → E a b ≡ true → D a b ≡ true) → (a z : ℕ) (way : List ℕ) → Leads E a way z → Leads D a way z
leads_within E D within a z [] h = within a z h
leads_within E D within a z (b ∷ way) h = (within a b h.0, leads_within E D within b z way h.1)

-- A relation within one that has no cycle has none.
pub no_cycle_within : (E D : ℕ → ℕ → Bool) → ((a b : ℕ) → E a b ≡ true → D a b ≡ true) → NoCycle D → NoCycle E
no_cycle_within E D within none [] h = h
no_cycle_within E D within none (a ∷ way) h = none (a ∷ way) (h.0, leads_within E D within a a way h.1)

pub leads_split : (E : ℕ → ℕ → Bool) (a b z : ℕ) (us vs : List ℕ) → Leads E a (us ++ b ∷ vs) z → Leads E a us b × Leads E b vs z
leads_split E a b z [] vs h = h
leads_split E a b z (u ∷ us) vs h = let rest = leads_split E u b z us vs h.1 in ((h.0, rest.0), rest.1)

pub leads_joined : (E : ℕ → ℕ → Bool) (a b z : ℕ) (us vs : List ℕ) → Leads E a us b → Leads E b vs z → Leads E a (us ++ b ∷ vs) z
leads_joined E a b z [] vs h k = (h, k)
leads_joined E a b z (u ∷ us) vs h k = (h.0, leads_joined E u b z us vs h.1 k)

-- Who is on a way waits for somebody.
pub not_idle : (E : ℕ → ℕ → Bool) (o a z : ℕ) (way : List ℕ) → IsIdle E o → Leads E a way z → (a == o) ≡ false
not_idle E o a z [] idle h = ne_eqb a o (λ e. both_ways (E o z) (idle z) (subst (λ b. E b z ≡ true) e h))
not_idle E o a z (b ∷ way) idle h = ne_eqb a o (λ e. both_ways (E o b) (idle b) (subst (λ c. E c b ≡ true) e h.0))

pub not_on_way : (E : ℕ → ℕ → Bool) (o a z : ℕ) (way : List ℕ) → IsIdle E o → Leads E a way z → among o (a ∷ way) ≡ false
not_on_way E o a z [] idle h = or_from (a == o) false (not_idle E o a z [] idle h) refl
not_on_way E o a z (b ∷ way) idle h = or_from (a == o) (among o (b ∷ way)) (not_idle E o a z (b ∷ way) idle h) (not_on_way E o b z way idle h.1)

-- Where no cycle stands, nobody is twice on a way.
pub distinct_way : (E : ℕ → ℕ → Bool) (a z : ℕ) (way : List ℕ) → NoCycle E → Leads E a way z → AreDistinct (a ∷ way)
distinct_way E a z [] none h = (refl, tt)
distinct_way E a z (b ∷ way) none h =
    let rest = distinct_way E b z way none h.1 in (
      false_from_ne_true (among a (b ∷ way)) (λ again.
          let at = split_at a (b ∷ way) again in
          let way_to : Leads E a (at.0 ++ a ∷ at.1) z = subst (λ l. Leads E a l z) at.2 h in
          none (a ∷ at.0) (distinct_front at.0 at.1 a (subst AreDistinct at.2 rest), (leads_split E a a z at.0 at.1 way_to).0)),
      rest,
    )

-- A cycle with an owner can begin with it.
pub turned : (E : ℕ → ℕ → Bool) (o : ℕ) (cycle : List ℕ) → IsCycle E cycle → among o cycle ≡ true → (way : List ℕ) × IsCycle E (o ∷ way)
turned E o [] h m = absurd h
turned E o (a ∷ way) h m = elim (or_cases (a == o) (among o way) m) [
  | inl here ↦ (way, subst (λ b. IsCycle E (b ∷ way)) (eqb-true a o here) h)
  | inr later ↦
      let at = split_at o way later in
      let d : AreDistinct (a ∷ (at.0 ++ o ∷ at.1)) = subst (λ l. AreDistinct (a ∷ l)) at.2 h.0 in
      let l : Leads E a (at.0 ++ o ∷ at.1) a = subst (λ w. Leads E a w a) at.2 h.1 in
      let parts = leads_split E a o a at.0 at.1 l in
      (at.1 ++ a ∷ at.0, (distinct_swapped (a ∷ at.0) (o ∷ at.1) d, leads_joined E o a o at.1 at.0 parts.1 parts.0))
]

-- Ways of a relation that has more only from one owner, and which it is not on.
leads_but_from : (F E : ℕ → ℕ → Bool) (o : ℕ) → ((a b : ℕ) → F a b ≡ true → (a == o) ≡ false → E a b ≡ true) → (a z : ℕ) (way : List ℕ) → among o (a ∷ way) ≡ false
    → Leads F a way z → Leads E a way z
leads_but_from F E o but a z [] apart h = but a z h (or_parts (a == o) false apart).0
leads_but_from F E o but a z (b ∷ way) apart h =
    let parts = or_parts (a == o) (among o (b ∷ way)) apart in
    (but a b h.0 parts.0, leads_but_from F E o but b z way parts.1 h.1)

-- If no cycle stood and none begins with the owner that waits now, none stands.
pub no_cycle_with_wait : (F E : ℕ → ℕ → Bool) (o : ℕ) → ((a b : ℕ) → F a b ≡ true → (a == o) ≡ false → E a b ≡ true) → NoCycle E → NoneBegins F o → NoCycle F
no_cycle_with_wait F E o but none begins [] h = h
no_cycle_with_wait F E o but none begins (a ∷ way) h = elim (cases_Bool (among o (a ∷ way))) [
  | inl on ↦ let from = turned F o (a ∷ way) h on in begins (o ∷ from.0) from.1 refl
  | inr off ↦ none (a ∷ way) (h.0, leads_but_from F E o but a a way off h.1)
]

-- Ways of a relation that has more only to one owner, which waits for nobody.
leads_but_to : (F E : ℕ → ℕ → Bool) (o : ℕ) → ((a b : ℕ) → F a b ≡ true → (b == o) ≡ false → E a b ≡ true) → IsIdle F o → (a z : ℕ) (way : List ℕ) → (z == o) ≡ false
    → Leads F a way z → Leads E a way z
leads_but_to F E o but idle a z [] ends h = but a z h ends
leads_but_to F E o but idle a z (b ∷ way) ends h =
    (but a b h.0 (not_idle F o b z way idle h.1), leads_but_to F E o but idle b z way ends h.1)

-- If no cycle stood, none stands behind a grant to an owner that waits for nobody.
pub no_cycle_with_lock : (F E : ℕ → ℕ → Bool) (o : ℕ) → ((a b : ℕ) → F a b ≡ true → (b == o) ≡ false → E a b ≡ true) → IsIdle F o → NoCycle E → NoCycle F
no_cycle_with_lock F E o but idle none [] h = h
no_cycle_with_lock F E o but idle none (a ∷ way) h =
    none (a ∷ way) (h.0, leads_but_to F E o but idle a a way (not_idle F o a a way idle h.1) h.1)

-- Who is on a way to the last owner reaches it.
pub reached_from : (E : ℕ → ℕ → Bool) (reached : List ℕ) (o a : ℕ) (way : List ℕ) → Reach E reached o → Leads E a way o → among a reached ≡ true
reached_from E reached o a [] reach h = reach.direct a h
reached_from E reached o a (b ∷ way) reach h = reach.closed a b h.0 (reached_from E reached o b way reach h.1)

pub goes_back-Leads : (E : ℕ → ℕ → Bool) (reached : List ℕ) (o a : ℕ) (way : List ℕ) → GoesBack E reached o a way → Leads E a way o
goes_back-Leads E reached o a [] h = h
goes_back-Leads E reached o a (b ∷ way) h = (h.0.waits_for, goes_back-Leads E reached o b way h.1)

-- of two owners, the lesser or the same
lesser_first : (a b : ℕ) (xs ys : List ℕ) → a ≤ b → (a ≡ b → NotAfter xs ys) → NotAfter (a ∷ xs) (b ∷ ys)
lesser_first a b xs ys le same = elim (eq-or-lt_of_le le) [ inl e ↦ inr (e, same e) | inr lt ↦ inl lt ]

-- The way back is the least of all ways back.
pub goes_back_least : (E : ℕ → ℕ → Bool) (reached : List ℕ) (o a : ℕ) (way other : List ℕ) → Reach E reached o → GoesBack E reached o a way → Leads E a other o → NotAfter way other
goes_back_least E reached o a [] other reach g h = tt
goes_back_least E reached o a (b ∷ way) [] reach g h = absurd (both_ways (E a o) g.0.not_last h)
goes_back_least E reached o a (b ∷ way) (c ∷ other) reach g h =
    lesser_first b c way other (g.0.least c h.0 (reached_from E reached o c other reach h.1))
    (λ same. goes_back_least E reached o b way other reach g.1 (subst (λ x. Leads E x other o) (sym same) h.1))

-- what the relation with a wait more has to do with that before: more only from its owner, who waited for nobody and does not wait for itself
pub record IsMoreFrom (F E : ℕ → ℕ → Bool) (o : ℕ) : Type 0 where
  pub kept : (a b : ℕ) → E a b ≡ true → F a b ≡ true
  pub only : (a b : ℕ) → F a b ≡ true → (a == o) ≡ false → E a b ≡ true
  pub was_idle : IsIdle E o
  pub not_itself : F o o ≡ false

-- A cycle that begins with the owner goes on with one for whom it waits and that reaches it.
pub goes_on : (F E : ℕ → ℕ → Bool) (reached : List ℕ) (o : ℕ) (way : List ℕ) → IsMoreFrom F E o → Reach E reached o → IsCycle F (o ∷ way)
    → (b : ℕ) × (rest : List ℕ) × (way ≡ b ∷ rest) × (F o b ≡ true) × (among b reached ≡ true) × Leads E b rest o
goes_on F E reached o [] more reach h = absurd (both_ways (F o o) more.not_itself h.1)
goes_on F E reached o (b ∷ rest) more reach h =
    let old = leads_but_from F E o more.only b o rest h.0.0 h.1.1 in
    (b, rest, refl, h.1.0, reached_from E reached o b rest reach old, old)

-- Where it waits for nobody that reaches it, no cycle begins with it.
pub none_begins : (F E : ℕ → ℕ → Bool) (reached : List ℕ) (o : ℕ) → IsMoreFrom F E o → Reach E reached o → ((b : ℕ) → F o b ≡ true → among b reached ≡ false) → NoneBegins F o
none_begins F E reached o more reach none [] h from = h
none_begins F E reached o more reach none (a ∷ way) h from =
    let same : a ≡ o = cc in
    let next = goes_on F E reached o way more reach (subst (λ x. IsCycle F (x ∷ way)) same h) in
    both_ways (among next.0 reached) (none next.0 next.3) next.4

least_from : (F E : ℕ → ℕ → Bool) (reached : List ℕ) (o start : ℕ) (way other : List ℕ) → IsMoreFrom F E o → Reach E reached o → ((b : ℕ) → F o b ≡ true → among b reached ≡ true → start ≤ b)
    → GoesBack E reached o start way → IsCycle F other → first other ≡ Some o → NotAfter (o ∷ start ∷ way) other
least_from F E reached o start way [] more reach least g h from = absurd h
least_from F E reached o start way (a ∷ other) more reach least g h from =
    let same : a ≡ o = cc in
    let next = goes_on F E reached o other more reach (subst (λ x. IsCycle F (x ∷ other)) same h) in
    inr (
      sym same,
      subst (NotAfter (start ∷ way)) (sym next.2)
          (lesser_first start next.0 way next.1 (least next.0 next.3 next.4)
          (λ e. goes_back_least E reached o start way next.1 reach g (subst (λ x. Leads E x next.1 o) (sym e) next.5))),
    )

-- Begun with the least owner for whom it waits and that reaches it, the way back makes the least cycle.
pub least_cycle_from : (F E : ℕ → ℕ → Bool) (reached : List ℕ) (o start : ℕ) (way : List ℕ) → NoCycle E → IsMoreFrom F E o → Reach E reached o → F o start ≡ true
    → ((b : ℕ) → F o b ≡ true → among b reached ≡ true → start ≤ b) → GoesBack E reached o start way → IsLeastCycle F o (o ∷ start ∷ way)
least_cycle_from F E reached o start way none more reach waits least g =
    let back = goes_back-Leads E reached o start way g in
    record {
      stands = ((not_on_way E o start o way more.was_idle back, distinct_way E start o way none back), (waits, leads_within E F more.kept start o way back));
      begins = refl;
      least = λ other h from. least_from F E reached o start way other more reach least g h from;
    }
