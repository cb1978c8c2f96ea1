-- The same steps over all engines: one of them takes it, and the others stay.
use Rattle.std.proofs.Common.{◌≡◌, ℕ, zero, suc, ◌≤◌, ◌<◌, List, [], ◌∷◌, ◌++◌, Some, None, refl, sym, ap, subst, ◌∙◌, arith, length, get_or, set, inl, inr}
use Rattle.std.specs.Prelude.{slice_get, All, not}
use Rattle.std.proofs.lemmas.List.{length-append}
use Rattle.std.proofs.lemmas.List.Elements.{All-filter, All-set, All-push}
use Rattle.row_format.specs.declared.change.Transaction.{Transaction}
use Rattle.log_tables.specs.declared.gist.Prepared.{Prepared}
use Rattle.log_tables.specs.declared.gist.Gist.{Gist}
use Rattle.log_tables.specs.Gists.{has_xid, after_commit, after_rollback, after_prepare, empty_gist}
use Rattle.recovery_rules.specs.Places.{share_at, IsDistinct, IsNew}
use Rattle.recovery_rules.specs.Trails.{Trails, IsAtLog, IsNext, IsReady}
use Rattle.recovery_rules.specs.Recovery.{ShelfEngine, SafeEngine, standing_for, Suits, IsRecoverable, IsRecovered, StandsAt}
use Rattle.recovery_rules.proofs.TrailsLemmas.{Trails-after_commit, Trails-after_rollback, Trails-after_prepare, Trails-append, Trails-cut, Trails-empty, IsAtLog-none_prepared, before_end, in_longer}

-- what holds of all holds of the one at a place
pub at_place_of : {X : Type 0} (P : X → Type 0) (xs : List X) (i : ℕ) (x : X) → slice_get xs i ≡ Some x → All P xs → P x
at_place_of P [] i x at all = absurd (none at)
  where
    none : {Y : Type 0} {a : Y} → None ≡ Some a → ⊥
    none q = cc
at_place_of P (y ∷ xs) zero x at all = subst P (same at) (all 0 y (omega arith))
  where
    same : {Y : Type 0} {a b : Y} → Some a ≡ Some b → a ≡ b
    same q = cc
at_place_of P (y ∷ xs) (suc i) x at all = at_place_of P xs i x at (λ k d h. all (suc k) d (omega (arith, h)))

-- One engine goes on to another gist that trails the log.
pub IsRecoverable-set : (shelf : List ShelfEngine) (log : List Transaction) (engines : List SafeEngine) (i : ℕ) (it : SafeEngine) (gist : Gist)
    → IsRecoverable shelf log engines → Trails it.engine log gist → All (λ p. Suits it.engine it.allows p.changes) gist.prepared
    → IsRecoverable shelf log (set engines i (standing_for it gist))
IsRecoverable-set shelf log engines i it gist r trails suits = record {
  distinct = r.distinct;
  trails = All-set (λ x. Trails x.engine log x.gist) engines i (standing_for it gist) trails r.trails;
  log_suits = r.log_suits;
  prepared_suits = All-set (λ (x : SafeEngine). All (λ p. Suits x.engine x.allows p.changes) x.gist.prepared) engines i (standing_for it gist) suits r.prepared_suits;
}

pub IsRecoverable-after_commit : (shelf : List ShelfEngine) (log : List Transaction) (engines : List SafeEngine) (i : ℕ) (engine : SafeEngine) (place : ℕ) (it : Transaction)
    → IsRecoverable shelf log engines → StandsAt engines i engine → IsNext engine.engine log engine.gist place it
    → IsRecoverable shelf log (set engines i (standing_for engine (after_commit (share_at engine.engine log place it) (suc place) engine.gist)))
IsRecoverable-after_commit shelf log engines i engine place it r at next =
    IsRecoverable-set shelf log engines i engine (after_commit (share_at engine.engine log place it) (suc place) engine.gist) r
    (Trails-after_commit engine.engine log engine.gist place it r.distinct (at_place_of (λ x. Trails x.engine log x.gist) engines i engine at r.trails) next)
    (All-filter (λ p. not (has_xid it.xid p)) (λ p. Suits engine.engine engine.allows p.changes) engine.gist.prepared
    (at_place_of (λ (x : SafeEngine). All (λ p. Suits x.engine x.allows p.changes) x.gist.prepared) engines i engine at r.prepared_suits))

pub IsRecoverable-after_rollback : (shelf : List ShelfEngine) (log : List Transaction) (engines : List SafeEngine) (i : ℕ) (engine : SafeEngine) (xid : ℕ)
    → IsRecoverable shelf log engines → StandsAt engines i engine → IsNew xid log
    → IsRecoverable shelf log (set engines i (standing_for engine (after_rollback xid engine.gist)))
IsRecoverable-after_rollback shelf log engines i engine xid r at new =
    IsRecoverable-set shelf log engines i engine (after_rollback xid engine.gist) r
    (Trails-after_rollback engine.engine log engine.gist xid new (at_place_of (λ x. Trails x.engine log x.gist) engines i engine at r.trails))
    (All-filter (λ p. not (has_xid xid p)) (λ p. Suits engine.engine engine.allows p.changes) engine.gist.prepared
    (at_place_of (λ (x : SafeEngine). All (λ p. Suits x.engine x.allows p.changes) x.gist.prepared) engines i engine at r.prepared_suits))

pub IsRecoverable-after_prepare : (shelf : List ShelfEngine) (log : List Transaction) (engines : List SafeEngine) (i : ℕ) (engine : SafeEngine) (share : Prepared)
    → IsRecoverable shelf log engines → StandsAt engines i engine → IsNew share.xid log → Suits engine.engine engine.allows share.changes
    → IsRecoverable shelf log (set engines i (standing_for engine (after_prepare share engine.gist)))
IsRecoverable-after_prepare shelf log engines i engine share r at new suits =
    IsRecoverable-set shelf log engines i engine (after_prepare share engine.gist) r
    (Trails-after_prepare engine.engine log engine.gist share new (at_place_of (λ x. Trails x.engine log x.gist) engines i engine at r.trails))
    (All-push (λ (p : Prepared). Suits engine.engine engine.allows p.changes) engine.gist.prepared share
    (at_place_of (λ (x : SafeEngine). All (λ p. Suits x.engine x.allows p.changes) x.gist.prepared) engines i engine at r.prepared_suits) suits)

-- a longer log has no xid twice where the new one is new
distinct-append : (log : List Transaction) (it : Transaction) → IsNew it.xid log → IsDistinct log → IsDistinct (log ++ it ∷ [])
distinct-append log it new d = record {
  same_place = λ i j a b p q e. elim (in_longer log it a i p) [
    | inl x ↦ elim (in_longer log it b j q) [
      | inl y ↦ d.same_place i j a b x y e
      | inr y ↦ absurd (new.unlike i a x (e ∙ sym (ap (λ (t : Transaction). t.xid) y.1)))
    ]
    | inr x ↦ elim (in_longer log it b j q) [
      | inl y ↦ absurd (new.unlike j b y (sym e ∙ sym (ap (λ (t : Transaction). t.xid) x.1)))
      | inr y ↦ x.0 ∙ sym y.0
    ]
  ];
}

pub IsRecoverable-append : (shelf : List ShelfEngine) (log : List Transaction) (engines : List SafeEngine) (it : Transaction)
    → IsRecoverable shelf log engines → IsNew it.xid log → All (λ x. IsReady x.engine log it x.gist) engines → All (λ (x : ShelfEngine). Suits x.engine x.allows it.changes) shelf
    → IsRecoverable shelf (log ++ it ∷ []) engines
IsRecoverable-append shelf log engines it r new ready suits = record {
  distinct = distinct-append log it new r.distinct;
  trails = λ k d h. Trails-append (get_or engines k d).engine log it (get_or engines k d).gist (ready k d h) (r.trails k d h);
  log_suits = λ k d h. All-push (λ (x : Transaction). Suits (get_or shelf k d).engine (get_or shelf k d).allows x.changes) log it (r.log_suits k d h) (suits k d h);
  prepared_suits = r.prepared_suits;
}

get_or-front : {X : Type 0} (xs ys : List X) (k : ℕ) (d : X) → k < length xs → get_or (xs ++ ys) k d ≡ get_or xs k d
get_or-front [] ys k d h = absurd (omega (arith, h))
get_or-front (x ∷ xs) ys zero d h = refl
get_or-front (x ∷ xs) ys (suc k) d h = get_or-front xs ys k d (omega (arith, h))

-- what holds of a whole list holds of its front
All-front : {X : Type 0} (P : X → Type 0) (xs ys : List X) → All P (xs ++ ys) → All P xs
All-front P xs ys all = λ k d h. subst P (get_or-front xs ys k d h) (all k d (omega (arith, length-append xs ys, h)))

pub IsRecoverable-cut : (shelf : List ShelfEngine) (log more : List Transaction) (engines : List SafeEngine)
    → IsRecoverable shelf (log ++ more) engines → All (λ x. x.gist.last ≤ length log) engines → IsRecoverable shelf log engines
IsRecoverable-cut shelf log more engines r low = record {
  distinct = record { same_place = λ i j a b p q e. r.distinct.same_place i j a b (before_end log more i a p) (before_end log more j b q) e };
  trails = λ k d h. Trails-cut (get_or engines k d).engine log more (get_or engines k d).gist (low k d h) (r.trails k d h);
  log_suits = λ k d h. All-front (λ (x : Transaction). Suits (get_or shelf k d).engine (get_or shelf k d).allows x.changes) log more (r.log_suits k d h);
  prepared_suits = r.prepared_suits;
}

pub IsRecovered-none_prepared : (shelf : List ShelfEngine) (log : List Transaction) (engines : List SafeEngine)
    → IsRecoverable shelf log engines → All (λ x. x.gist.prepared ≡ []) engines → IsRecovered shelf log engines
IsRecovered-none_prepared shelf log engines r none = record {
  recoverable = r;
  at_log = λ k d h. IsAtLog-none_prepared (get_or engines k d).engine log (get_or engines k d).gist (r.trails k d h) (none k d h);
}

pub IsRecovered-recoverable : (shelf : List ShelfEngine) (log : List Transaction) (engines : List SafeEngine) → IsRecovered shelf log engines → IsRecoverable shelf log engines
IsRecovered-recoverable shelf log engines r = r.recoverable

-- Nothing logged and nothing in the engines is recovered.
pub IsRecovered-nothing : (shelf : List ShelfEngine) (engines : List SafeEngine) → All (λ x. x.gist ≡ empty_gist) engines → IsRecovered shelf [] engines
IsRecovered-nothing shelf engines empty = record {
  recoverable = record {
    distinct = record { same_place = λ i j a b p. absurd (nothing i a p) };
    trails = λ k d h. subst (Trails (get_or engines k d).engine []) (sym (empty k d h)) (Trails-empty (get_or engines k d).engine);
    log_suits = λ k d h. (λ j e lt. absurd (omega (arith, lt)));
    prepared_suits = λ k d h. subst (λ (g : Gist). All (λ p. Suits (get_or engines k d).engine (get_or engines k d).allows p.changes) g.prepared) (sym (empty k d h)) (λ j e lt. absurd (omega (arith, lt)));
  };
  at_log = λ k d h. subst (IsAtLog (get_or engines k d).engine []) (sym (empty k d h)) (record { tables = refl; none_prepared = refl });
}
  where
    nothing : (k : ℕ) (it : Transaction) → slice_get [] k ≡ Some it → ⊥
    nothing k it q = cc
