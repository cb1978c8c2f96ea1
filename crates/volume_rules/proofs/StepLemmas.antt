-- One transaction on its way through one engine and the log: each step leaves the engine recoverable to each log that an image may have.
use Rattle.std.proofs.Common.{◌≡◌, ◌≢◌, ◌⊎◌, inl, inr, ℕ, suc, ◌+◌, ◌<◌, ◌≤◌, List, [], ◌∷◌, ◌++◌, length, take, Some, Bool, true, cond, refl, sym, ◌∙◌, ap, subst, arith}
use Rattle.std.specs.Prelude.{Contains, All, slice_get, not, ◌==◌}
use Rattle.std.proofs.lemmas.List.{append-nil, take_all, take-append-le}
use Rattle.std.proofs.lemmas.List.Elements.{All-head, Contains-push}
use Rattle.std.proofs.lemmas.Bool.Decides.{eqb_tells}
use Rattle.row_format.specs.declared.change.Transaction.{Transaction}
use Rattle.log_tables.specs.declared.gist.Prepared.{Prepared}
use Rattle.log_tables.specs.Changes.{EachApplies, changes_on, tables_after}
use Rattle.log_tables.specs.declared.gist.Gist.{Gist}
use Rattle.log_tables.specs.Gists.{after_prepare, after_commit, after_rollback, without_xid, has_xid}
use Rattle.engine_api.specs.Live.{allows}
use Rattle.recovery_rules.specs.Places.{tables_at, part_at, share_at, Touches, IsNew}
use Rattle.recovery_rules.specs.Trails.{Trails, IsAtLog, IsOwed, IsNext, IsReady}
use Rattle.recovery_rules.specs.Recovery.{ShelfEngine, SafeEngine, standing_for, Suits, IsRecoverable, IsRecovered}
use Rattle.recovery_rules.proofs.RecoveryLemmas.{IsRecoverable-after_prepare, IsRecoverable-append, IsRecoverable-after_commit, IsRecoverable-after_rollback, IsRecovered-none_prepared}
use Rattle.recovery_rules.proofs.TrailsLemmas.{before_end, in_longer, empty_or_not}
use Rattle.volume_rules.specs.Readers.{Reader, with_gist, with_gists}
use Rattle.volume_rules.proofs.ListLemmas.{of_one, only_one, not_on_none, at_end}

-- the one engine, with a gist
abbrev pub alone : Reader → Gist → List SafeEngine
alone it gist = with_gists (it ∷ []) (gist ∷ [])

-- the one engine trails
pub trails_of : (shelf : List ShelfEngine) (log : List Transaction) (it : Reader) (gist : Gist) → IsRecoverable shelf log (alone it gist) → Trails it.kind.name log gist
trails_of shelf log it gist r = All-head (λ (x : SafeEngine). Trails x.engine log x.gist) (with_gist it gist) [] r.trails

-- it has nothing prepared
pub none_of : (shelf : List ShelfEngine) (log : List Transaction) (it : Reader) (gist : Gist) → IsRecovered shelf log (alone it gist) → gist.prepared ≡ []
none_of shelf log it gist r = (All-head (λ (x : SafeEngine). IsAtLog x.engine log x.gist) (with_gist it gist) [] r.at_log).none_prepared

-- it has the log's tables
pub tables_of : (shelf : List ShelfEngine) (log : List Transaction) (it : Reader) (gist : Gist) → IsRecovered shelf log (alone it gist) → IsAtLog it.kind.name log gist
tables_of shelf log it gist r = All-head (λ (x : SafeEngine). IsAtLog x.engine log x.gist) (with_gist it gist) [] r.at_log

-- its share of a transaction at the end of the log
abbrev pub share_next : Reader → List Transaction → Transaction → Prepared
share_next it log t = share_at it.kind.name log (length log) t

-- the tables at the end are those of the log
pub tables_end : (log : List Transaction) → tables_at log (length log) ≡ tables_after log
tables_end log = ap tables_after (take_all (length log) log (omega arith))

-- A prepare under a new xid.
pub prepared_is : (shelf : List ShelfEngine) (log : List Transaction) (it : Reader) (gist : Gist) (share : Prepared) → IsRecoverable shelf log (alone it gist) → IsNew share.xid log
    → Suits it.kind.name (allows it.kind.flags) share.changes → IsRecoverable shelf log (alone it (after_prepare share gist))
prepared_is shelf log it gist share r new suits = IsRecoverable-after_prepare shelf log (alone it gist) 0 (with_gist it gist) share r refl new suits

-- The log gets the transaction.
pub logged_is : (shelf : List ShelfEngine) (log : List Transaction) (it : Reader) (gist : Gist) (t : Transaction) → IsRecovered shelf log (alone it gist) → IsNew t.xid log
    → Touches it.kind.name log (length log) t → EachApplies it.kind.name t.changes (tables_after log)
    → Suits it.kind.name (allows it.kind.flags) (part_at it.kind.name log (length log) t) → All (λ (x : ShelfEngine). Suits x.engine x.allows t.changes) shelf
    → IsRecoverable shelf (log ++ t ∷ []) (alone it (after_prepare (share_next it log t) gist))
logged_is shelf log it gist t r new touches applies suits all =
    IsRecoverable-append shelf log (alone it (after_prepare share gist)) t (prepared_is shelf log it gist share r.recoverable new suits) new
    (of_one (λ (x : SafeEngine). IsReady x.engine log t x.gist) (with_gist it (after_prepare share gist)) ready) all
  where
    share : Prepared
    share = share_next it log t

    ready : IsReady it.kind.name log t (after_prepare share gist)
    ready = record {
      applies = applies;
      prepared = λ some. Contains-push gist.prepared share;
      only = λ p on same. record {
        later = (trails_of shelf log it gist r.recoverable).not_ahead;
        touches = touches;
        is = only_one share p (subst (λ (l : List Prepared). Contains (l ++ share ∷ []) p) (none_of shelf log it gist r) on);
      };
    }

-- a share at the end of a log is one at that place of a longer log
share_longer : (it : Reader) (log : List Transaction) (t : Transaction) → share_at it.kind.name (log ++ t ∷ []) (length log) t ≡ share_next it log t
share_longer it log t = ap (λ l. record { xid = t.xid; changes = changes_on it.kind.name t.changes (tables_after l) }) (take-append-le (length log) log (t ∷ []) (omega arith))

-- the transaction at the end is the next one that the engine may commit
is_next : (log : List Transaction) (it : Reader) (gist : Gist) (share : Prepared) (t : Transaction) → Trails it.kind.name log gist → gist.prepared ≡ []
    → IsNext it.kind.name (log ++ t ∷ []) (after_prepare share gist) (length log) t
is_next log it gist share t trails none = record {
  at = at_end log t;
  later = trails.not_ahead;
  quiet = record {
    untouched = λ place other at low high. elim (in_longer log t other place at) [
      | inl old ↦ quiet place other old low high (empty_or_not (part_at it.kind.name log place other))
      | inr new ↦ absurd (omega (arith, new.0, high))
    ];
  };
}
  where
    quiet : (place : ℕ) (other : Transaction) → slice_get log place ≡ Some other → gist.last ≤ place → place < length log
        → (part_at it.kind.name log place other ≡ []) ⊎ (part_at it.kind.name log place other ≢ []) → part_at it.kind.name (log ++ t ∷ []) place other ≡ []
    quiet place other old low high (inl q) = ap (λ l. changes_on it.kind.name other.changes (tables_after l)) (take-append-le place log (t ∷ []) (omega (arith, high))) ∙ q
    quiet place other old low high (inr some) =
        absurd (not_on_none (share_at it.kind.name log place other) (subst (λ (l : List Prepared). Contains l (share_at it.kind.name log place other)) none (trails.rest_prepared place other old low some)))

-- a number is itself
is_itself : (a : ℕ) → (a == a) ≡ true
is_itself a = elim (eqb_tells a a) [ inl y ↦ y.0 | inr n ↦ absurd (n.1 refl) ]

-- what is left without the one that there is: nothing
pub none_left : (xid : ℕ) (gist : Gist) (share : Prepared) → gist.prepared ≡ [] → share.xid ≡ xid → without_xid xid (gist.prepared ++ share ∷ []) ≡ []
none_left xid gist share none same = ap (λ (l : List Prepared). without_xid xid (l ++ share ∷ [])) none ∙ without_one xid share same
  where
    without_one : (x : ℕ) (p : Prepared) → p.xid ≡ x → without_xid x (p ∷ []) ≡ []
    without_one x p is = subst (λ y. without_xid y (p ∷ []) ≡ []) is (ap (λ b. cond (not b) (p ∷ []) []) (is_itself p.xid))

-- The engine commits what the log has.
pub committed_is : (shelf : List ShelfEngine) (log : List Transaction) (it : Reader) (gist : Gist) (t : Transaction) → IsRecovered shelf log (alone it gist)
    → IsRecoverable shelf (log ++ t ∷ []) (alone it (after_prepare (share_next it log t) gist))
    → IsRecovered shelf (log ++ t ∷ []) (alone it (after_commit (share_next it log t) (suc (length log)) (after_prepare (share_next it log t) gist)))
committed_is shelf log it gist t r prepared =
    IsRecovered-none_prepared shelf (log ++ t ∷ []) (alone it after)
    (subst (λ (p : Prepared). IsRecoverable shelf (log ++ t ∷ []) (alone it (after_commit p (suc (length log)) (after_prepare share gist)))) (share_longer it log t)
    (IsRecoverable-after_commit shelf (log ++ t ∷ []) (alone it (after_prepare share gist)) 0 (with_gist it (after_prepare share gist)) (length log) t prepared refl
    (is_next log it gist share t (trails_of shelf log it gist r.recoverable) none)))
    (of_one (λ (x : SafeEngine). x.gist.prepared ≡ []) (with_gist it after) (none_left t.xid gist share none refl))
  where
    share : Prepared
    share = share_next it log t

    none : gist.prepared ≡ []
    none = none_of shelf log it gist r

    after : Gist
    after = after_commit share (suc (length log)) (after_prepare share gist)

-- The engine takes back what it prepared under a new xid.
pub rolled_back_is : (shelf : List ShelfEngine) (log : List Transaction) (it : Reader) (gist : Gist) (share : Prepared) → IsRecovered shelf log (alone it gist) → IsNew share.xid log
    → Suits it.kind.name (allows it.kind.flags) share.changes → IsRecovered shelf log (alone it (after_rollback share.xid (after_prepare share gist)))
rolled_back_is shelf log it gist share r new suits =
    IsRecovered-none_prepared shelf log (alone it after)
    (IsRecoverable-after_rollback shelf log (alone it (after_prepare share gist)) 0 (with_gist it (after_prepare share gist)) share.xid (prepared_is shelf log it gist share r.recoverable new suits) refl new)
    (of_one (λ (x : SafeEngine). x.gist.prepared ≡ []) (with_gist it after) (none_left share.xid gist share (none_of shelf log it gist r) refl))
  where
    after : Gist
    after = after_rollback share.xid (after_prepare share gist)

-- A transaction that does not touch the engine comes to the log.
pub untouched_is : (shelf : List ShelfEngine) (log : List Transaction) (it : Reader) (gist : Gist) (t : Transaction) → IsRecovered shelf log (alone it gist) → IsNew t.xid log
    → part_at it.kind.name log (length log) t ≡ [] → EachApplies it.kind.name t.changes (tables_after log) → All (λ (x : ShelfEngine). Suits x.engine x.allows t.changes) shelf
    → IsRecovered shelf (log ++ t ∷ []) (alone it gist)
untouched_is shelf log it gist t r new untouched applies all =
    IsRecovered-none_prepared shelf (log ++ t ∷ []) (alone it gist)
    (IsRecoverable-append shelf log (alone it gist) t r.recoverable new (of_one (λ (x : SafeEngine). IsReady x.engine log t x.gist) (with_gist it gist) ready) all)
    (of_one (λ (x : SafeEngine). x.gist.prepared ≡ []) (with_gist it gist) none)
  where
    none : gist.prepared ≡ []
    none = none_of shelf log it gist r

    ready : IsReady it.kind.name log t gist
    ready = record {
      applies = applies;
      prepared = λ some. absurd (some untouched);
      only = λ p on same. absurd (not_on_none p (subst (λ (l : List Prepared). Contains l p) none on));
    }
