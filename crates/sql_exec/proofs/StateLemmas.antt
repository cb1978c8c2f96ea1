-- What one change more of a transaction makes of an engine's state.
use Rattle.std.proofs.Common.{◌≡◌, ℕ, List, [], ◌∷◌, ◌++◌, Some, None, Bool, true, false, not, refl, sym, ap, ◌∙◌, inl, inr}
use Rattle.std.specs.Prelude.{filter, is_some}
use Rattle.std.specs.Option.{option_or}
use Rattle.std.proofs.lemmas.Bool.Decides.{Decides-eqb}
use Rattle.std.proofs.lemmas.Grind.{flat_map-append}
use Rattle.std.proofs.lemmas.List.{append-nil, append_assoc}
use Rattle.std.proofs.lemmas.List.Elements.{filter-append}
use Rattle.std.proofs.lemmas.List.Folds.{find-append}
use Rattle.row_format.specs.declared.change.Change.{Change}
use Rattle.log_tables.specs.Changes.{after_change, after_changes}
use Rattle.log_tables.proofs.FoldLemmas.{after_changes-append}
use Rattle.log_tables.proofs.PartLemmas.{cases, cond_true, cond_false}
use Rattle.engine_api.specs.States.{EngineState, Pending, is_by, pending_of, without_txn, changes_of, xid_of, changes_by, xid_by, changes_in, with_change, live_tables, synced_state, rolled_back_state, gist_without}
use Rattle.engine_api.specs.Live.{is_under}
use Rattle.sql_exec.specs.Changes.{with_changes, StandsLast}

-- what a transaction has pending, with one change more
abbrev more_of : ℕ → Change → EngineState → Pending
more_of txn c s = record { txn = txn; under = None; changes = changes_by txn s.pending ++ c ∷ [] }

own : (txn : ℕ) (c : Change) (s : EngineState) → is_by txn (more_of txn c s) ≡ true
own txn c s = (Decides-eqb txn txn).1 refl

twice : (q : Pending → Bool) (ps : List Pending) → filter q (filter q ps) ≡ filter q ps
twice q [] = refl
twice q (p ∷ ps) = elim (cases (q p)) [
  | inl is ↦
      ap (filter q) (cond_true (q p) (p ∷ filter q ps) (filter q ps) is)
      ∙ cond_true (q p) (p ∷ filter q (filter q ps)) (filter q (filter q ps)) is
      ∙ ap (λ xs. p ∷ xs) (twice q ps)
      ∙ sym (cond_true (q p) (p ∷ filter q ps) (filter q ps) is)
  | inr other ↦
      ap (filter q) (cond_false (q p) (p ∷ filter q ps) (filter q ps) other)
      ∙ twice q ps
      ∙ sym (cond_false (q p) (p ∷ filter q ps) (filter q ps) other)
]

own_out : (txn : ℕ) (c : Change) (s : EngineState) → without_txn txn (more_of txn c s ∷ []) ≡ []
own_out txn c s = cond_false (not (is_by txn (more_of txn c s))) (more_of txn c s ∷ []) [] (ap not (own txn c s))

-- what the others have pending is as it was
pub others_still : (txn : ℕ) (c : Change) (s : EngineState) → without_txn txn (with_change txn c s).pending ≡ without_txn txn s.pending
others_still txn c s =
    filter-append (λ (it : Pending). not (is_by txn it)) (without_txn txn s.pending) (more_of txn c s ∷ [])
    ∙ ap (λ xs. without_txn txn (without_txn txn s.pending) ++ xs) (own_out txn c s)
    ∙ append-nil (without_txn txn (without_txn txn s.pending))
    ∙ twice (λ (it : Pending). not (is_by txn it)) s.pending

found_first : (txn : ℕ) (p : Pending) (ps : List Pending) → is_by txn p ≡ true → pending_of txn (p ∷ ps) ≡ Some p
found_first txn p ps is = cond_true (is_by txn p) (Some p) (pending_of txn ps) is

found_later : (txn : ℕ) (p : Pending) (ps : List Pending) → is_by txn p ≡ false → pending_of txn (p ∷ ps) ≡ pending_of txn ps
found_later txn p ps is = cond_false (is_by txn p) (Some p) (pending_of txn ps) is

first_out : (txn : ℕ) (p : Pending) (ps : List Pending) → is_by txn p ≡ true → without_txn txn (p ∷ ps) ≡ without_txn txn ps
first_out txn p ps is = cond_false (not (is_by txn p)) (p ∷ without_txn txn ps) (without_txn txn ps) (ap not is)

first_kept : (txn : ℕ) (p : Pending) (ps : List Pending) → is_by txn p ≡ false → without_txn txn (p ∷ ps) ≡ p ∷ without_txn txn ps
first_kept txn p ps is = cond_true (not (is_by txn p)) (p ∷ without_txn txn ps) (without_txn txn ps) (ap not is)

none_left : (txn : ℕ) (ps : List Pending) → pending_of txn (without_txn txn ps) ≡ None
none_left txn [] = refl
none_left txn (p ∷ ps) = elim (cases (is_by txn p)) [
  | inl is ↦ ap (pending_of txn) (first_out txn p ps is) ∙ none_left txn ps
  | inr other ↦ ap (pending_of txn) (first_kept txn p ps other) ∙ found_later txn p (without_txn txn ps) other ∙ none_left txn ps
]

own_found : (txn : ℕ) (c : Change) (s : EngineState) → pending_of txn (with_change txn c s).pending ≡ Some (more_of txn c s)
own_found txn c s =
    find-append (is_by txn) (without_txn txn s.pending) (more_of txn c s ∷ [])
    ∙ ap (λ o. option_or o (pending_of txn (more_of txn c s ∷ []))) (none_left txn s.pending)
    ∙ found_first txn (more_of txn c s) [] (own txn c s)

-- the transaction has one change more
pub own_more : (txn : ℕ) (c : Change) (s : EngineState) → changes_by txn (with_change txn c s).pending ≡ changes_by txn s.pending ++ c ∷ []
own_more txn c s = ap changes_of (own_found txn c s)

-- and is not prepared
pub still_unprepared : (txn : ℕ) (c : Change) (s : EngineState) → is_under txn (with_change txn c s) ≡ false
still_unprepared txn c s = ap (λ o. is_some (xid_of o)) (own_found txn c s)

all_last : (txn : ℕ) (c : Change) (s : EngineState) → changes_in (with_change txn c s).pending ≡ changes_in (without_txn txn s.pending) ++ (changes_by txn s.pending ++ c ∷ [])
all_last txn c s =
    flat_map-append (λ (it : Pending). it.changes) (without_txn txn s.pending) (more_of txn c s ∷ [])
    ∙ ap (λ xs. changes_in (without_txn txn s.pending) ++ xs) (append-nil (changes_by txn s.pending ++ c ∷ []))

-- its changes stand last
pub last_still : (txn : ℕ) (c : Change) (s : EngineState) → StandsLast txn (with_change txn c s)
last_still txn c s =
    all_last txn c s
    ∙ ap (λ xs. changes_in xs ++ (changes_by txn s.pending ++ c ∷ [])) (sym (others_still txn c s))
    ∙ ap (λ xs. changes_in (without_txn txn (with_change txn c s).pending) ++ xs) (sym (own_more txn c s))

-- One that has nothing pending stands last.
kept_all : (txn : ℕ) (ps : List Pending) → pending_of txn ps ≡ None → without_txn txn ps ≡ ps
kept_all txn [] none = refl
kept_all txn (p ∷ ps) none = elim (cases (is_by txn p)) [
  | inl is ↦ absurd (no_some (sym none ∙ found_first txn p ps is))
  | inr other ↦ first_kept txn p ps other ∙ ap (λ xs. p ∷ xs) (kept_all txn ps (sym (found_later txn p ps other) ∙ none))
]
  where
    no_some : {X : Type 0} {x : X} → None ≡ Some x → ⊥
    no_some q = cc

pub idle_last : (txn : ℕ) (s : EngineState) → pending_of txn s.pending ≡ None → StandsLast txn s
idle_last txn s none =
    sym (ap (λ xs. changes_in xs ++ changes_by txn s.pending) (kept_all txn s.pending none)
    ∙ ap (λ o. changes_in s.pending ++ changes_of o) none
    ∙ append-nil (changes_in s.pending))

-- Where the transaction stands last, its next change is made of the live tables.
pub live_more : (txn : ℕ) (c : Change) (s : EngineState) → StandsLast txn s → live_tables (with_change txn c s) ≡ after_change c (live_tables s)
live_more txn c s last =
    ap (λ cs. after_changes cs s.gist.tables)
    (all_last txn c s
    ∙ sym (append_assoc (changes_in (without_txn txn s.pending)) (changes_by txn s.pending) (c ∷ []))
    ∙ ap (λ cs. cs ++ c ∷ []) (sym last))
    ∙ after_changes-append (changes_in s.pending) (c ∷ []) s.gist.tables

-- changes of a transaction, one behind the others
pub changes_last : (txn : ℕ) (cs : List Change) (c : Change) (s : EngineState) → with_changes txn (cs ++ c ∷ []) s ≡ with_change txn c (with_changes txn cs s)
changes_last txn [] c s = refl
changes_last txn (d ∷ cs) c s = changes_last txn cs c (with_change txn d s)

-- what a rollback goes back to
pub record AsBefore (txn : ℕ) (s new : EngineState) : Type 0 where
  pub gist : new.gist ≡ s.gist
  pub kept : new.kept ≡ s.kept
  pub others : without_txn txn new.pending ≡ without_txn txn s.pending
  pub unprepared : xid_by txn new.pending ≡ None

pub as_before : (txn : ℕ) (cs : List Change) (s : EngineState) → xid_by txn s.pending ≡ None → AsBefore txn s (with_changes txn cs s)
as_before txn [] s free = record { gist = refl; kept = refl; others = refl; unprepared = free }
as_before txn (c ∷ cs) s free =
    let rest = as_before txn cs (with_change txn c s) (ap xid_of (own_found txn c s)) in
    record { gist = rest.gist; kept = rest.kept; others = rest.others ∙ others_still txn c s; unprepared = rest.unprepared }

-- After a rollback the transaction has nothing pending, and an image reads as the gist.
pub rolled_back : (txn : ℕ) (cs : List Change) (s : EngineState) → pending_of txn s.pending ≡ None → rolled_back_state txn (with_changes txn cs s) ≡ synced_state s
rolled_back txn cs s none =
    let was = as_before txn cs s (ap xid_of none) in
    let gist_is : gist_without (xid_by txn (with_changes txn cs s).pending) (with_changes txn cs s).gist ≡ s.gist =
    ap (λ o. gist_without o (with_changes txn cs s).gist) was.unprepared ∙ was.gist in
    ap (λ g. record { gist = g; pending = without_txn txn (with_changes txn cs s).pending; kept = g ∷ [] }) gist_is
    ∙ ap (λ ps. record { gist = s.gist; pending = ps; kept = s.gist ∷ [] }) (was.others ∙ kept_all txn s.pending none)
