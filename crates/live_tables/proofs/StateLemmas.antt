-- What always holds of the state that the tables tell.
use Rattle.std.proofs.Common.{◌≡◌, ℕ, List, [], ◌∷◌, ◌++◌, Option, Some, None, true, false, is_some, refl, sym, ap, subst, ◌∙◌, inl, inr}
use Rattle.std.specs.Prelude.{◌==◌}
use Rattle.std.proofs.lemmas.Bool.{and_parts}
use Rattle.std.proofs.lemmas.Bool.Decides.{Decides-eqb}
use Rattle.log_tables.specs.declared.table.Table.{Table}
use Rattle.log_tables.specs.declared.gist.Prepared.{Prepared}
use Rattle.log_tables.specs.Gists.{has_xid, prepared_with, is_prepared}
use Rattle.row_format.specs.declared.change.Change.{Change}
use Rattle.log_tables.specs.Changes.{after_changes, all_apply}
use Rattle.log_tables.proofs.PartLemmas.{cases, cond_true, cond_false}
use Rattle.engine_api.specs.States.{Pending, EngineState, is_by, pending_of, changes_of, xid_of, changes_by, xid_by, without_txn, changes_in}
use Rattle.engine_api.specs.Live.{IsUnder}
use Rattle.live_tables.specs.Opens.{shares, HaveOwnXids}
use Rattle.live_tables.specs.Live.{state_of, AreSound}
use Rattle.live_tables.proofs.NameLemmas.{yes_no}
use Rattle.live_tables.proofs.MadeLemmas.{all_made}
use Rattle.live_tables.proofs.FoldLemmas.{all_apply_append}
use Rattle.live_tables.proofs.OpenLaws.{none_some, to_front, prepared_as, unshared_first, shared_first}

-- what stands prepared behind one of another xid
skip : (xid : ℕ) (q it : Prepared) (rest : List Prepared) → is_prepared q.xid rest ≡ false → prepared_with xid rest ≡ Some it → prepared_with xid (q ∷ rest) ≡ Some it
skip xid q it rest free found = elim (cases (has_xid xid q)) [
  | inl same ↦
      let is : q.xid ≡ xid = (Decides-eqb q.xid xid).0 same in
      absurd (yes_no (is_prepared xid rest) (ap is_some found) (subst (λ (n : ℕ). is_prepared n rest ≡ false) is free))
  | inr other ↦ cond_false (has_xid xid q) (Some q) (prepared_with xid rest) other ∙ found
]

-- what a transaction has prepared under its xid
abbrev share : ℕ → ℕ → List Pending → Prepared
share txn xid ps = record { xid = xid; changes = changes_by txn ps }

-- behind another transaction, prepared or not
behind : (txn xid : ℕ) (p : Pending) (ps : List Pending) (under : Option ℕ) → p.under ≡ under → HaveOwnXids (shares (p ∷ ps)) → (HaveOwnXids (shares ps) → prepared_with xid (shares ps) ≡ Some (share txn xid ps))
    → prepared_with xid (shares (p ∷ ps)) ≡ Some (share txn xid ps)
behind txn xid p ps None is own found =
    let all = unshared_first p ps is in
    ap (prepared_with xid) all ∙ found (subst HaveOwnXids all own)
behind txn xid p ps (Some other) is own found =
    let all = shared_first other p ps is in
    let parts = subst HaveOwnXids all own in
    ap (prepared_with xid) all ∙ skip xid (prepared_as other p) (share txn xid ps) (shares ps) parts.0 (found parts.1)

found_share : (txn xid : ℕ) (ps : List Pending) → HaveOwnXids (shares ps) → xid_by txn ps ≡ Some xid → prepared_with xid (shares ps) ≡ Some (share txn xid ps)
found_share txn xid [] own by = absurd (none_some by)
found_share txn xid (p ∷ ps) own by = elim (cases (is_by txn p)) [
  | inl mine ↦
      let first : pending_of txn (p ∷ ps) ≡ Some p = cond_true (is_by txn p) (Some p) (pending_of txn ps) mine in
      let under : p.under ≡ Some xid = sym (ap xid_of first) ∙ by in
      ap (prepared_with xid) (shared_first xid p ps under)
      ∙ cond_true (xid == xid) (Some (prepared_as xid p)) (prepared_with xid (shares ps)) ((Decides-eqb xid xid).1 refl)
      ∙ ap (λ (cs : List Change). Some (record { xid = xid; changes = cs })) (sym (ap changes_of first))
  | inr other ↦
      let rest : pending_of txn (p ∷ ps) ≡ pending_of txn ps = cond_false (is_by txn p) (Some p) (pending_of txn ps) other in
      behind txn xid p ps p.under refl own (λ own_rest. found_share txn xid ps own_rest (sym (ap xid_of rest) ∙ by)) ∙ ap (λ (cs : List Change). Some (record { xid = xid; changes = cs })) (sym (ap changes_of rest))
]

found_behind : (txn xid : ℕ) (left : List Prepared) (ps : List Pending) → HaveOwnXids (left ++ shares ps) → xid_by txn ps ≡ Some xid → prepared_with xid (left ++ shares ps) ≡ Some (share txn xid ps)
found_behind txn xid [] ps own by = found_share txn xid ps own by
found_behind txn xid (q ∷ left) ps own by = skip xid q (share txn xid ps) (left ++ shares ps) own.0 (found_behind txn xid left ps own.1 by)

module _ (ts : List Table) (done : List Change) (left : List Prepared) (ps : List Pending) (last : ℕ) (state : EngineState) (is : state_of ts done left ps last ≡ state) where
  pub kept_alone : state.kept ≡ state.gist ∷ []
  kept_alone = subst (λ (s : EngineState). s.kept ≡ s.gist ∷ []) is refl

  pub own_apply : AreSound ts done left ps → (txn : ℕ) → all_apply (changes_by txn state.pending) state.gist.tables ≡ true
  own_apply sound txn = subst (λ (s : EngineState). all_apply (changes_by txn s.pending) s.gist.tables ≡ true) is
      (let base = after_changes done ts in
      let own = changes_by txn ps in
      let others = changes_in (without_txn txn ps) in
      (and_parts (all_apply own base) (all_apply others (after_changes own base)) (sym (all_apply_append own others base) ∙ (to_front txn ps base (all_made done ts sound.made) sound.distinct sound.apart sound.open_fit).0)).0)

  pub stands_prepared : AreSound ts done left ps → (txn xid : ℕ) → IsUnder txn xid state → prepared_with xid state.gist.prepared ≡ Some (share txn xid state.pending)
  stands_prepared sound txn xid = subst (λ (s : EngineState). IsUnder txn xid s → prepared_with xid s.gist.prepared ≡ Some (share txn xid s.pending)) is
      (λ by. found_behind txn xid left ps sound.xids by)
