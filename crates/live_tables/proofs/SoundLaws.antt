-- What is pending stays sound: after one change more, a prepare, a commit, a rollback, an end by xid, and a merge of what is done.
use Rattle.std.proofs.Common.{◌≡◌, ℕ, List, [], ◌∷◌, ◌++◌, Option, Some, None, true, false, not, ◌||◌, refl, sym, ap, subst, ◌∙◌, inl, inr}
use Rattle.std.specs.Prelude.{is_some}
use Rattle.std.specs.List.{cons_option, list_any}
use Rattle.std.specs.Option.{option_or, option_map}
use Rattle.std.proofs.lemmas.Bool.{and_parts, and_from}
use Rattle.std.proofs.lemmas.List.{append-nil, append_assoc}
use Rattle.std.proofs.lemmas.List.Elements.{filter-append}
use Rattle.std.proofs.lemmas.List.Folds.{find-append, list_any-append}
use Rattle.row_format.specs.declared.change.Change.{Change}
use Rattle.log_tables.specs.declared.table.Table.{Table}
use Rattle.log_tables.specs.declared.gist.Prepared.{Prepared}
use Rattle.log_tables.specs.Gists.{has_xid, prepared_with, is_prepared, without_xid}
use Rattle.log_tables.specs.Tables.{table_named}
use Rattle.log_tables.specs.Changes.{after_change, after_changes, all_apply, applies, names_table}
use Rattle.log_tables.proofs.FoldLemmas.{after_changes-append}
use Rattle.log_tables.proofs.PartLemmas.{cases, cond_true, cond_false}
use Rattle.engine_api.specs.States.{Pending, without_txn, changes_by, xid_by, changes_in}
use Rattle.engine_api.specs.Live.{meets, meets_any, has_under, same_number}
use Rattle.live_tables.specs.Folds.{AreMade, found_after, fits, Apart}
use Rattle.live_tables.specs.Opens.{AreDistinct, changes_left, shares, HaveOwnXids}
use Rattle.live_tables.specs.Live.{AreSound}
use Rattle.live_tables.proofs.NameLemmas.{no, found_stays, named_after, applies_found}
use Rattle.live_tables.proofs.MadeLemmas.{made_after, all_made}
use Rattle.live_tables.proofs.FoldLemmas.{all_apply_append}
use Rattle.live_tables.proofs.MeetLemmas.{meets_sym, or_false, apart_sym}
use Rattle.live_tables.proofs.AgreeLemmas.{agree_applies, agree_all_apply}
use Rattle.live_tables.proofs.ApartLemmas.{both_fit, keys_only, applies_from, pass_one}
use Rattle.live_tables.proofs.OpenLaws.{neither, none_some, changes_last, distinct_without, distinct_moved, apart_append_left, apart_append_left_parts, left_without, left_by, all_apart_without, apart_by, all_apart_last, to_front, to_end, left_out, shares_append, shares_unshared, prepared_first, without_unprepared, xids_last, xids_without, xid_out, xid_kept}

-- A transaction moves to the end, with these changes and under this xid.
sound_moved : (p : Pending) (txn : ℕ) (ts : List Table) (done : List Change) (left : List Prepared) (ps : List Pending) → AreSound ts done left ps → p.txn ≡ txn
    → all_apply (changes_in (without_txn txn ps) ++ p.changes) (after_changes done ts) ≡ true → Apart p.changes (changes_in (without_txn txn ps)) → Apart p.changes (changes_left left)
    → HaveOwnXids (left ++ shares (without_txn txn ps ++ p ∷ [])) → AreSound ts done left (without_txn txn ps ++ p ∷ [])
sound_moved p txn ts done left ps s same fit apart from_left own =
    let others = without_txn txn ps in
    let both = apart_append_left (changes_in others) p.changes (changes_left left) (left_without txn ps (changes_left left) s.apart_left) from_left in
    record {
      made = s.made;
      done_fit = s.done_fit;
      open_fit = ap (λ xs. all_apply xs (after_changes done ts)) (changes_last others p) ∙ fit;
      apart = all_apart_last p others (all_apart_without txn ps s.apart) apart;
      apart_left = subst (λ xs. Apart xs (changes_left left)) (sym (changes_last others p)) both;
      distinct = distinct_moved txn p ps s.distinct same;
      xids = own;
    }

-- a change meets one of what is left where it meets one of a prepared transaction
any_left : (c : Change) (left : List Prepared) → meets_any c (changes_left left) ≡ list_any (λ it. meets_any c it.changes) left
any_left c [] = refl
any_left c (p ∷ left) = list_any-append (meets c) p.changes (changes_left left) ∙ ap (λ b. meets_any c p.changes || b) (any_left c left)

-- One change more of a transaction that is not prepared leaves what is prepared.
pub shares_changed : (txn : ℕ) (cs : List Change) (ps : List Pending) → AreDistinct ps → xid_by txn ps ≡ None
    → shares (without_txn txn ps ++ (record { txn = txn; under = None; changes = cs }) ∷ []) ≡ shares ps
shares_changed txn cs ps d h =
    shares_append (without_txn txn ps) ((record { txn = txn; under = None; changes = cs }) ∷ [])
    ∙ append-nil (shares (without_txn txn ps))
    ∙ shares_unshared txn ps d h

-- One change more, that applies to the live tables and meets none of another transaction.
pub sound_changed : (txn : ℕ) (c : Change) (ts : List Table) (done : List Change) (left : List Prepared) (ps : List Pending) → AreSound ts done left ps → xid_by txn ps ≡ None
    → applies c (after_changes (changes_in ps) (after_changes done ts)) ≡ true → meets_any c (changes_in (without_txn txn ps)) ≡ false
    → list_any (λ it. meets_any c it.changes) (left ++ shares ps) ≡ false
    → AreSound ts done left (without_txn txn ps ++ (record { txn = txn; under = None; changes = changes_by txn ps ++ c ∷ [] }) ∷ [])
sound_changed txn c ts done left ps s under fit free from_prepared =
    let base = after_changes done ts in
    let own = changes_by txn ps in
    let others = changes_in (without_txn txn ps) in
    let moved = to_end txn ps base (all_made done ts s.made) s.distinct s.apart s.open_fit in
    let last = sym (agree_applies c (after_changes (changes_in ps) base) (after_changes (others ++ own) base) moved.1) ∙ fit in
    let one : all_apply (c ∷ []) (after_changes (others ++ own) base) ≡ true = and_from (applies c (after_changes (others ++ own) base)) true last refl in
    let all = all_apply_append (others ++ own) (c ∷ []) base ∙ and_from (all_apply (others ++ own) base) (all_apply (c ∷ []) (after_changes (others ++ own) base)) moved.0 one in
    let clear = or_false (list_any (λ it. meets_any c it.changes) left) (list_any (λ it. meets_any c it.changes) (shares ps))
    (sym (list_any-append (λ it. meets_any c it.changes) left (shares ps)) ∙ from_prepared) in
    sound_moved (record { txn = txn; under = None; changes = own ++ c ∷ [] }) txn ts done left ps s refl
    (ap (λ xs. all_apply xs base) (sym (append_assoc others own (c ∷ []))) ∙ all)
    (apart_append_left own (c ∷ []) others (apart_by txn ps s.distinct s.apart) (free, tt))
    (apart_append_left own (c ∷ []) (changes_left left) (left_by txn ps (changes_left left) s.apart_left) (any_left c left ∙ clear.0, tt))
    (subst (λ xs. HaveOwnXids (left ++ xs)) (sym (shares_changed txn (own ++ c ∷ []) ps s.distinct under)) s.xids)

-- A prepare adds what it prepares at the end.
pub shares_prepared : (txn xid : ℕ) (cs : List Change) (ps : List Pending) → AreDistinct ps → xid_by txn ps ≡ None
    → shares (without_txn txn ps ++ (record { txn = txn; under = Some xid; changes = cs }) ∷ []) ≡ shares ps ++ (record { xid = xid; changes = cs }) ∷ []
shares_prepared txn xid cs ps d h =
    shares_append (without_txn txn ps) ((record { txn = txn; under = Some xid; changes = cs }) ∷ [])
    ∙ ap (λ xs. xs ++ (record { xid = xid; changes = cs }) ∷ []) (shares_unshared txn ps d h)

-- A prepare, under an xid that is not prepared.
pub sound_prepared : (txn xid : ℕ) (ts : List Table) (done : List Change) (left : List Prepared) (ps : List Pending) → AreSound ts done left ps → xid_by txn ps ≡ None
    → is_prepared xid (left ++ shares ps) ≡ false
    → AreSound ts done left (without_txn txn ps ++ (record { txn = txn; under = Some xid; changes = changes_by txn ps }) ∷ [])
sound_prepared txn xid ts done left ps s under free =
    let own = changes_by txn ps in
    let it : Prepared = record { xid = xid; changes = own } in
    let is = append_assoc left (shares ps) (it ∷ []) ∙ ap (λ xs. left ++ xs) (sym (shares_prepared txn xid own ps s.distinct under)) in
    sound_moved (record { txn = txn; under = Some xid; changes = own }) txn ts done left ps s refl
    (to_end txn ps (after_changes done ts) (all_made done ts s.made) s.distinct s.apart s.open_fit).0
    (apart_by txn ps s.distinct s.apart)
    (left_by txn ps (changes_left left) s.apart_left)
    (subst HaveOwnXids is (xids_last it (left ++ shares ps) s.xids free))

-- A commit: the changes of the transaction are done, behind those that were.
pub sound_committed : (txn : ℕ) (ts : List Table) (done : List Change) (left : List Prepared) (ps : List Pending) → AreSound ts done left ps
    → AreSound ts (done ++ changes_by txn ps) left (without_txn txn ps)
sound_committed txn ts done left ps s =
    let base = after_changes done ts in
    let own = changes_by txn ps in
    let others = changes_in (without_txn txn ps) in
    let front = (to_front txn ps base (all_made done ts s.made) s.distinct s.apart s.open_fit).0 in
    let parts = and_parts (all_apply own base) (all_apply others (after_changes own base)) (sym (all_apply_append own others base) ∙ front) in
    record {
      made = s.made;
      done_fit = all_apply_append done own ts ∙ and_from (all_apply done ts) (all_apply own base) s.done_fit parts.0;
      open_fit = ap (all_apply others) (after_changes-append done own ts) ∙ parts.1;
      apart = all_apart_without txn ps s.apart;
      apart_left = left_without txn ps (changes_left left) s.apart_left;
      distinct = distinct_without txn ps s.distinct;
      xids = xids_without txn left ps s.distinct s.xids;
    }

-- A rollback.
pub sound_rolled_back : (txn : ℕ) (ts : List Table) (done : List Change) (left : List Prepared) (ps : List Pending) → AreSound ts done left ps
    → AreSound ts done left (without_txn txn ps)
sound_rolled_back txn ts done left ps s = record {
  made = s.made;
  done_fit = s.done_fit;
  open_fit = left_out txn ps (after_changes done ts) (all_made done ts s.made) s.distinct s.apart s.open_fit;
  apart = all_apart_without txn ps s.apart;
  apart_left = left_without txn ps (changes_left left) s.apart_left;
  distinct = distinct_without txn ps s.distinct;
  xids = xids_without txn left ps s.distinct s.xids;
}

-- Of two changes that do not meet and both apply, the first applies behind the second.
beside_one : (a b : Change) (ts : List Table) → AreMade ts → meets b a ≡ false → applies a ts ≡ true → applies b ts ≡ true → applies a (after_change b ts) ≡ true
beside_one a b ts made apart fit_a fit_b = applies_from a (after_change b ts) (λ n own. ap (fits a) (named_after n b ts made.names) ∙ under n own)
  where
    under : (n : List ℕ) → names_table n a ≡ true → fits a (found_after n b (table_named n ts)) ≡ true
    under n own = elim (cases (names_table n b)) [
      | inl own_b ↦ both_fit n a b (table_named n ts) own_b (keys_only n a b own own_b apart) (sym (applies_found n a ts own) ∙ fit_a) (sym (applies_found n b ts own_b) ∙ fit_b)
      | inr other ↦ ap (fits a) (found_stays n b (table_named n ts) other) ∙ sym (applies_found n a ts own) ∙ fit_a
    ]

-- changes that apply do so behind one that applies and meets none of them
beside_list : (b : Change) (cs : List Change) (ts : List Table) → AreMade ts → meets_any b cs ≡ false → all_apply cs ts ≡ true → applies b ts ≡ true → all_apply cs (after_change b ts) ≡ true
beside_list b [] ts made apart fit_cs fit_b = refl
beside_list b (a ∷ cs) ts made apart fit_cs fit_b =
    let none = or_false (meets b a) (meets_any b cs) apart in
    let fit = and_parts (applies a ts) (all_apply cs (after_change a ts)) fit_cs in
    let b_behind = beside_one b a ts made (meets_sym a b ∙ none.0) fit_b fit.0 in
    let of_a = made_after a ts made in
    let of_b = made_after b ts made in
    let rest = beside_list b cs (after_change a ts) of_a none.1 fit.1 b_behind in
    let same = (pass_one a b ts made none.0 fit.0 b_behind).2 in
    and_from (applies a (after_change b ts)) (all_apply cs (after_change a (after_change b ts)))
    (beside_one a b ts made none.0 fit.0 fit_b)
    (sym (agree_all_apply cs (after_change b (after_change a ts)) (after_change a (after_change b ts)) (made_after b (after_change a ts) of_a) (made_after a (after_change b ts) of_b) same) ∙ rest)

-- Of two lists that are apart and both apply, the second applies behind the first.
pub beside : (ds cs : List Change) (ts : List Table) → AreMade ts → Apart ds cs → all_apply cs ts ≡ true → all_apply ds ts ≡ true → all_apply cs (after_changes ds ts) ≡ true
beside [] cs ts made apart fit_cs fit_ds = fit_cs
beside (b ∷ ds) cs ts made apart fit_cs fit_ds =
    let fit = and_parts (applies b ts) (all_apply ds (after_change b ts)) fit_ds in
    beside ds cs (after_change b ts) (made_after b ts made) apart.1 (beside_list b cs ts made apart.0 fit_cs fit.0) fit.1

-- what is apart from all that is left is so without an xid
left_less : (xid : ℕ) (left : List Prepared) (others : List Change) → Apart (changes_left left) others → Apart (changes_left (without_xid xid left)) others
left_less xid [] others h = tt
left_less xid (p ∷ left) others h =
    let parts = apart_append_left_parts p.changes (changes_left left) others h in
    let rest = left_less xid left others parts.1 in
    elim (cases (has_xid xid p)) [
      | inl own ↦ subst (λ xs. Apart (changes_left xs) others) (sym (xid_out xid p left own)) rest
      | inr other ↦
          subst (λ xs. Apart (changes_left xs) others) (sym (xid_kept xid p left other))
          (apart_append_left p.changes (changes_left (without_xid xid left)) others parts.0 rest)
    ]

-- and from one that is left
left_one : (xid : ℕ) (p : Prepared) (left : List Prepared) (others : List Change) → prepared_with xid left ≡ Some p → Apart (changes_left left) others → Apart p.changes others
left_one xid p [] others found h = absurd (none_some found)
left_one xid p (q ∷ left) others found h =
    let parts = apart_append_left_parts q.changes (changes_left left) others h in
    elim (cases (has_xid xid q)) [
      | inl own ↦ subst (λ (x : Prepared). Apart x.changes others) (same (sym (cond_true (has_xid xid q) (Some q) (prepared_with xid left) own) ∙ found)) parts.0
      | inr other ↦ left_one xid p left others (sym (cond_false (has_xid xid q) (Some q) (prepared_with xid left) other) ∙ found) parts.1
    ]
  where
    same : {x y : Prepared} → Some x ≡ Some y → x ≡ y
    same e = cc

-- an xid that is not prepared is not so without another
unprepared_less : (xid n : ℕ) (left more : List Prepared) → is_prepared n (left ++ more) ≡ false → is_prepared n (without_xid xid left ++ more) ≡ false
unprepared_less xid n [] more h = h
unprepared_less xid n (p ∷ left) more h =
    let parts = or_false (has_xid n p) (is_prepared n (left ++ more)) (sym (prepared_first n p (left ++ more)) ∙ h) in
    let rest = unprepared_less xid n left more parts.1 in
    elim (cases (has_xid xid p)) [
      | inl own ↦ ap (λ xs. is_prepared n (xs ++ more)) (xid_out xid p left own) ∙ rest
      | inr other ↦
          ap (λ xs. is_prepared n (xs ++ more)) (xid_kept xid p left other)
          ∙ prepared_first n p (without_xid xid left ++ more)
          ∙ neither (has_xid n p) (is_prepared n (without_xid xid left ++ more)) parts.0 rest
    ]

xids_less : (xid : ℕ) (left more : List Prepared) → HaveOwnXids (left ++ more) → HaveOwnXids (without_xid xid left ++ more)
xids_less xid [] more h = h
xids_less xid (p ∷ left) more h = elim (cases (has_xid xid p)) [
  | inl own ↦ subst (λ xs. HaveOwnXids (xs ++ more)) (sym (xid_out xid p left own)) (xids_less xid left more h.1)
  | inr other ↦ subst (λ xs. HaveOwnXids (xs ++ more)) (sym (xid_kept xid p left other)) (unprepared_less xid p.xid left more h.0, xids_less xid left more h.1)
]

-- The xid of one that is left goes, and nothing is done.
pub sound_left : (xid : ℕ) (ts : List Table) (done : List Change) (left : List Prepared) (ps : List Pending) → AreSound ts done left ps
    → AreSound ts done (without_xid xid left) ps
sound_left xid ts done left ps s = record {
  made = s.made;
  done_fit = s.done_fit;
  open_fit = s.open_fit;
  apart = s.apart;
  apart_left = apart_sym (changes_left (without_xid xid left)) (changes_in ps) (left_less xid left (changes_in ps) (apart_sym (changes_in ps) (changes_left left) s.apart_left));
  distinct = s.distinct;
  xids = xids_less xid left (shares ps) s.xids;
}

-- One that is left is committed, where its changes apply to the committed tables.
pub sound_left_committed : (xid : ℕ) (p : Prepared) (ts : List Table) (done : List Change) (left : List Prepared) (ps : List Pending) → AreSound ts done left ps
    → prepared_with xid left ≡ Some p → all_apply p.changes (after_changes done ts) ≡ true → AreSound ts (done ++ p.changes) (without_xid xid left) ps
sound_left_committed xid p ts done left ps s found fit =
    let base = after_changes done ts in
    let ended = sound_left xid ts done left ps s in
    let apart = left_one xid p left (changes_in ps) found (apart_sym (changes_in ps) (changes_left left) s.apart_left) in
    record {
      made = s.made;
      done_fit = all_apply_append done p.changes ts ∙ and_from (all_apply done ts) (all_apply p.changes base) s.done_fit fit;
      open_fit = ap (all_apply (changes_in ps)) (after_changes-append done p.changes ts) ∙ beside p.changes (changes_in ps) base (all_made done ts s.made) apart s.open_fit fit;
      apart = s.apart;
      apart_left = ended.apart_left;
      distinct = s.distinct;
      xids = ended.xids;
    }

-- An xid is one that this run prepared where a transaction is prepared under it.
pub shares_under : (xid : ℕ) (ps : List Pending) → is_prepared xid (shares ps) ≡ list_any (has_under xid) ps
shares_under xid [] = refl
shares_under xid (p ∷ ps) = at p.under ∙ ap (λ b. has_under xid p || b) (shares_under xid ps)
  where
    at : (under : Option ℕ) → is_prepared xid (cons_option (option_map (λ n. record { xid = n; changes = p.changes }) under) (shares ps)) ≡ (same_number xid under || is_prepared xid (shares ps))
    at None = refl
    at (Some n) = prepared_first xid (record { xid = n; changes = p.changes }) (shares ps)

-- An xid that no transaction of this run has goes from what is left alone.
pub without_left : (xid : ℕ) (left : List Prepared) (ps : List Pending) → list_any (has_under xid) ps ≡ false
    → without_xid xid (left ++ shares ps) ≡ without_xid xid left ++ shares ps
without_left xid left ps h =
    filter-append (λ it. not (has_xid xid it)) left (shares ps)
    ∙ ap (λ xs. without_xid xid left ++ xs) (without_unprepared xid (shares ps) (shares_under xid ps ∙ h))

-- It is found among what is left.
pub found_left : (xid : ℕ) (left : List Prepared) (ps : List Pending) → list_any (has_under xid) ps ≡ false → prepared_with xid (left ++ shares ps) ≡ prepared_with xid left
found_left xid left ps h =
    find-append (has_xid xid) left (shares ps)
    ∙ ap (option_or (prepared_with xid left)) (none_if (prepared_with xid (shares ps)) (shares_under xid ps ∙ h))
    ∙ or_none (prepared_with xid left)
  where
    none_if : (o : Option Prepared) → is_some o ≡ false → o ≡ None
    none_if None e = refl
    none_if (Some p) e = absurd (no (sym e))

    or_none : (o : Option Prepared) → option_or o None ≡ o
    or_none None = refl
    or_none (Some p) = refl

-- Tables and what is done to them may be told otherwise, where they are the same committed tables.
pub sound_same : (ts us : List Table) (done more : List Change) (left : List Prepared) (ps : List Pending) → AreSound ts done left ps → AreMade us → all_apply more us ≡ true
    → after_changes more us ≡ after_changes done ts → AreSound us more left ps
sound_same ts us done more left ps s made fit same = record {
  made = made;
  done_fit = fit;
  open_fit = ap (all_apply (changes_in ps)) same ∙ s.open_fit;
  apart = s.apart;
  apart_left = s.apart_left;
  distinct = s.distinct;
  xids = s.xids;
}
