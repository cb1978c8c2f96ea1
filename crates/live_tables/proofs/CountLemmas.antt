-- How many changes are left, and the bytes of what is committed.
use Rattle.std.proofs.Common.{◌≡◌, ℕ, ◌+◌, ◌-◌, ◌≤◌, List, [], ◌∷◌, ◌++◌, length, Some, false, sym, ap, subst, ◌∙◌, inl, inr, arith, length-append, sum_by}
use Rattle.std.proofs.lemmas.Bool.{eqb-true}
use Rattle.std.proofs.lemmas.List.Sums.{sum_by-append}
use Rattle.row_format.specs.declared.change.Change.{Change}
use Rattle.log_tables.specs.declared.table.Table.{Table}
use Rattle.log_tables.specs.declared.gist.Prepared.{Prepared}
use Rattle.log_tables.specs.Gists.{has_xid, prepared_with, without_xid, is_prepared}
use Rattle.log_tables.proofs.PartLemmas.{cases, cond_true, cond_false}
use Rattle.engine_api.specs.States.{Pending}
use Rattle.live_tables.specs.Bytes.{capped}
use Rattle.live_tables.specs.Folds.{change_bytes}
use Rattle.live_tables.specs.Opens.{HaveOwnXids, changes_left}
use Rattle.live_tables.specs.Live.{AreSound, AreCounted, CanMake}
use Rattle.live_tables.proofs.OpenLaws.{none_some, without_unprepared, xid_out, xid_kept}

-- Of what is left, so many changes are under one xid, and the others under others.
pub changes_left_parted : (xid : ℕ) (it : Prepared) (left : List Prepared) → HaveOwnXids left → prepared_with xid left ≡ Some it
    → length (changes_left left) ≡ length it.changes + length (changes_left (without_xid xid left))
changes_left_parted xid it [] own found = absurd (none_some found)
changes_left_parted xid it (p ∷ left) own found = elim (cases (has_xid xid p)) [
  | inl here ↦
      let same = inner (sym (cond_true (has_xid xid p) (Some p) (prepared_with xid left) here) ∙ found) in
      let free = subst (λ n. is_prepared n left ≡ false) (eqb-true p.xid xid here) own.0 in
      let rest = xid_out xid p left here ∙ without_unprepared xid left free in
      length-append p.changes (changes_left left)
      ∙ ap (λ (x : Prepared). length x.changes + length (changes_left left)) same
      ∙ ap (λ xs. length it.changes + length (changes_left xs)) (sym rest)
  | inr other ↦
      let more = changes_left_parted xid it left own.1 (sym (cond_false (has_xid xid p) (Some p) (prepared_with xid left) other) ∙ found) in
      let kept = ap (λ xs. length (changes_left xs)) (xid_kept xid p left other) in
      let all = length-append p.changes (changes_left left) in
      let rest = length-append p.changes (changes_left (without_xid xid left)) in
      omega (arith, more, kept, all, rest)
]
  where
    inner : {x y : Prepared} → Some x ≡ Some y → x ≡ y
    inner e = cc

-- And so many bytes.
pub bytes_left_parted : (xid : ℕ) (it : Prepared) (left : List Prepared) → HaveOwnXids left → prepared_with xid left ≡ Some it
    → sum_by change_bytes (changes_left left) ≡ sum_by change_bytes it.changes + sum_by change_bytes (changes_left (without_xid xid left))
bytes_left_parted xid it [] own found = absurd (none_some found)
bytes_left_parted xid it (p ∷ left) own found = elim (cases (has_xid xid p)) [
  | inl here ↦
      let same = inner (sym (cond_true (has_xid xid p) (Some p) (prepared_with xid left) here) ∙ found) in
      let free = subst (λ n. is_prepared n left ≡ false) (eqb-true p.xid xid here) own.0 in
      let rest = xid_out xid p left here ∙ without_unprepared xid left free in
      sum_by-append change_bytes p.changes (changes_left left)
      ∙ ap (λ (x : Prepared). sum_by change_bytes x.changes + sum_by change_bytes (changes_left left)) same
      ∙ ap (λ xs. sum_by change_bytes it.changes + sum_by change_bytes (changes_left xs)) (sym rest)
  | inr other ↦
      let more = bytes_left_parted xid it left own.1 (sym (cond_false (has_xid xid p) (Some p) (prepared_with xid left) other) ∙ found) in
      let kept = ap (λ xs. sum_by change_bytes (changes_left xs)) (xid_kept xid p left other) in
      let all = sum_by-append change_bytes p.changes (changes_left left) in
      let rest = sum_by-append change_bytes p.changes (changes_left (without_xid xid left)) in
      omega (arith, more, kept, all, rest)
]
  where
    inner : {x y : Prepared} → Some x ≡ Some y → x ≡ y
    inner e = cc

-- The counts after what was left under an xid is done.
pub counted_left_committed : (xid : ℕ) (it : Prepared) (ts : List Table) (done : List Change) (left : List Prepared) (ps : List Pending) (committed opened waits waiting : ℕ)
    → AreCounted ts done left ps committed opened waits waiting → HaveOwnXids left → prepared_with xid left ≡ Some it → (now : ℕ) → now + length it.changes ≡ waiting
    → AreCounted ts (done ++ it.changes) (without_xid xid left) ps committed opened waits now
counted_left_committed xid it ts done left ps committed opened waits waiting counted own found now fewer =
    let parted = changes_left_parted xid it left own found in
    let bytes = bytes_left_parted xid it left own found in
    let all = sum_by-append change_bytes done it.changes in
    record {
      committed_is = counted.committed_is;
      opened_is = counted.opened_is;
      waits_is = omega (arith, counted.waits_is, bytes, all);
      small = counted.small;
      waiting_is = omega (arith, parted, counted.waiting_is);
    }

-- So many bytes wait at least as are left under an xid.
pub bytes_wait : (xid : ℕ) (it : Prepared) (ts : List Table) (done : List Change) (left : List Prepared) (ps : List Pending) (committed opened waits waiting len : ℕ)
    → AreCounted ts done left ps committed opened waits waiting → HaveOwnXids left → prepared_with xid left ≡ Some it → len ≡ capped (sum_by change_bytes it.changes)
    → (len ≡ sum_by change_bytes it.changes) × (len ≤ waits)
bytes_wait xid it ts done left ps committed opened waits waiting len counted own found is =
    let bytes = bytes_left_parted xid it left own found in
    (omega (arith, counted.waits_is, counted.small, bytes, is), omega (arith, counted.waits_is, counted.small, bytes, is))

-- The counts after what was left under an xid is rolled back.
pub counted_left_dropped : (xid : ℕ) (it : Prepared) (ts : List Table) (done : List Change) (left : List Prepared) (ps : List Pending) (committed opened waits waiting len : ℕ)
    → AreCounted ts done left ps committed opened waits waiting → HaveOwnXids left → prepared_with xid left ≡ Some it → len ≡ capped (sum_by change_bytes it.changes)
    → (now : ℕ) → now + length it.changes ≡ waiting → AreCounted ts done (without_xid xid left) ps committed opened (waits - len) now
counted_left_dropped xid it ts done left ps committed opened waits waiting len counted own found is now fewer =
    let parted = changes_left_parted xid it left own found in
    let bytes = bytes_left_parted xid it left own found in
    let exact = bytes_wait xid it ts done left ps committed opened waits waiting len counted own found is in
    record {
      committed_is = counted.committed_is;
      opened_is = counted.opened_is;
      waits_is = omega (arith, counted.waits_is, bytes, exact.0);
      small = omega (arith, counted.small);
      waiting_is = omega (arith, parted, counted.waiting_is);
    }

-- The counts after some of what is done went into the tables.
pub counted_settled : (ts us : List Table) (done more : List Change) (left : List Prepared) (ps : List Pending) (committed opened waits waiting now added : ℕ)
    → AreCounted ts done left ps committed opened waits waiting → CanMake us more now → added + sum_by change_bytes more ≡ sum_by change_bytes done → now ≤ committed + added
    → AreCounted us more left ps now opened (waits - added) waiting
counted_settled ts us done more left ps committed opened waits waiting now added counted can sum within = record {
  committed_is = can.committed_is;
  opened_is = counted.opened_is;
  waits_is = omega (arith, counted.waits_is, sum);
  small = omega (arith, counted.small, counted.waits_is, sum, within);
  waiting_is = counted.waiting_is;
}

-- What is done can be made.
pub can_make : (ts : List Table) (done : List Change) (left : List Prepared) (ps : List Pending) (committed opened waits waiting : ℕ)
    → AreSound ts done left ps → AreCounted ts done left ps committed opened waits waiting → CanMake ts done committed
can_make ts done left ps committed opened waits waiting sound counted = record {
  made = sound.made;
  fit = sound.done_fit;
  committed_is = counted.committed_is;
  small = omega (arith, counted.small, counted.waits_is);
}

-- So many changes wait at least as are left under an xid.
pub enough_wait : (xid : ℕ) (it : Prepared) (ts : List Table) (done : List Change) (left : List Prepared) (ps : List Pending) (committed opened waits waiting : ℕ)
    → AreCounted ts done left ps committed opened waits waiting → HaveOwnXids left → prepared_with xid left ≡ Some it → length it.changes ≤ waiting
enough_wait xid it ts done left ps committed opened waits waiting counted own found =
    let parted = changes_left_parted xid it left own found in
    omega (arith, parted, counted.waiting_is)
