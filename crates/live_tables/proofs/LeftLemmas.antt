-- What an earlier run left prepared: taken out of the list, committed, or rolled back.
use Rattle.std.proofs.Common.{◌≡◌, ℕ, zero, suc, ◌<◌, List, [], ◌∷◌, ◌++◌, length, get_or, Option, Some, None, Bool, true, false, ◌&&◌, ◌||◌, position, sym, ap, subst, ◌∙◌, inl, inr, arith}
use Rattle.std.specs.Prelude.{is_some, IsTrue, nat_lt}
use Rattle.std.specs.List.{remove, list_any}
use Rattle.std.proofs.lemmas.Bool.{eqb-true, lt-ltb}
use Rattle.std.proofs.lemmas.List.Quantifiers.{position-Some}
use Rattle.row_format.specs.declared.change.Change.{Change}
use Rattle.log_tables.specs.declared.table.Table.{Table}
use Rattle.log_tables.specs.declared.gist.Prepared.{Prepared}
use Rattle.log_tables.specs.Gists.{has_xid, prepared_with, is_prepared, without_xid, after_commit}
use Rattle.log_tables.specs.Changes.{after_changes, all_apply}
use Rattle.log_tables.proofs.FoldLemmas.{after_changes-append}
use Rattle.log_tables.proofs.PartLemmas.{cases, cond_false}
use Rattle.engine_api.specs.States.{EngineState, Pending, with_gist, dropped_state}
use Rattle.engine_api.specs.Live.{IsLeft, has_under}
use Rattle.live_tables.specs.Opens.{HaveOwnXids, shares}
use Rattle.live_tables.specs.Live.{AreSound, state_of, state_with}
use Rattle.live_tables.proofs.NameLemmas.{no}
use Rattle.live_tables.proofs.MeetLemmas.{or_false}
use Rattle.live_tables.proofs.OpenLemmas.{found_passes}
use Rattle.live_tables.proofs.OpenLaws.{prepared_append, xid_out, xid_kept, without_unprepared}
use Rattle.live_tables.proofs.SoundLaws.{sound_left_committed, found_left, without_left, shares_under}

removed_first : (xid : ℕ) (xs : List Prepared) (i : ℕ) (d : Prepared) → HaveOwnXids xs → i < length xs → has_xid xid (get_or xs i d) ≡ true
    → ((k : ℕ) → k < i → has_xid xid (get_or xs k d) ≡ false) → remove xs i ≡ without_xid xid xs
removed_first xid [] i d own within here before = absurd (omega arith)
removed_first xid (x ∷ xs) zero d own within here before =
    let free : is_prepared xid xs ≡ false = subst (λ n. is_prepared n xs ≡ false) (eqb-true x.xid xid here) own.0 in
    sym (xid_out xid x xs here ∙ without_unprepared xid xs free)
removed_first xid (x ∷ xs) (suc i) d own within here before =
    let other = before 0 (omega arith) in
    ap (λ (rest : List Prepared). x ∷ rest) (removed_first xid xs i d own.1 (omega arith) here (λ k h. before (suc k) (omega arith))) ∙ sym (xid_kept xid x xs other)

-- The list with the place of an xid taken out is what is prepared under other xids.
pub without_one : (xid : ℕ) (xs : List Prepared) (i : ℕ) (d : Prepared) → HaveOwnXids xs → Some i ≡ position (has_xid xid) xs → remove xs i ≡ without_xid xid xs
without_one xid xs i d own is =
    let at = position-Some (has_xid xid) xs i d (sym is) in
    removed_first xid xs i d own at.0 at.1 at.2

-- A list with nothing under the xid is what is prepared under other xids.
pub without_none : (xid : ℕ) (xs : List Prepared) → prepared_with xid xs ≡ None → without_xid xid xs ≡ xs
without_none xid xs is = without_unprepared xid xs (ap is_some is)

-- In the first part of a list no xid stands twice either.
pub own_left : (left more : List Prepared) → HaveOwnXids (left ++ more) → HaveOwnXids left
own_left [] more h = tt
own_left (p ∷ left) more h = ((or_false (is_prepared p.xid left) (is_prepared p.xid more) (sym (prepared_append p.xid left more) ∙ h.0)).0, own_left left more h.1)

-- So something is found there.
pub some_in_left : (xid last : ℕ) (ts : List Table) (done : List Change) (left : List Prepared) (ps : List Pending) (s : EngineState) → state_of ts done left ps last ≡ s → IsLeft xid s
    → None ≡ prepared_with xid left → ⊥
some_in_left xid last ts done left ps s is left_there none =
    let nothing : prepared_with xid s.gist.prepared ≡ None =
    sym (ap (λ (x : EngineState). prepared_with xid x.gist.prepared) is)
    ∙ found_left xid left ps (ap (λ (x : EngineState). list_any (has_under xid) x.pending) is ∙ left_there.1)
    ∙ sym none in
    no (subst (λ (o : Option Prepared). IsTrue (is_some o)) nothing left_there.0)

-- The state after what was left under an xid is committed.
pub state_left_committed : (xid number last : ℕ) (it : Prepared) (ts : List Table) (done : List Change) (left : List Prepared) (ps : List Pending) (s : EngineState)
    → state_of ts done left ps last ≡ s → list_any (has_under xid) s.pending ≡ false → prepared_with xid left ≡ Some it
    → state_of ts (done ++ it.changes) (without_xid xid left) ps number ≡ with_gist (after_commit it number s.gist) s
state_left_committed xid number last it ts done left ps s is free found =
    let at : it.xid ≡ xid = eqb-true it.xid xid (found_passes (has_xid xid) left it found) in
    let base = after_changes done ts in
    ap (λ l. state_with (record { tables = l; prepared = without_xid xid left ++ shares ps; last = number }) ps) (after_changes-append done it.changes ts)
    ∙ ap (λ l. state_with (record { tables = after_changes it.changes base; prepared = l; last = number }) ps)
    (sym (without_left xid left ps (ap (λ (x : EngineState). list_any (has_under xid) x.pending) is ∙ free)))
    ∙ ap (λ n. state_with (record { tables = after_changes it.changes base; prepared = without_xid n (left ++ shares ps); last = number }) ps) (sym at)
    ∙ ap (λ (x : EngineState). with_gist (after_commit it number x.gist) x) is

-- The state after what was left under an xid is rolled back.
pub state_left_dropped : (xid last : ℕ) (ts : List Table) (done : List Change) (left : List Prepared) (ps : List Pending) (s : EngineState)
    → state_of ts done left ps last ≡ s → list_any (has_under xid) s.pending ≡ false → state_of ts done (without_xid xid left) ps last ≡ dropped_state xid s
state_left_dropped xid last ts done left ps s is free =
    ap (λ l. state_with (record { tables = after_changes done ts; prepared = l; last = last }) ps)
    (sym (without_left xid left ps (ap (λ (x : EngineState). list_any (has_under xid) x.pending) is ∙ free)))
    ∙ ap (λ (x : EngineState). dropped_state xid x) is

-- What is found in the list of what was left is what is found under the xid.
pub found_in_state : (xid last : ℕ) (it : Prepared) (ts : List Table) (done : List Change) (left : List Prepared) (ps : List Pending) (s : EngineState) → state_of ts done left ps last ≡ s
    → list_any (has_under xid) s.pending ≡ false → prepared_with xid left ≡ Some it → prepared_with xid s.gist.prepared ≡ Some it
found_in_state xid last it ts done left ps s is free found =
    sym (ap (λ (x : EngineState). prepared_with xid x.gist.prepared) is)
    ∙ found_left xid left ps (ap (λ (x : EngineState). list_any (has_under xid) x.pending) is ∙ free)
    ∙ found

-- So its changes apply, where those of what is found do.
pub fits_in_left : (xid last : ℕ) (it : Prepared) (ts : List Table) (done : List Change) (left : List Prepared) (ps : List Pending) (s : EngineState) → state_of ts done left ps last ≡ s
    → list_any (has_under xid) s.pending ≡ false → prepared_with xid left ≡ Some it → ((p : Prepared) → prepared_with xid s.gist.prepared ≡ Some p → all_apply p.changes s.gist.tables ≡ true)
    → all_apply it.changes (after_changes done ts) ≡ true
fits_in_left xid last it ts done left ps s is free found fits =
    ap (λ (x : EngineState). all_apply it.changes x.gist.tables) is ∙ fits it (found_in_state xid last it ts done left ps s is free found)

inner : {x y : Prepared} → Some x ≡ Some y → x ≡ y
inner q = cc

-- After what was left under an xid came behind what was done, all is as it should be.
pub left_done : (xid : ℕ) (it : Prepared) (ts : List Table) (done behind : List Change) (left rest : List Prepared) (ps : List Pending) → AreSound ts done left ps
    → prepared_with xid left ≡ Some it → all_apply it.changes (after_changes done ts) ≡ true → behind ≡ done ++ it.changes → rest ≡ without_xid xid left → AreSound ts behind rest ps
left_done xid it ts done behind left rest ps s found fits appended taken =
    let one = sound_left_committed xid it ts done left ps s found fits in
    subst (λ l. AreSound ts behind l ps) (sym taken) (subst (λ l. AreSound ts l (without_xid xid left) ps) (sym appended) one)

-- And the state is the one after the commit.
pub left_done_state : (xid number last : ℕ) (it p : Prepared) (ts : List Table) (done behind : List Change) (left rest : List Prepared) (ps : List Pending) (s : EngineState)
    → state_of ts done left ps last ≡ s → list_any (has_under xid) s.pending ≡ false → prepared_with xid left ≡ Some it → behind ≡ done ++ it.changes → rest ≡ without_xid xid left
    → prepared_with xid s.gist.prepared ≡ Some p → state_of ts behind rest ps number ≡ with_gist (after_commit p number s.gist) s
left_done_state xid number last it p ts done behind left rest ps s is free found appended taken asked =
    ap (λ l. state_of ts behind l ps number) taken
    ∙ ap (λ l. state_of ts l (without_xid xid left) ps number) appended
    ∙ state_left_committed xid number last it ts done left ps s is free found
    ∙ ap (λ (x : Prepared). with_gist (after_commit x number s.gist) s) (inner (sym (found_in_state xid last it ts done left ps s is free found) ∙ asked))

-- Whether what was left can be committed, as it was told.
pub can_told : (xid number last : ℕ) (told : Bool) (it p : Prepared) (ts : List Table) (done : List Change) (left : List Prepared) (ps : List Pending) (s : EngineState)
    → state_of ts done left ps last ≡ s → list_any (has_under xid) s.pending ≡ false → prepared_with xid left ≡ Some it → last < number
    → told ≡ all_apply it.changes (after_changes done ts) → prepared_with xid s.gist.prepared ≡ Some p → told ≡ (nat_lt s.gist.last number && all_apply p.changes s.gist.tables)
can_told xid number last told it p ts done left ps s is free found above tells asked =
    let more : nat_lt s.gist.last number ≡ true = ap (λ (x : EngineState). nat_lt x.gist.last number) (sym is) ∙ lt-ltb last number above in
    tells
    ∙ ap (λ (x : EngineState). all_apply it.changes x.gist.tables) is
    ∙ ap (λ (x : Prepared). all_apply x.changes s.gist.tables) (inner (sym (found_in_state xid last it ts done left ps s is free found) ∙ asked))
    ∙ sym (ap (λ b. b && all_apply p.changes s.gist.tables) more)

-- An xid of the first part of a list is not one of the other.
own_apart : (xid : ℕ) (left more : List Prepared) → HaveOwnXids (left ++ more) → is_prepared xid left ≡ true → is_prepared xid more ≡ false
own_apart xid [] more own there = absurd (no there)
own_apart xid (p ∷ left) more own there = elim (cases (has_xid xid p)) [
  | inl here ↦ subst (λ n. is_prepared n more ≡ false) (eqb-true p.xid xid here) (or_false (is_prepared p.xid left) (is_prepared p.xid more) (sym (prepared_append p.xid left more) ∙ own.0)).1
  | inr other ↦ own_apart xid left more own.1 (sym (ap is_some (cond_false (has_xid xid p) (Some p) (prepared_with xid left) other)) ∙ there)
]

-- What stands in the list of what was left is left, and is no transaction of this run.
pub is_left : (xid last : ℕ) (it : Prepared) (ts : List Table) (done : List Change) (left : List Prepared) (ps : List Pending) (s : EngineState) → state_of ts done left ps last ≡ s
    → HaveOwnXids (left ++ shares ps) → prepared_with xid left ≡ Some it → IsLeft xid s
is_left xid last it ts done left ps s is own found =
    let there : is_prepared xid left ≡ true = ap is_some found in
    let all : is_prepared xid (left ++ shares ps) ≡ true = prepared_append xid left (shares ps) ∙ ap (λ b. b || is_prepared xid (shares ps)) there in
    let free : list_any (has_under xid) ps ≡ false = sym (shares_under xid ps) ∙ own_apart xid left (shares ps) own there in
    subst (IsLeft xid) is (all, free)
