-- How far a recovery is after one xid more.
use Rattle.std.proofs.Common.{◌≡◌, ℕ, zero, suc, ◌+◌, ◌<◌, ◌≤◌, List, [], ◌∷◌, Option, None, Some, Bool, true, false, cond, Result, Ok, refl, sym, ap, subst, ◌∙◌, arith, take, length, get_or}
use Rattle.std.specs.Prelude.{All, nat_lt, Err, OnOk, ◌==◌, ◌||◌, ◌&&◌, not}
use Rattle.std.specs.BTreeSet.{BTreeSet, contains}
use Rattle.std.specs.Ordering.{nat_cmp}
use Rattle.disk_model.specs.Disk.{Disk}
use Rattle.row_format.specs.declared.change.Transaction.{Transaction}
use Rattle.std.proofs.lemmas.List.Elements.{All-head, All-tail}
use Rattle.log_tables.specs.declared.gist.Prepared.{Prepared}
use Rattle.log_tables.specs.declared.gist.Gist.{Gist}
use Rattle.log_tables.specs.Changes.{all_apply}
use Rattle.log_tables.specs.Gists.{prepared_with, after_commit, after_rollback}
use Rattle.engine_api.specs.declared.fault.EngineFault.{EngineFault}
use Rattle.engine_api.specs.States.{EngineState, resolved, resolved_state, dropped_state}
use Rattle.engine_api.specs.Reads.{EachReads, files_in}
use Rattle.engine_api.specs.Calls.{IsDevice, IsSame, Turns}
use Rattle.engine_api.specs.Many.{Working}
use Rattle.engine_api.proofs.TurnLemmas.{turns_still}
use Rattle.xid_recovery.specs.Pairs.{has, xids_in}
use Rattle.xid_recovery.specs.Recovers.{IsIdle}
use Rattle.xid_recovery.specs.Running.{Fits, Aims, IsEnd, IsOnWay, Ran, HasPrepared, IsWithout, IsWithoutAll, SoFar, RollingBack}
use Rattle.xid_recovery.proofs.XidLemmas.{eqb_flip}
use Rattle.xid_recovery.proofs.WayLemmas.{HasPrepared-resolved, HasPrepared-dropped, none_of, on_way-resolved, on_way-dropped, aims_on_way, on_way_at_first}
use Rattle.xid_recovery.proofs.RunLemmas.{ran_none, ran_call, idle_after, resolved_begun, dropped_begun, resolved_still, kept_aims}

-- sets

pairs-next : (x : ℕ) (pairs : List (ℕ × ℕ)) (n : ℕ) (d : ℕ × ℕ) → n < length pairs
    → has x (xids_in (take (suc n) pairs)) ≡ (((get_or pairs n d).0 == x) || has x (xids_in (take n pairs)))
pairs-next x [] n d h = absurd (omega (arith, h))
pairs-next x (p ∷ pairs) zero d h = refl
pairs-next x (p ∷ pairs) (suc n) d h = ap (λ b. (p.0 == x) || b) (pairs-next x pairs n d (omega (arith, h))) ∙ turn (p.0 == x) ((get_or pairs n d).0 == x) (has x (xids_in (take n pairs)))
  where
    turn : (a b c : Bool) → (a || (b || c)) ≡ (b || (a || c))
    turn true true c = refl
    turn true false c = refl
    turn false b c = refl

-- one xid more is out of the set
without-next : (pairs : List (ℕ × ℕ)) (n : ℕ) (pair d : ℕ × ℕ) (all left new : BTreeSet ℕ) → n < length pairs → get_or pairs n d ≡ pair
    → IsWithoutAll (take n pairs) all left → IsWithout pair.0 left new → IsWithoutAll (take (n + 1) pairs) all new
without-next pairs n pair d all left new lt is so_far goes x =
    let one : suc n ≡ n + 1 = omega arith in
    goes x ∙ ap (λ b. not (x == pair.0) && b) (so_far x) ∙ ap (λ b. not b && (not (has x (xids_in (take n pairs))) && contains nat_cmp all x)) (eqb_flip x pair.0)
    ∙ joined (pair.0 == x) (has x (xids_in (take n pairs))) (contains nat_cmp all x)
    ∙ ap (λ (p : ℕ × ℕ). not ((p.0 == x) || has x (xids_in (take n pairs))) && contains nat_cmp all x) (sym is)
    ∙ ap (λ b. not b && contains nat_cmp all x) (sym (pairs-next x pairs n d lt) ∙ ap (λ k. has x (xids_in (take k pairs))) one)
  where
    joined : (a b c : Bool) → (not a && (not b && c)) ≡ (not (a || b) && c)
    joined true b c = refl
    joined false b c = refl

-- a decided xid that nothing is prepared under needs no call
pub settles_still : {T : Type 0} (it : Working) (left : BTreeSet ℕ) (xid number : ℕ) (result : Result T EngineFault) (d : Disk) → IsIdle it d → HasPrepared left it.state.gist
    → contains nat_cmp left xid ≡ false → (IsDevice result → ⊥) → Turns it.kind it.reading result (resolved_state xid number it.state) it.state it.state it.holds d d
settles_still it left xid number result d idle prepared none no_device =
    turns_still it.kind it.reading result (resolved_state xid number it.state) it.state it.holds d
    (on_ok result (resolved_still xid number it.state idle.begun (none_of xid it.state.gist.prepared (sym (prepared xid) ∙ none))))
    no_device
    (λ told. let files = idle.files told in (files.0, subst (λ (s : EngineState). EachReads it.reading s.kept (files_in it.kind.files d)) (sym idle.begun) files.1))
  where
    on_ok : {X : Type 0} {P : Type 0} (r : Result X EngineFault) → P → OnOk r P
    on_ok (Ok value) p = p
    on_ok (Err fault) p = tt

-- commits

pub so_far_begins : (was : Working) (pairs : List (ℕ × ℕ)) (left : BTreeSet ℕ) (d : Disk) → IsIdle was d → HasPrepared left was.state.gist → SoFar was was pairs 0 left left d d
so_far_begins was pairs left d idle has = record {
  idle = idle;
  prepared = has;
  without = λ x. refl;
  fewer = omega arith;
  ran = λ aim fits aims. ran_none was aim d idle aims;
  on_way = λ aim fits aims. on_way_at_first was.kind aim was.state.gist aims;
  last = λ bound all within. within;
}

-- While the pair at a place has its turn the run goes on.
pub ran_resolved : {T : Type 0} (was it new : Working) (pairs : List (ℕ × ℕ)) (count : ℕ) (pair d : ℕ × ℕ) (result : Result T EngineFault) (all left : BTreeSet ℕ) (start a b : Disk)
    → SoFar was it pairs count all left start a → count < length pairs → get_or pairs count d ≡ pair
    → IsSame it.kind new.kind it.reading new.reading → Turns it.kind it.reading result (resolved_state pair.0 pair.1 it.state) it.state new.state new.holds a b
    → (aim : Option (List Transaction)) → Fits aim pairs → Aims was.kind aim was.state.gist → Ran was new aim start b
ran_resolved was it new pairs count pair d result all left start a b far lt is same turns aim fits aims =
    ran_call was it new aim result (resolved_state pair.0 pair.1 it.state) start a b (far.ran aim fits aims) same turns
    (kept_aims was.kind aim it.state (resolved_state pair.0 pair.1 it.state) far.idle.begun (resolved_begun pair.0 pair.1 it.state far.idle.begun)
    (aims_on_way was.kind aim count it.state.gist way)
    (aims_on_way was.kind aim (suc count) (resolved_state pair.0 pair.1 it.state).gist (on_way-resolved was.kind aim pairs count pair d it.state fits lt is way)))
  where
    way : IsOnWay was.kind aim count it.state.gist
    way = far.on_way aim fits aims

-- the number of the pair at a place is within what all are
number_at : (bound : ℕ) (pairs : List (ℕ × ℕ)) (n : ℕ) (d : ℕ × ℕ) → n < length pairs → All (λ (pair : ℕ × ℕ). pair.1 ≤ bound) pairs → (get_or pairs n d).1 ≤ bound
number_at bound [] n d lt all = absurd (omega (arith, lt))
number_at bound (p ∷ pairs) zero d lt all = All-head (λ (pair : ℕ × ℕ). pair.1 ≤ bound) p pairs all
number_at bound (p ∷ pairs) (suc n) d lt all = number_at bound pairs n d (omega (arith, lt)) (All-tail (λ (pair : ℕ × ℕ). pair.1 ≤ bound) p pairs all)

-- a commit by xid leaves the last number, or makes it this one
last-resolved : (bound xid number : ℕ) (gist : Gist) → number ≤ bound → gist.last ≤ bound → (resolved (prepared_with xid gist.prepared) number gist).last ≤ bound
last-resolved bound xid number gist low within = go (prepared_with xid gist.prepared)
  where
    either : (b : Bool) (g h : Gist) → g.last ≤ bound → h.last ≤ bound → (cond b g h).last ≤ bound
    either true g h one other = one
    either false g h one other = other

    go : (o : Option Prepared) → (resolved o number gist).last ≤ bound
    go None = within
    go (Some it) = either (nat_lt gist.last number && all_apply it.changes gist.tables) (after_commit it number gist) (after_rollback it.xid gist) low within

-- One pair more is decided.
pub so_far_next : {T : Type 0} (was it new : Working) (pairs : List (ℕ × ℕ)) (count : ℕ) (pair d : ℕ × ℕ) (value : T) (all left rest : BTreeSet ℕ) (start a b : Disk)
    → SoFar was it pairs count all left start a → count < length pairs → get_or pairs count d ≡ pair
    → IsSame it.kind new.kind it.reading new.reading → Turns it.kind it.reading (Ok value) (resolved_state pair.0 pair.1 it.state) it.state new.state new.holds a b
    → IsWithout pair.0 left rest → length rest.keys ≤ length left.keys → SoFar was new pairs (count + 1) all rest start b
so_far_next was it new pairs count pair d value all left rest start a b far lt is same turns without fewer =
    let one : suc count ≡ count + 1 = omega arith in
    record {
      idle = idle_after it new value (resolved_state pair.0 pair.1 it.state) a b same turns (resolved_begun pair.0 pair.1 it.state far.idle.begun);
      prepared = subst (λ (s : EngineState). HasPrepared rest s.gist) (sym turns.ok) (HasPrepared-resolved left rest pair.0 pair.1 it.state far.prepared without);
      without = without-next pairs count pair d all left rest lt is far.without without;
      fewer = omega (arith, fewer, far.fewer);
      ran = ran_resolved was it new pairs count pair d (Ok value) all left start a b far lt is same turns;
      on_way = λ aim fits aims.
          subst (λ k. IsOnWay was.kind aim k new.state.gist) one
          (subst (λ (s : EngineState). IsOnWay was.kind aim (suc count) s.gist) (sym turns.ok) (on_way-resolved was.kind aim pairs count pair d it.state fits lt is (far.on_way aim fits aims)));
      last = λ bound all within.
          subst (λ (s : EngineState). s.gist.last ≤ bound) (sym turns.ok)
          (last-resolved bound pair.0 pair.1 it.state.gist (subst (λ (p : ℕ × ℕ). p.1 ≤ bound) is (number_at bound pairs count d lt all)) (far.last bound all within));
    }

-- rollbacks

pub rolling_begins : (was : Working) (left : BTreeSet ℕ) (d : Disk) → IsIdle was d → HasPrepared left was.state.gist → RollingBack was was left d d
rolling_begins was left d idle has = record {
  idle = idle;
  prepared = has;
  ran = λ aim place end way. ran_none was aim d idle (aims_on_way was.kind aim place was.state.gist way);
  on_way = λ aim place end way. way;
  last = refl;
}

-- While an xid that is left has its turn the run goes on.
pub ran_dropped : {T : Type 0} (was it new : Working) (xid : ℕ) (result : Result T EngineFault) (left : BTreeSet ℕ) (start a b : Disk)
    → RollingBack was it left start a → contains nat_cmp left xid ≡ true
    → IsSame it.kind new.kind it.reading new.reading → Turns it.kind it.reading result (dropped_state xid it.state) it.state new.state new.holds a b
    → (aim : Option (List Transaction)) (place : ℕ) → IsEnd aim place → IsOnWay was.kind aim place was.state.gist → Ran was new aim start b
ran_dropped was it new xid result left start a b far is same turns aim place end begun =
    ran_call was it new aim result (dropped_state xid it.state) start a b (far.ran aim place end begun) same turns
    (kept_aims was.kind aim it.state (dropped_state xid it.state) far.idle.begun (dropped_begun xid it.state far.idle.begun)
    (aims_on_way was.kind aim place it.state.gist way)
    (aims_on_way was.kind aim place (dropped_state xid it.state).gist (on_way-dropped was.kind aim place xid it.state end (sym (far.prepared xid) ∙ is) way)))
  where
    way : IsOnWay was.kind aim place it.state.gist
    way = far.on_way aim place end begun

-- One xid more is rolled back.
pub rolling_next : {T : Type 0} (was it new : Working) (xid : ℕ) (value : T) (left rest : BTreeSet ℕ) (start a b : Disk)
    → RollingBack was it left start a → contains nat_cmp left xid ≡ true
    → IsSame it.kind new.kind it.reading new.reading → Turns it.kind it.reading (Ok value) (dropped_state xid it.state) it.state new.state new.holds a b
    → IsWithout xid left rest → RollingBack was new rest start b
rolling_next was it new xid value left rest start a b far is same turns without = record {
  idle = idle_after it new value (dropped_state xid it.state) a b same turns (dropped_begun xid it.state far.idle.begun);
  prepared = subst (λ (s : EngineState). HasPrepared rest s.gist) (sym turns.ok) (HasPrepared-dropped left rest xid it.state far.prepared without);
  ran = ran_dropped was it new xid (Ok value) left start a b far is same turns;
  on_way = λ aim place end begun.
      subst (λ (s : EngineState). IsOnWay was.kind aim place s.gist) (sym turns.ok)
      (on_way-dropped was.kind aim place xid it.state end (sym (far.prepared xid) ∙ is) (far.on_way aim place end begun));
  last = ap (λ (s : EngineState). s.gist.last) turns.ok ∙ far.last;
}
