-- How an engine trails a log under each step: commit, rollback, prepare, and a log that grows or is cut.
use Rattle.std.proofs.Common.{◌≡◌, ℕ, zero, suc, ◌+◌, ◌-◌, ◌≤◌, ◌<◌, List, [], ◌∷◌, ◌++◌, Some, None, Bool, true, false, cond, refl, sym, ap, subst, ◌∙◌, arith, take, length, get_or, inl, inr, ◌⊎◌}
use Rattle.std.specs.Prelude.{◌≢◌, slice_get, Contains, filter, not, ◌==◌, ◌&&◌}
use Rattle.std.proofs.lemmas.List.{take-append-le, length-append}
use Rattle.std.proofs.lemmas.Option.{slice_get_within}
use Rattle.std.proofs.lemmas.Bool.{ne_eqb}
use Rattle.std.proofs.lemmas.Bool.Decides.{eqb_tells}
use Rattle.std.proofs.lemmas.List.Elements.{All-contains, All-filter, All-contains_itself, Contains-append_left, Contains-append_right, Contains-push_cases, filter_passes}
use Rattle.row_format.specs.declared.change.Change.{Change}
use Rattle.row_format.specs.declared.change.Transaction.{Transaction}
use Rattle.log_tables.specs.declared.gist.Prepared.{Prepared}
use Rattle.log_tables.specs.declared.table.Table.{Table}
use Rattle.log_tables.specs.declared.gist.Gist.{Gist}
use Rattle.log_tables.specs.Tables.{part_of}
use Rattle.log_tables.specs.Changes.{after_change, after_changes, after_all, all_apply, applies, changes_on, is_on, tables_after, EachApplies}
use Rattle.log_tables.specs.Gists.{without_xid, after_commit, after_rollback, after_prepare, empty_gist}
use Rattle.log_tables.proofs.PartLemmas.{cases, cond_true, cond_false, change-own, change-other, changes-other, changes-part, applies-part}
use Rattle.recovery_rules.specs.Places.{tables_at, part_at, share_at, IsDistinct, IsQuiet, IsNew}
use Rattle.recovery_rules.specs.Trails.{LogApplies, Trails, IsAtLog, IsNext, NonePrepared, IsReady}

after_all-next : (log : List Transaction) (place : ℕ) (it : Transaction) (ts : List Table) → slice_get log place ≡ Some it
    → after_all (take (suc place) log) ts ≡ after_changes it.changes (after_all (take place log) ts)
after_all-next [] place it ts h = absurd (none h)
  where
    none : None ≡ Some it → ⊥
    none q = cc
after_all-next (t ∷ log) zero it ts h = ap (λ x. after_changes x.changes ts) (same h)
  where
    same : {a b : Transaction} → Some a ≡ Some b → a ≡ b
    same q = cc
after_all-next (t ∷ log) (suc place) it ts h = after_all-next log place it (after_changes t.changes ts) h

-- The tables after the transaction at a place: its changes, on the tables before it.
tables_after-take-suc : (log : List Transaction) (place : ℕ) (it : Transaction) → slice_get log place ≡ Some it
    → tables_after (take (suc place) log) ≡ after_changes it.changes (tables_after (take place log))
tables_after-take-suc log place it h = after_all-next log place it [] h

some_same : {X : Type 0} {a b : X} → Some a ≡ Some b → a ≡ b
some_same q = cc

uncons : {X : Type 0} (y : X) (ys : List X) (x : X) (k : ℕ) → k < length (y ∷ ys) → get_or (y ∷ ys) k x ≡ x → (y ≡ x) ⊎ Contains ys x
uncons y ys x zero h q = inl q
uncons y ys x (suc k) h q = inr (k, omega arith, q)

first_is : {X : Type 0} (y : X) (ys : List X) (x : X) → y ≡ x → Contains (y ∷ ys) x
first_is y ys x q = (0, omega arith, q)

-- what passes the test stays
Contains-filter : {X : Type 0} (test : X → Bool) (xs : List X) (x : X) → test x ≡ true → Contains xs x → Contains (filter test xs) x
Contains-filter test [] x h m = m
Contains-filter test (y ∷ ys) x h m = elim (uncons y ys x m.0 m.1 m.2) [
  | inl here ↦ subst (λ zs. Contains zs x) (sym (cond_true (test y) (y ∷ filter test ys) (filter test ys) (ap test here ∙ h))) (first_is y (filter test ys) x here)
  | inr later ↦
      let rest = Contains-filter test ys x h later in
      elim (cases (test y)) as (λ _. Contains (cond (test y) (y ∷ filter test ys) (filter test ys)) x) [
        | inl kept ↦ subst (λ zs. Contains zs x) (sym (cond_true (test y) (y ∷ filter test ys) (filter test ys) kept)) (Contains-append_right (y ∷ []) (filter test ys) x rest)
        | inr gone ↦ subst (λ zs. Contains zs x) (sym (cond_false (test y) (y ∷ filter test ys) (filter test ys) gone)) rest
      ]
]

-- what is left was there and passes the test
Contains-filter_only : {X : Type 0} (test : X → Bool) (xs : List X) (x : X) → Contains (filter test xs) x → Contains xs x × (test x ≡ true)
Contains-filter_only test xs x m = (All-contains (Contains xs) (filter test xs) x (All-filter test (Contains xs) xs (All-contains_itself xs)) m, All-contains (λ y. test y ≡ true) (filter test xs) x (filter_passes test xs) m)

empty_contains : {X : Type 0} (x : X) → Contains [] x → ⊥
empty_contains x m = omega (arith, m.1)

true_false : true ≡ false → ⊥
true_false q = cc

eqb_same : (a : ℕ) → (a == a) ≡ true
eqb_same a = elim (eqb_tells a a) [ inl y ↦ y.0 | inr n ↦ absurd (n.1 refl) ]

-- the xid is another one
pub unlike : (a b : ℕ) → not (a == b) ≡ true → a ≢ b
unlike a b h = λ q. true_false (sym h ∙ ap not (ap (λ x. a == x) (sym q) ∙ eqb_same a))

pub unlike_test : (a b : ℕ) → a ≢ b → not (a == b) ≡ true
unlike_test a b h = ap not (ne_eqb a b h)

-- a list is empty or not
pub empty_or_not : {X : Type 0} (xs : List X) → (xs ≡ []) ⊎ (xs ≢ [])
empty_or_not [] = inl refl
empty_or_not (x ∷ xs) = inr (λ q. (cc))

-- within the log there is a transaction
at_place : (log : List Transaction) (place : ℕ) → place < length log → (it : Transaction) × (slice_get log place ≡ Some it)
at_place [] place h = absurd (omega arith)
at_place (t ∷ log) zero h = (t, refl)
at_place (t ∷ log) (suc place) h = at_place log place (omega arith)

-- One transaction that does not touch the engine leaves its part.
pub part-untouched : (e : List ℕ) (log : List Transaction) (place : ℕ) (it : Transaction) → slice_get log place ≡ Some it
    → part_at e log place it ≡ [] → part_of e (tables_at log (suc place)) ≡ part_of e (tables_at log place)
part-untouched e log place it at none = ap (part_of e) (tables_after-take-suc log place it at) ∙ changes-other e it.changes (tables_at log place) none

-- One transaction whose changes apply: its share does in the part what it does in all.
pub part-touched : (e : List ℕ) (log : List Transaction) (place : ℕ) (it : Transaction) → slice_get log place ≡ Some it
    → LogApplies e log → part_of e (tables_at log (suc place)) ≡ after_changes (part_at e log place it) (part_of e (tables_at log place))
part-touched e log place it at a = ap (part_of e) (tables_after-take-suc log place it at) ∙ changes-part e it.changes (tables_at log place) (a.applies place it at)

quiet_part : (e : List ℕ) (log : List Transaction) (n from to : ℕ) → to ≡ from + n → to ≤ length log → IsQuiet e log from to
    → part_of e (tables_at log to) ≡ part_of e (tables_at log from)
quiet_part e log zero from to q within quiet = ap (λ k. part_of e (tables_at log k)) (let r : to ≡ from = omega arith in r)
quiet_part e log (suc n) from to q within quiet =
    let r : to ≡ suc (from + n) = omega arith in
    let it = at_place log (from + n) (omega arith) in
    ap (λ k. part_of e (tables_at log k)) r
    ∙ part-untouched e log (from + n) it.0 it.1 (quiet.untouched (from + n) it.0 it.1 (omega arith) (omega arith))
    ∙ quiet_part e log n from (from + n) refl (omega arith) (record { untouched = λ place t at low high. quiet.untouched place t at low (omega arith) })

-- A stretch of the log that does not touch the engine leaves its part.
pub part-quiet : (e : List ℕ) (log : List Transaction) (from to : ℕ) → from ≤ to → to ≤ length log → IsQuiet e log from to
    → part_of e (tables_at log to) ≡ part_of e (tables_at log from)
part-quiet e log from to low within quiet = quiet_part e log (to - from) from to (omega arith) within quiet

-- what is left of the prepared ones was there and has another xid
pub left_over : (xid : ℕ) (ps : List Prepared) (p : Prepared) → Contains (without_xid xid ps) p → Contains ps p × (p.xid ≢ xid)
left_over xid ps p m =
    let both = Contains-filter_only (λ it. not (it.xid == xid)) ps p m in
    (both.0, unlike p.xid xid both.1)

still_there : (xid : ℕ) (ps : List Prepared) (p : Prepared) → p.xid ≢ xid → Contains ps p → Contains (without_xid xid ps) p
still_there xid ps p h m = Contains-filter (λ it. not (it.xid == xid)) ps p (unlike_test p.xid xid h) m

-- A commit of the next transaction that touches the engine keeps it on the way to the log.
pub Trails-after_commit : (e : List ℕ) (log : List Transaction) (gist : Gist) (place : ℕ) (it : Transaction)
    → IsDistinct log → Trails e log gist → IsNext e log gist place it
    → Trails e log (after_commit (share_at e log place it) (suc place) gist)
Trails-after_commit e log gist place it distinct t next =
    let at = next.at in
    let low = next.later in
    let quiet = next.quiet in
    let inside : place < length log = slice_get_within log place it at in
    record {
      not_ahead = inside;
      tables =
          ap (after_changes (part_at e log place it)) (t.tables ∙ sym (part-quiet e log gist.last place low (omega (arith, inside)) quiet))
          ∙ sym (part-touched e log place it at t.applies);
      applies = t.applies;
      rest_prepared = λ k other at' beyond touches.
          still_there it.xid gist.prepared (share_at e log k other)
          (λ same. absurd (omega (arith, distinct.same_place k place other it at' at same)))
          (t.rest_prepared k other at' (omega (arith, beyond)) touches);
      no_stray = λ k other p at' m same.
          let left = left_over it.xid gist.prepared p m in
          let owed = t.no_stray k other p at' left.0 same in
          let not_it : k ≢ place = λ q. left.1 (same ∙ ap (λ x. x.xid) (some_same (sym at' ∙ ap (slice_get log) q ∙ at))) in
          let not_before : k < place → ⊥ = λ h. owed.touches (quiet.untouched k other at' owed.later h) in
          record { later = beyond_it k place not_it not_before; touches = owed.touches; is = owed.is };
    }
  where
    beyond_it : (k n : ℕ) → k ≢ n → (k < n → ⊥) → suc n ≤ k
    beyond_it k n apart h = omega arith

-- A rollback of what is not in the log keeps the engine on the way to the log.
pub Trails-after_rollback : (e : List ℕ) (log : List Transaction) (gist : Gist) (xid : ℕ) → IsNew xid log → Trails e log gist → Trails e log (after_rollback xid gist)
Trails-after_rollback e log gist xid new t = record {
  not_ahead = t.not_ahead;
  tables = t.tables;
  applies = t.applies;
  rest_prepared = λ k other at beyond touches. still_there xid gist.prepared (share_at e log k other) (new.unlike k other at) (t.rest_prepared k other at beyond touches);
  no_stray = λ k other p at m same. t.no_stray k other p at (left_over xid gist.prepared p m).0 same;
}

-- A prepare of a transaction that is not in the log keeps the engine on the way to the log.
pub Trails-after_prepare : (e : List ℕ) (log : List Transaction) (gist : Gist) (it : Prepared) → IsNew it.xid log → Trails e log gist → Trails e log (after_prepare it gist)
Trails-after_prepare e log gist it new t = record {
  not_ahead = t.not_ahead;
  tables = t.tables;
  applies = t.applies;
  rest_prepared = λ k other at beyond touches. Contains-append_left gist.prepared (it ∷ []) (share_at e log k other) (t.rest_prepared k other at beyond touches);
  no_stray = λ k other p at m same. elim (Contains-push_cases gist.prepared it p m) [
    | inl old ↦ t.no_stray k other p at old same
    | inr fresh ↦ absurd (new.unlike k other at (sym same ∙ sym (ap (λ (x : Prepared). x.xid) fresh)))
  ];
}

-- The last number may pass over transactions that do not touch the engine.
pub Trails-skip : (e : List ℕ) (log : List Transaction) (gist : Gist) (to : ℕ) → gist.last ≤ to → to ≤ length log → IsQuiet e log gist.last to
    → Trails e log gist → Trails e log (record { tables = gist.tables; prepared = gist.prepared; last = to })
Trails-skip e log gist to low within quiet t = record {
  not_ahead = within;
  tables = t.tables ∙ sym (part-quiet e log gist.last to low within quiet);
  applies = t.applies;
  rest_prepared = λ k other at beyond touches. t.rest_prepared k other at (omega (arith, beyond)) touches;
  no_stray = λ k other p at m same.
      let owed = t.no_stray k other p at m same in
      let not_before : k < to → ⊥ = λ h. owed.touches (quiet.untouched k other at owed.later h) in
      record { later = not_below k to not_before; touches = owed.touches; is = owed.is };
}
  where
    not_below : (k n : ℕ) → (k < n → ⊥) → n ≤ k
    not_below k n h = omega arith

-- An engine that is on the way to the log and has nothing prepared has the tables of the log.
pub IsAtLog-none_prepared : (e : List ℕ) (log : List Transaction) (gist : Gist) → Trails e log gist → gist.prepared ≡ [] → IsAtLog e log gist
IsAtLog-none_prepared e log gist t none = record {
  tables = t.tables ∙ sym (part-quiet e log gist.last (length log) t.not_ahead (omega arith) quiet) ∙ ap (λ xs. part_of e (tables_after xs)) (take_all log);
  none_prepared = none;
}
  where
    take_all : (xs : List Transaction) → take (length xs) xs ≡ xs
    take_all [] = refl
    take_all (x ∷ xs) = ap (λ ys. x ∷ ys) (take_all xs)

    quiet : IsQuiet e log gist.last (length log)
    quiet = record {
      untouched = λ k other at low high. elim (empty_or_not (part_at e log k other)) [
        | inl q ↦ q
        | inr touches ↦ absurd (empty_contains (share_at e log k other) (subst (λ ps. Contains ps (share_at e log k other)) none (t.rest_prepared k other at low touches)))
      ];
    }

both_true : (a b : Bool) → a ≡ true → b ≡ true → (a && b) ≡ true
both_true a b p q = ap (λ x. x && b) p ∙ q

-- The changes on an engine apply to its part, one after the other.
all_apply-part : (e : List ℕ) (cs : List Change) (ts : List Table) → EachApplies e cs ts → all_apply (changes_on e cs ts) (part_of e ts) ≡ true
all_apply-part e [] ts a = refl
all_apply-part e (c ∷ cs) ts a = elim (cases (is_on e c ts)) [
  | inl on ↦
      ap (λ xs. all_apply xs (part_of e ts)) (cond_true (is_on e c ts) (c ∷ changes_on e cs (after_change c ts)) (changes_on e cs (after_change c ts)) on)
      ∙ both_true (applies c (part_of e ts)) (all_apply (changes_on e cs (after_change c ts)) (after_change c (part_of e ts)))
      (applies-part e c ts on (a.0 on))
      (ap (all_apply (changes_on e cs (after_change c ts))) (sym (change-own e c ts on (a.0 on))) ∙ all_apply-part e cs (after_change c ts) a.1)
  | inr off ↦
      ap (λ xs. all_apply xs (part_of e ts)) (cond_false (is_on e c ts) (c ∷ changes_on e cs (after_change c ts)) (changes_on e cs (after_change c ts)) off)
      ∙ ap (all_apply (changes_on e cs (after_change c ts))) (sym (change-other e c ts off)) ∙ all_apply-part e cs (after_change c ts) a.1
]

-- What the engine may commit next applies to its tables.
pub next-applies : (e : List ℕ) (log : List Transaction) (gist : Gist) (place : ℕ) (it : Transaction) → Trails e log gist → IsNext e log gist place it
    → all_apply (part_at e log place it) gist.tables ≡ true
next-applies e log gist place it t next =
    let inside : place < length log = slice_get_within log place it next.at in
    ap (all_apply (part_at e log place it)) (t.tables ∙ sym (part-quiet e log gist.last place next.later (omega (arith, inside)) next.quiet))
    ∙ all_apply-part e it.changes (tables_at log place) (t.applies.applies place it next.at)

-- Where no earlier transaction of the log is prepared, an engine may commit this one next.
pub next-first : (e : List ℕ) (log : List Transaction) (gist : Gist) (place : ℕ) (it : Transaction) → Trails e log gist
    → slice_get log place ≡ Some it → gist.last ≤ place → NonePrepared log gist place → IsNext e log gist place it
next-first e log gist place it t at later none = record {
  at = at;
  later = later;
  quiet = record {
    untouched = λ k other there low high. elim (empty_or_not (part_at e log k other)) [
      | inl q ↦ q
      | inr touches ↦ absurd (none.unlike k other (share_at e log k other) there high (t.rest_prepared k other there low touches) refl)
    ];
  };
}

-- An engine with nothing trails a log with nothing.
pub Trails-empty : (e : List ℕ) → Trails e [] empty_gist
Trails-empty e = record {
  not_ahead = omega arith;
  tables = refl;
  applies = record { applies = λ k it at. absurd (nothing k it at) };
  rest_prepared = λ k it at. absurd (nothing k it at);
  no_stray = λ k it p at. absurd (nothing k it at);
}
  where
    nothing : (k : ℕ) (it : Transaction) → slice_get [] k ≡ Some it → ⊥
    nothing k it q = cc

-- a longer log

pub before_end : (log more : List Transaction) (place : ℕ) (it : Transaction) → slice_get log place ≡ Some it → slice_get (log ++ more) place ≡ Some it
before_end [] more place it h = absurd (none h)
  where
    none : None ≡ Some it → ⊥
    none q = cc
before_end (t ∷ log) more zero it h = h
before_end (t ∷ log) more (suc place) it h = before_end log more place it h

pub in_longer : (log : List Transaction) (last it : Transaction) (place : ℕ) → slice_get (log ++ last ∷ []) place ≡ Some it → (slice_get log place ≡ Some it) ⊎ ((place ≡ length log) × (last ≡ it))
in_longer [] last it zero h = inr (refl, some_same h)
in_longer [] last it (suc place) h = absurd (none h)
  where
    none : None ≡ Some it → ⊥
    none q = cc
in_longer (t ∷ log) last it zero h = inl h
in_longer (t ∷ log) last it (suc place) h = elim (in_longer log last it place h) [ inl x ↦ inl x | inr y ↦ inr (ap suc y.0, y.1) ]

-- what stands behind a place does not matter there
tables_at-longer : (log more : List Transaction) (place : ℕ) → place ≤ length log → tables_at (log ++ more) place ≡ tables_at log place
tables_at-longer log more place h = ap tables_after (take-append-le place log more h)

part_at-longer : (e : List ℕ) (log more : List Transaction) (place : ℕ) (it : Transaction) → place ≤ length log → part_at e (log ++ more) place it ≡ part_at e log place it
part_at-longer e log more place it h = ap (changes_on e it.changes) (tables_at-longer log more place h)

share_at-longer : (e : List ℕ) (log more : List Transaction) (place : ℕ) (it : Transaction) → place ≤ length log → share_at e (log ++ more) place it ≡ share_at e log place it
share_at-longer e log more place it h = ap (λ cs. record { xid = it.xid; changes = cs }) (part_at-longer e log more place it h)

-- A log cut at its end keeps each engine that is not ahead of it on the way.
pub Trails-cut : (e : List ℕ) (log more : List Transaction) (gist : Gist) → gist.last ≤ length log → Trails e (log ++ more) gist → Trails e log gist
Trails-cut e log more gist low t = record {
  not_ahead = low;
  tables = t.tables ∙ ap (part_of e) (tables_at-longer log more gist.last low);
  applies = record { applies = λ k it at. subst (EachApplies e it.changes) (tables_at-longer log more k (within k it at)) (t.applies.applies k it (before_end log more k it at)) };
  rest_prepared = λ k it at beyond touches.
      subst (Contains gist.prepared) (share_at-longer e log more k it (within k it at))
      (t.rest_prepared k it (before_end log more k it at) beyond (λ q. touches (sym (part_at-longer e log more k it (within k it at)) ∙ q)));
  no_stray = λ k it p at m same.
      let owed = t.no_stray k it p (before_end log more k it at) m same in
      record { later = owed.later; touches = λ q. owed.touches (part_at-longer e log more k it (within k it at) ∙ q); is = owed.is ∙ share_at-longer e log more k it (within k it at) };
}
  where
    within : (k : ℕ) (it : Transaction) → slice_get log k ≡ Some it → k ≤ length log
    within k it at = let h : k < length log = slice_get_within log k it at in omega (arith, h)

-- A transaction at the end of the log that the engine is ready for keeps it on the way.
pub Trails-append : (e : List ℕ) (log : List Transaction) (last : Transaction) (gist : Gist) → IsReady e log last gist
    → Trails e log gist → Trails e (log ++ last ∷ []) gist
Trails-append e log last gist ready t = record {
  not_ahead = longer;
  tables = t.tables ∙ sym (ap (part_of e) (tables_at-longer log (last ∷ []) gist.last t.not_ahead));
  applies = record {
    applies = λ k it at. elim (in_longer log last it k at) [
      | inl old ↦ subst (EachApplies e it.changes) (sym (tables_at-longer log (last ∷ []) k (within k it old))) (t.applies.applies k it old)
      | inr new ↦ subst (λ (x : Transaction). EachApplies e x.changes (tables_at (log ++ last ∷ []) k)) new.1
          (subst (λ n. EachApplies e last.changes (tables_at (log ++ last ∷ []) n)) (sym new.0)
          (subst (EachApplies e last.changes) (sym (tables_at-longer log (last ∷ []) (length log) (omega arith) ∙ ap tables_after (take_all log))) ready.applies))
    ];
  };
  rest_prepared = λ k it at beyond touches. elim (in_longer log last it k at) [
    | inl old ↦ subst (Contains gist.prepared) (sym (share_at-longer e log (last ∷ []) k it (within k it old)))
        (t.rest_prepared k it old beyond (λ q. touches (part_at-longer e log (last ∷ []) k it (within k it old) ∙ q)))
    | inr new ↦ subst (Contains gist.prepared) (sym (share_here k it new.0 new.1))
        (ready.prepared (λ q. touches (ap (λ (x : Prepared). x.changes) (share_here k it new.0 new.1) ∙ q)))
  ];
  no_stray = λ k it p at m same. elim (in_longer log last it k at) [
    | inl old ↦
        let owed = t.no_stray k it p old m same in
        record { later = owed.later; touches = λ q. owed.touches (sym (part_at-longer e log (last ∷ []) k it (within k it old)) ∙ q); is = owed.is ∙ sym (share_at-longer e log (last ∷ []) k it (within k it old)) }
    | inr new ↦
        let it_is = ready.only p m (same ∙ sym (ap (λ (x : Transaction). x.xid) new.1)) in
        record {
          later = omega (arith, new.0, t.not_ahead);
          touches = λ q. it_is.touches (sym (ap (λ (x : Prepared). x.changes) (share_here k it new.0 new.1)) ∙ q);
          is = it_is.is ∙ sym (share_here k it new.0 new.1);
        }
  ];
}
  where
    longer : gist.last ≤ length (log ++ last ∷ [])
    longer = omega (arith, length-append log (last ∷ []), t.not_ahead)

    within : (k : ℕ) (it : Transaction) → slice_get log k ≡ Some it → k ≤ length log
    within k it at = let h : k < length log = slice_get_within log k it at in omega (arith, h)

    take_all : (xs : List Transaction) → take (length xs) xs ≡ xs
    take_all [] = refl
    take_all (x ∷ xs) = ap (λ ys. x ∷ ys) (take_all xs)

    share_here : (k : ℕ) (it : Transaction) → k ≡ length log → last ≡ it → share_at e (log ++ last ∷ []) k it ≡ share_at e log (length log) last
    share_here k it q r = ap (share_at e (log ++ last ∷ []) k) (sym r) ∙ ap (λ n. share_at e (log ++ last ∷ []) n last) q ∙ share_at-longer e log (last ∷ []) (length log) last (omega arith)
