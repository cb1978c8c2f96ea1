-- Events tell one transaction.
use Rattle.std.proofs.Common.{◌≡◌, ℕ, ◌<◌, ◌^◌, true, false, List, [], ◌∷◌, ◌++◌, length, Some, None, refl, sym, ap, subst, ◌∙◌, append_assoc, arith, inl, inr}
use Rattle.std.specs.Prelude.{◌==◌, ◌&&◌, nat_lt}
use Rattle.std.specs.Int.{w64, from_le_bytes}
use Rattle.std.specs.Str.{bytes_eq}
use Rattle.std.proofs.lemmas.Bool.{eqb-true, eq-eqb, cases_Bool, cond-true, cond-false, and_parts, and_from, lt-ltb, ne_eqb}
use Rattle.std.proofs.lemmas.List.{append-nil}
use Rattle.std.proofs.lemmas.Slice.Eq.{bytes_eq-Decides}
use Rattle.frame_codec.specs.Bytes.{le64}
use Rattle.frame_codec.specs.Frame.{Event}
use Rattle.frame_codec.proofs.FrameLemmas.{length-le64}
use Rattle.row_format.specs.declared.change.Change.{Change}
use Rattle.row_format.specs.declared.change.Transaction.{Transaction}
use Rattle.row_format.specs.Changes.{AreFitChanges}
use Rattle.binlog_events.specs.Changes.{change_events}
use Rattle.binlog_events.specs.Transaction.{begin, xid_event, events_of, IsFit}
use Rattle.row_format.specs.Reading.{◌>>=◌, where_so}
use Rattle.binlog_events.specs.Walking.{Before, Other, RowOf, MapOf, Item, map_before, item_at, may_end, event_item, Ending, with_changes, xid_ends, told_in, is_begin, transaction_in}
use Rattle.row_format.proofs.PieceLemmas.{IsBytes, bind_some, some_is, where_some, where_true, le64_back, le64_again, le64_below}
use Rattle.binlog_events.proofs.WalkLemmas.{IsKnown, Follows, Leads, item_takes, Reads, changes_again}

-- an event that is read as an item is no XID
no_xid : (before : Before) (bytes : List ℕ) → item_at before 16 bytes ≡ None
unfolding item_at
no_xid Other bytes = refl
no_xid (RowOf map) bytes = refl
no_xid (MapOf map) bytes = refl

pub not_xid : (before : Before) (kind : ℕ) (bytes : List ℕ) (it : Item × List ℕ) → item_at before kind bytes ≡ Some it → (kind == 16) ≡ false
not_xid before kind bytes it is = ne_eqb kind 16 (λ at. nothing (sym (no_xid before bytes) ∙ ap (λ (k : ℕ). item_at before k bytes) (sym at) ∙ is))
  where
    nothing : None ≡ Some it → ⊥
    nothing e = cc

event_item_again : (before : Before) (event : Event) (it : Item) → item_at before event.kind (event.body ++ []) ≡ Some (it, []) → event_item before event ≡ Some it
unfolding event_item
event_item_again before event it is =
    let read : item_at before event.kind event.body ≡ Some (it, []) = ap (item_at before event.kind) (sym (append-nil event.body)) ∙ is in
    rw read refl

pub told_again : (events : List Event) (before end : Before) (changes : List Change) (xid : ℕ) (behind : List Event) → may_end end ≡ true → xid < 2 ^ 64 → Reads before events changes end
    → told_in before (events ++ xid_event xid ∷ behind) ≡ Some (record { changes = changes; xid = xid; behind = behind })
unfolding told_in
told_again [] before end changes xid behind ends small reads =
    let may : may_end before ≡ true = ap may_end (sym reads.1) ∙ ends in
    let eight : (length (le64 xid) == 8) ≡ true = eq-eqb _ _ (length-le64 xid) in
    where_true (may_end before && (length (le64 xid) == 8)) (record { changes = []; xid = from_le_bytes w64 (le64 xid); behind = behind }) (and_from _ _ may eight)
    ∙ ap (λ (n : ℕ). Some (record { changes = []; xid = n; behind = behind })) (le64_again xid small)
    ∙ ap (λ (l : List Change). Some (record { changes = l; xid = xid; behind = behind })) (sym reads.0)
told_again (event ∷ events) before end changes xid behind ends small reads =
    let other = not_xid before event.kind (event.body ++ []) (reads.0, []) (reads.2 []) in
    cond-false (event.kind == 16) (xid_ends before event.body (events ++ xid_event xid ∷ behind)) (event_item before event >>= λ it. told_in it.before (events ++ xid_event xid ∷ behind) >>= λ told. Some (with_changes it.changes told)) other
    ∙ rw (event_item_again before event reads.0 (reads.2 []), told_again events reads.0.before end reads.1 xid behind ends small reads.3)
    (ap (λ (l : List Change). Some (record { changes = l; xid = xid; behind = behind })) (sym reads.4))

pub transaction_again : (t : Transaction) (behind : List Event) → IsFit t → transaction_in (events_of t ++ behind) ≡ Some (t, behind)
unfolding transaction_in
transaction_again t behind fit =
    let read = changes_again Other t.changes refl fit.changes in
    let grouped : (change_events None t.changes ++ xid_event t.xid ∷ []) ++ behind ≡ change_events None t.changes ++ xid_event t.xid ∷ behind =
    append_assoc (change_events None t.changes) (xid_event t.xid ∷ []) behind in
    ap (λ (l : List Event). transaction_in (begin ∷ l)) grouped
    ∙ rw (told_again (change_events None t.changes) Other read.0 t.changes t.xid behind read.1 fit.xid read.2)
    (where_true (nat_lt 0 (length t.changes)) (record { xid = t.xid; changes = t.changes }, behind) (lt-ltb _ _ fit.some))

-- Events that begin with those of two transactions begin with those of one: no transaction begins another.
pub one_transaction : (t u : Transaction) (x y : List Event) → IsFit t → IsFit u → events_of t ++ x ≡ events_of u ++ y → (t ≡ u) × (x ≡ y)
one_transaction t u x y fit_t fit_u is =
    let both = some_is (t, x) (u, y) (sym (transaction_again t x fit_t) ∙ ap transaction_in is ∙ transaction_again u y fit_u) in
    (ap (λ (p : Transaction × List Event). p.0) both, ap (λ (p : Transaction × List Event). p.1) both)

-- The other way round. Events whose bodies are bytes:
abbrev pub AreByteEvents : List Event → Type 0
AreByteEvents [] = Unit {0}
AreByteEvents (event ∷ events) = IsBytes event.body × AreByteEvents events

-- what events that were read say
pub record ToldFrom (before : Before) (events : List Event) (told : Ending) : Type 0 where
  pub are : events ≡ change_events (map_before before) told.changes ++ xid_event told.xid ∷ told.behind
  pub xid : told.xid < 2 ^ 64
  pub fit : AreFitChanges told.changes
  pub follows : Follows before told.changes

nil_is : {A : Type 0} (xs : List A) → (length xs == 0) ≡ true → xs ≡ []
nil_is [] is = refl
nil_is (x ∷ xs) is = let at : length (x ∷ xs) ≡ 0 = eqb-true _ _ is in absurd (omega (arith, at))

free_at_end : (before : Before) → may_end before ≡ true → Follows before []
free_at_end Other ends = tt
free_at_end (RowOf map) ends = tt
free_at_end (MapOf map) ends = absurd cc

xid_takes : (before : Before) (event : Event) (events : List Event) (told : Ending) → (event.kind == 16) ≡ true → IsBytes event.body → xid_ends before event.body events ≡ Some told
    → ToldFrom before (event ∷ events) told
xid_takes before event events told kind fits is =
    let found = where_some (may_end before && (length event.body == 8)) (record { changes = []; xid = from_le_bytes w64 event.body; behind = events }) told is in
    let tests = and_parts (may_end before) (length event.body == 8) found.0 in
    let body : event.body ≡ le64 (from_le_bytes w64 event.body) = sym (le64_back event.body (eqb-true _ _ tests.1) fits) in
    let event_is : event ≡ xid_event (from_le_bytes w64 event.body) =
    ap (λ (k : ℕ). record { kind = k; body = event.body }) (eqb-true event.kind 16 kind) ∙ ap (λ (l : List ℕ). record { kind = 16; body = l }) body in
    subst (ToldFrom before (event ∷ events)) {x = record { changes = []; xid = from_le_bytes w64 event.body; behind = events }} found.1 (record {
      are = ap (λ (e : Event). e ∷ events) event_is;
      xid = le64_below event.body fits;
      fit = tt;
      follows = free_at_end before tests.0;
    })

pub told_takes : (before : Before) (events : List Event) (told : Ending) → IsKnown before → AreByteEvents events → told_in before events ≡ Some told → ToldFrom before events told
unfolding told_in event_item
told_takes before [] told known fits is = absurd cc
told_takes before (event ∷ events) told known fits is = elim (cases_Bool (event.kind == 16)) [
  | inl xid ↦
      xid_takes before event events told xid fits.0
      (sym (cond-true (event.kind == 16) (xid_ends before event.body events) (event_item before event >>= λ it. told_in it.before events >>= λ more. Some (with_changes it.changes more)) xid) ∙ is)
  | inr other ↦
      let a = bind_some (event_item before event) (λ it. told_in it.before events >>= λ more. Some (with_changes it.changes more)) told
      (sym (cond-false (event.kind == 16) (xid_ends before event.body events) (event_item before event >>= λ it. told_in it.before events >>= λ more. Some (with_changes it.changes more)) other) ∙ is) in
      let b = bind_some (item_at before event.kind event.body) (λ it. where_so (length it.1 == 0) it.0) a.0 a.1 in
      let whole = where_some (length b.0.1 == 0) b.0.0 a.0 b.2 in
      let d = bind_some (told_in a.0.before events) (λ more. Some (with_changes a.0.changes more)) told a.2 in
      let item = item_takes before event.kind event.body b.0 known fits.0 b.1 in
      let body : item.body ≡ event.body = sym (append-nil item.body) ∙ ap (λ (l : List ℕ). item.body ++ l) (sym (nil_is b.0.1 whole.0)) ∙ sym item.took.takes in
      let leads = subst (Leads before event.kind item.body) {x = b.0.0} whole.1 item.leads in
      let more = told_takes a.0.before events d.0 leads.known fits.1 d.1 in
      subst (ToldFrom before (event ∷ events)) {x = with_changes a.0.changes d.0} (some_is (with_changes a.0.changes d.0) told d.2) (record {
        are =
            ap (λ (l : List Event). event ∷ l) more.are
            ∙ ap (λ (l : List ℕ). record { kind = event.kind; body = l } ∷ (change_events (map_before a.0.before) d.0.changes ++ xid_event d.0.xid ∷ d.0.behind)) (sym body)
            ∙ ap (λ (l : List Event). l ++ xid_event d.0.xid ∷ d.0.behind) (sym (leads.events d.0.changes more.follows));
        xid = more.xid;
        fit = leads.fit d.0.changes more.fit;
        follows = leads.follows d.0.changes more.follows;
      })
]

pub begin_is : (event : Event) → is_begin event ≡ true → event ≡ begin
begin_is event is =
    let parts = and_parts (event.kind == 2) (bytes_eq event.body (1 ∷ [])) is in
    ap (λ (k : ℕ). record { kind = k; body = event.body }) (eqb-true event.kind 2 parts.0)
    ∙ ap (λ (l : List ℕ). record { kind = 2; body = l }) ((bytes_eq-Decides event.body (1 ∷ [])).0 parts.1)
