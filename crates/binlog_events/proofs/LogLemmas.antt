-- The frames of a transaction, read one after the other.
use Rattle.std.proofs.Common.{◌≡◌, ◌⊎◌, inl, inr, ⊎_elim, ℕ, ◌+◌, ◌-◌, ◌≤◌, ◌<◌, Bool, true, false, List, [], ◌∷◌, ◌++◌, length, Option, Some, None, refl, sym, ap, subst, ◌∙◌, append_assoc, arith, length-append}
use Rattle.std.specs.Prelude.{◌==◌, ◌&&◌}
use Rattle.std.specs.Int.{w64, from_le_bytes}
use Rattle.std.proofs.lemmas.Bool.{cond-true, cond-false, both_ways}
use Rattle.std.proofs.lemmas.List.{append-nil, append_cancel_left, take_at, drop_at}
use Rattle.frame_codec.specs.Bytes.{le16, le32}
use Rattle.frame_codec.specs.Frame.{Event, front_of, size_of, checksum_of, frame_of, limit, IsFrameAt}
use Rattle.frame_codec.specs.Chain.{chain_of, end_of, last_checksum, EndsWithin}
use Rattle.frame_codec.proofs.FrameLemmas.{one_event, length-frame_of}
use Rattle.frame_codec.proofs.ChainLemmas.{chain_of-nil, chain_of-cons, chain_of-append, end_of-append, last_checksum-append, end_of-le, length-chain_of}
use Rattle.framed_file.specs.Framed.{IsPrefix}
use Rattle.row_format.specs.declared.change.Change.{Change}
use Rattle.row_format.specs.declared.change.Transaction.{Transaction}
use Rattle.binlog_events.specs.declared.events.End.{End}
use Rattle.binlog_events.specs.declared.events.Found.{Found}
use Rattle.row_format.specs.declared.fault.Unread.{Unread}
use Rattle.row_format.specs.declared.fault.Unread.TheVariants.{Absent, Memory}
use Rattle.binlog_events.specs.Changes.{change_events}
use Rattle.binlog_events.specs.Transaction.{begin, xid_event, events_of, IsTransactionAt}
use Rattle.binlog_events.specs.Found.{NoTransactionAt, Finds}
use Rattle.binlog_events.specs.Frames.{IsNext, told_events, TellsChanges, NoChanges, FailsFor}
use Rattle.row_format.specs.Reading.{◌>>=◌, where_so, Fails}
use Rattle.binlog_events.specs.Walking.{Before, Other, Item, event_item, Ending, with_changes, xid_ends, xid_at, told_in, is_begin, may_end}
use Rattle.row_format.proofs.PieceLemmas.{IsBytes, IsBytes-take, IsBytes-drop, IsBytes-rest, some_is}
use Rattle.binlog_events.proofs.WalkLemmas.{changes_again}
use Rattle.binlog_events.proofs.WriteLemmas.{chain_of_one}
use Rattle.binlog_events.proofs.TransactionLemmas.{AreByteEvents, told_again, told_takes, begin_is}

-- of two chains at one place one is a first part of the other
pub chains_meet : (prev at : ℕ) (xs ys : List Event) (x y : List ℕ) → EndsWithin at xs → EndsWithin at ys → chain_of prev at xs ++ x ≡ chain_of prev at ys ++ y → IsPrefix xs ys ⊎ IsPrefix ys xs
chains_meet prev at [] ys x y ends_x ends_y is = inl (ys, refl)
chains_meet prev at (e ∷ xs) [] x y ends_x ends_y is = inr (e ∷ xs, refl)
chains_meet prev at (e ∷ xs) (f ∷ ys) x y ends_x ends_y is =
    let size_x = end_of-le (at + size_of e) xs in
    let size_y = end_of-le (at + size_of f) ys in
    let spelt = sym (ap (λ (l : List ℕ). l ++ x) (chain_of-cons prev at e xs) ∙ append_assoc (frame_of prev at e) (chain_of (checksum_of prev at e) (at + size_of e) xs) x)
    ∙ is ∙ ap (λ (l : List ℕ). l ++ y) (chain_of-cons prev at f ys) ∙ append_assoc (frame_of prev at f) (chain_of (checksum_of prev at f) (at + size_of f) ys) y in
    let first = one_event prev at e f _ _ (omega (arith, size_x, ends_x)) (omega (arith, size_y, ends_y)) spelt in
    let behind = first.1 ∙ ap (λ (g : Event). chain_of (checksum_of prev at g) (at + size_of g) ys ++ y) (sym first.0) in
    let ends : EndsWithin (at + size_of e) ys = rw first.0 ends_y in
    ⊎_elim
    (λ is. inl (is.0, ap (λ (l : List Event). f ∷ l) is.1 ∙ ap (λ (g : Event). g ∷ (xs ++ is.0)) (sym first.0)))
    (λ is. inr (is.0, ap (λ (l : List Event). e ∷ l) is.1 ∙ ap (λ (g : Event). g ∷ (ys ++ is.0)) first.0))
    (chains_meet (checksum_of prev at e) (at + size_of e) xs ys x y ends_x ends behind)

-- The changes told so far, with what is still told.
abbrev pub told_behind : List Change → Option Ending → Option Ending
told_behind changes told = told >>= λ it. Some (with_changes changes it)

-- Frames of events that told these changes were read from the front of these bytes.
pub record Walked (start : End) (bytes : List ℕ) (changes : List Change) (before : Before) (rest : List ℕ) (end : End) : Type 0 where
  pub events : List Event
  pub are_bytes : AreByteEvents events
  pub ends : EndsWithin start.at events
  pub stands : bytes ≡ chain_of start.crc start.at events ++ rest
  pub at : end.at ≡ end_of start.at events
  pub crc : end.crc ≡ last_checksum start.crc start.at events
  pub told : (more : List Event) → told_in Other (events ++ more) ≡ told_behind changes (told_in before more)

told_behind-none : (told : Option Ending) → told ≡ told_behind [] told
told_behind-none None = refl
told_behind-none (Some it) = refl

pub walked_none : (start : End) (bytes : List ℕ) → start.at ≤ limit → Walked start bytes [] Other bytes start
walked_none start bytes within = record {
  events = [];
  are_bytes = tt;
  ends = within;
  stands = sym (ap (λ (l : List ℕ). l ++ bytes) (chain_of-nil start.crc start.at));
  at = refl;
  crc = refl;
  told = λ more. told_behind-none (told_in Other more);
}

told_behind-then : (front some : List Change) (told : Option Ending) → told_behind front (told >>= λ it. Some (with_changes some it)) ≡ told_behind (front ++ some) told
told_behind-then front some None = refl
told_behind-then front some (Some it) = ap (λ (l : List Change). Some (record { changes = l; xid = it.xid; behind = it.behind })) (sym (append_assoc front some it.changes))

told_step : (before : Before) (event : Event) (item : Item) (more : List Event) → (event.kind == 16) ≡ false → event_item before event ≡ Some item
    → told_in before (event ∷ more) ≡ (told_in item.before more >>= λ it. Some (with_changes item.changes it))
unfolding told_in
told_step before event item more kind is =
    cond-false (event.kind == 16) (xid_ends before event.body more) (event_item before event >>= λ it. told_in it.before more >>= λ told. Some (with_changes it.changes told)) kind ∙ rw is refl

AreByteEvents-push : (xs : List Event) (e : Event) → AreByteEvents xs → IsBytes e.body → AreByteEvents (xs ++ e ∷ [])
AreByteEvents-push [] e are is = (is, tt)
AreByteEvents-push (x ∷ xs) e are is = (are.0, AreByteEvents-push xs e are.1 is)

-- a frame behind a chain makes it longer
next_stands : (prev at : ℕ) (events : List Event) (event : Event) (end : End) (bytes rest behind : List ℕ) → bytes ≡ chain_of prev at events ++ rest → end.at ≡ end_of at events → end.crc ≡ last_checksum prev at events
    → rest ≡ frame_of end.crc end.at event ++ behind → bytes ≡ chain_of prev at (events ++ event ∷ []) ++ behind
next_stands prev at events event end bytes rest behind stands at_is crc_is next =
    stands ∙ ap (λ (l : List ℕ). chain_of prev at events ++ l) next ∙ sym (append_assoc (chain_of prev at events) (frame_of end.crc end.at event) behind)
    ∙ ap (λ (n : ℕ). (chain_of prev at events ++ frame_of n end.at event) ++ behind) crc_is
    ∙ ap (λ (n : ℕ). (chain_of prev at events ++ frame_of (last_checksum prev at events) n event) ++ behind) at_is
    ∙ ap (λ (l : List ℕ). (chain_of prev at events ++ l) ++ behind) (sym (chain_of_one (last_checksum prev at events) (end_of at events) event))
    ∙ ap (λ (l : List ℕ). l ++ behind) (sym (chain_of-append prev at events (event ∷ [])))

pub walked_more : (start end next : End) (bytes rest behind : List ℕ) (changes : List Change) (before : Before) (event : Event) (item : Item) → Walked start bytes changes before rest end → IsNext end rest event behind next
    → IsBytes event.body → (event.kind == 16) ≡ false → event_item before event ≡ Some item → Walked start bytes (changes ++ item.changes) item.before behind next
walked_more start end next bytes rest behind changes before event item walked is fits kind found = record {
  events = walked.events ++ event ∷ [];
  are_bytes = AreByteEvents-push walked.events event walked.are_bytes fits;
  ends = omega (arith, end_of-append start.at walked.events (event ∷ []), walked.at, is.ends);
  stands = next_stands start.crc start.at walked.events event end bytes rest behind walked.stands walked.at walked.crc is.stands;
  at = is.at ∙ ap (λ (n : ℕ). n + size_of event) walked.at ∙ sym (end_of-append start.at walked.events (event ∷ []));
  crc = is.crc ∙ ap (λ (n : ℕ). checksum_of n end.at event) walked.crc ∙ ap (λ (n : ℕ). checksum_of (last_checksum start.crc start.at walked.events) n event) walked.at
      ∙ sym (last_checksum-append start.crc start.at walked.events (event ∷ []));
  told = λ more.
      ap (told_in Other) (append_assoc walked.events (event ∷ []) more) ∙ walked.told (event ∷ more)
      ∙ ap (told_behind changes) (told_step before event item more kind found) ∙ told_behind-then changes item.changes (told_in item.before more);
}

-- where no frame that may stand next leads to changes, none stand
pub walked_stuck : (start end : End) (bytes rest : List ℕ) (changes : List Change) (before : Before) → Walked start bytes changes before rest end
    → ((event : Event) (more : List Event) (it : Ending) → IsFrameAt end.crc end.at rest event → told_behind changes (told_in before (event ∷ more)) ≡ Some it → length it.changes ≤ 0) → NoChanges start bytes
unfolding told_in
walked_stuck start end bytes rest changes before walked stuck list xid behind some fit small ends stands =
    ⊎_elim (λ is. shorter is.0 is.1) (λ is. longer is.0 is.1)
    (chains_meet start.crc start.at (told_events list xid) walked.events behind rest ends walked.ends (sym stands ∙ walked.stands))
  where
    again : (more : List Event) → told_in Other (told_events list xid ++ more) ≡ Some (record { changes = list; xid = xid; behind = more })
    again more =
        let read = changes_again Other list refl fit in
        ap (told_in Other) (append_assoc (change_events None list) (xid_event xid ∷ []) more) ∙ told_again (change_events None list) Other read.0 list xid more read.1 small read.2

    impossible : (it : Ending) → None ≡ Some it → ⊥
    impossible it e = cc

    shorter : (more : List Event) → walked.events ≡ told_events list xid ++ more → ⊥
    shorter more is =
        impossible (record { changes = list; xid = xid; behind = more })
        (sym (walked.told []) ∙ ap (told_in Other) (append-nil walked.events ∙ is) ∙ again more)

    tail : (e : Event) (es : List Event) → told_events list xid ≡ walked.events ++ e ∷ es → chain_of end.crc end.at (e ∷ es) ++ behind ≡ rest
    tail e es at =
        let both : chain_of start.crc start.at walked.events ++ (chain_of end.crc end.at (e ∷ es) ++ behind) ≡ chain_of start.crc start.at walked.events ++ rest =
        sym (append_assoc (chain_of start.crc start.at walked.events) (chain_of end.crc end.at (e ∷ es)) behind)
        ∙ ap (λ (n : ℕ). (chain_of start.crc start.at walked.events ++ chain_of n end.at (e ∷ es)) ++ behind) walked.crc
        ∙ ap (λ (n : ℕ). (chain_of start.crc start.at walked.events ++ chain_of (last_checksum start.crc start.at walked.events) n (e ∷ es)) ++ behind) walked.at
        ∙ ap (λ (l : List ℕ). l ++ behind) (sym (chain_of-append start.crc start.at walked.events (e ∷ es)))
        ∙ ap (λ (l : List Event). chain_of start.crc start.at l ++ behind) (sym at)
        ∙ sym stands ∙ walked.stands in
        append_cancel_left (chain_of start.crc start.at walked.events) (chain_of end.crc end.at (e ∷ es) ++ behind) rest both

    longer : (more : List Event) → told_events list xid ≡ walked.events ++ more → ⊥
    longer [] is = shorter [] (sym (append-nil walked.events) ∙ sym is ∙ sym (append-nil (told_events list xid)))
    longer (event ∷ more) is =
        let frame : IsFrameAt end.crc end.at rest event = record {
          ends = omega (arith, end_of-append start.at walked.events (event ∷ more), ap (λ (l : List Event). end_of start.at l) is, ends, walked.at, end_of-le (end.at + size_of event) more, ap (λ (n : ℕ). end_of (n + size_of event) more) walked.at);
          rest = chain_of (checksum_of end.crc end.at event) (end.at + size_of event) more ++ behind;
          stands = sym (tail event more is) ∙ ap (λ (l : List ℕ). l ++ behind) (chain_of-cons end.crc end.at event more)
              ∙ append_assoc (frame_of end.crc end.at event) (chain_of (checksum_of end.crc end.at event) (end.at + size_of event) more) behind;
        } in
        let none = stuck event more (record { changes = list; xid = xid; behind = [] }) frame
        (sym (walked.told (event ∷ more)) ∙ ap (told_in Other) (sym is ∙ sym (append-nil (told_events list xid))) ∙ again []) in
        omega (arith, none, some)

no_ending : (it : Ending) → None ≡ Some it → length it.changes ≤ 0
no_ending it e = absurd cc

-- no frame stands next
pub walked_no_frame : (start end : End) (bytes rest : List ℕ) (changes : List Change) (before : Before) → Walked start bytes changes before rest end
    → ((event : Event) → IsFrameAt end.crc end.at rest event → ⊥) → NoChanges start bytes
walked_no_frame start end bytes rest changes before walked none =
    walked_stuck start end bytes rest changes before walked (λ event more it frame is. absurd (none event frame))

-- the frame that stands next is that of one event
same_next : (end next : End) (rest behind : List ℕ) (event other : Event) → IsNext end rest event behind next → IsFrameAt end.crc end.at rest other → event ≡ other
same_next end next rest behind event other is frame = (one_event end.crc end.at event other behind frame.rest is.ends frame.ends (sym is.stands ∙ frame.stands)).0

told_none : (before : Before) (event : Event) (more : List Event) → (event.kind == 16) ≡ false → event_item before event ≡ None → told_in before (event ∷ more) ≡ None
unfolding told_in
told_none before event more kind is =
    cond-false (event.kind == 16) (xid_ends before event.body more) (event_item before event >>= λ it. told_in it.before more >>= λ told. Some (with_changes it.changes told)) kind ∙ rw is refl

-- the next event tells nothing
pub walked_fails : (e : Unread) (start end next : End) (bytes rest behind : List ℕ) (changes : List Change) (before : Before) (event : Event) → Walked start bytes changes before rest end → IsNext end rest event behind next
    → (event.kind == 16) ≡ false → Fails e (event_item before event) → FailsFor e (NoChanges start bytes)
walked_fails Memory start end next bytes rest behind changes before event walked is kind fails = tt
walked_fails Absent start end next bytes rest behind changes before event walked is kind fails =
    walked_stuck start end bytes rest changes before walked
    (λ other more it frame at. no_ending it (
    sym (ap (told_behind changes) (told_none before event more kind fails))
    ∙ ap (λ (g : Event). told_behind changes (told_in before (g ∷ more))) (same_next end next rest behind event other is frame) ∙ at
    ))

where_map : {A B : Type 0} (b : Bool) (x : A) (f : A → B) → where_so b (f x) ≡ (where_so b x >>= λ y. Some (f y))
where_map true x f = refl
where_map false x f = refl

told_xid : (before : Before) (event : Event) (more : List Event) (xid : Option ℕ) → (event.kind == 16) ≡ true → xid_at before event.body ≡ xid
    → told_in before (event ∷ more) ≡ (xid >>= λ n. Some (record { changes = []; xid = n; behind = more }))
unfolding told_in
told_xid before event more xid kind is =
    cond-true (event.kind == 16) (xid_ends before event.body more) (event_item before event >>= λ it. told_in it.before more >>= λ told. Some (with_changes it.changes told)) kind
    ∙ where_map (may_end before && (length event.body == 8)) (from_le_bytes w64 event.body) (λ n. record { changes = []; xid = n; behind = more })
    ∙ ap (λ (o : Option ℕ). o >>= λ n. Some (record { changes = []; xid = n; behind = more })) is

-- the next event is no XID, although it has its type
pub walked_no_xid : (start end next : End) (bytes rest behind : List ℕ) (changes : List Change) (before : Before) (event : Event) → Walked start bytes changes before rest end → IsNext end rest event behind next
    → (event.kind == 16) ≡ true → xid_at before event.body ≡ None → NoChanges start bytes
walked_no_xid start end next bytes rest behind changes before event walked is kind none =
    walked_stuck start end bytes rest changes before walked
    (λ other more it frame at. no_ending it (
    sym (ap (told_behind changes) (told_xid before event more None kind none))
    ∙ ap (λ (g : Event). told_behind changes (told_in before (g ∷ more))) (same_next end next rest behind event other is frame) ∙ at
    ))

ending_changes : (a b : Ending) → Some a ≡ Some b → a.changes ≡ b.changes
ending_changes a b is = ap (λ (x : Ending). x.changes) (some_is a b is)

-- the next event is an XID, and no change stands before it
pub walked_empty : (start end next : End) (bytes rest behind : List ℕ) (changes : List Change) (before : Before) (event : Event) (xid : ℕ) → Walked start bytes changes before rest end → IsNext end rest event behind next
    → (event.kind == 16) ≡ true → xid_at before event.body ≡ Some xid → length changes ≤ 0 → NoChanges start bytes
walked_empty start end next bytes rest behind changes before event xid walked is kind at none =
    walked_stuck start end bytes rest changes before walked
    (λ other more it frame found.
    let same = ending_changes (record { changes = changes ++ []; xid = xid; behind = more }) it
    (sym (ap (told_behind changes) (told_xid before event more (Some xid) kind at))
    ∙ ap (λ (g : Event). told_behind changes (told_in before (g ∷ more))) (same_next end next rest behind event other is frame) ∙ found) in
    omega (arith, ap length (sym same), length-append changes [], none))

-- the next event is the XID that ends the changes
pub walked_end : (start end next : End) (bytes rest behind : List ℕ) (changes : List Change) (before : Before) (event : Event) (xid : ℕ) → Walked start bytes changes before rest end → IsNext end rest event behind next
    → IsBytes event.body → (event.kind == 16) ≡ true → xid_at before event.body ≡ Some xid → 0 < length changes → TellsChanges start bytes changes xid behind next
walked_end start end next bytes rest behind changes before event xid walked is fits kind at some =
    let events = walked.events ++ event ∷ [] in
    let told : told_in Other events ≡ Some (record { changes = changes; xid = xid; behind = [] }) =
    walked.told (event ∷ []) ∙ ap (told_behind changes) (told_xid before event [] (Some xid) kind at)
    ∙ ap (λ (l : List Change). Some (record { changes = l; xid = xid; behind = [] })) (append-nil changes) in
    let from = told_takes Other events (record { changes = changes; xid = xid; behind = [] }) tt (AreByteEvents-push walked.events event walked.are_bytes fits) told in
    let ends : EndsWithin start.at events = omega (arith, end_of-append start.at walked.events (event ∷ []), walked.at, is.ends) in
    record {
      some = some;
      fit = from.fit;
      small = from.xid;
      ends = subst (EndsWithin start.at) from.are ends;
      stands = next_stands start.crc start.at walked.events event end bytes rest behind walked.stands walked.at walked.crc is.stands ∙ ap (λ (l : List Event). chain_of start.crc start.at l ++ behind) from.are;
      at = is.at ∙ ap (λ (n : ℕ). n + size_of event) walked.at ∙ sym (end_of-append start.at walked.events (event ∷ [])) ∙ ap (end_of start.at) from.are;
      crc = is.crc ∙ ap (λ (n : ℕ). checksum_of n end.at event) walked.crc ∙ ap (λ (n : ℕ). checksum_of (last_checksum start.crc start.at walked.events) n event) walked.at
          ∙ sym (last_checksum-append start.crc start.at walked.events (event ∷ [])) ∙ ap (last_checksum start.crc start.at) from.are;
    }

pub next_shorter : (start end : End) (bytes behind : List ℕ) (event : Event) → IsNext start bytes event behind end → length behind < length bytes
next_shorter start end bytes behind event is = omega (arith, ap length is.stands, length-append (frame_of start.crc start.at event) behind, length-frame_of start.crc start.at event)

-- The whole transaction.

-- a transaction that stands here begins with the frame of a BEGIN
begin_stands : (prev at : ℕ) (bytes : List ℕ) (t : Transaction) → IsTransactionAt prev at bytes t → IsFrameAt prev at bytes begin
begin_stands prev at bytes t is =
    let rest = change_events None t.changes ++ xid_event t.xid ∷ [] in
    record {
      ends = omega (arith, is.ends, end_of-le (at + size_of begin) rest);
      rest = chain_of (checksum_of prev at begin) (at + size_of begin) rest ++ is.rest;
      stands = is.stands ∙ ap (λ (l : List ℕ). l ++ is.rest) (chain_of-cons prev at begin rest)
          ∙ append_assoc (frame_of prev at begin) (chain_of (checksum_of prev at begin) (at + size_of begin) rest) is.rest;
    }

pub no_first : (prev at : ℕ) (bytes : List ℕ) → ((event : Event) → IsFrameAt prev at bytes event → ⊥) → NoTransactionAt prev at bytes
no_first prev at bytes none t is = none begin (begin_stands prev at bytes t is)

pub other_first : (start end : End) (bytes behind : List ℕ) (event : Event) → IsNext start bytes event behind end → is_begin event ≡ false → NoTransactionAt start.crc start.at bytes
other_first start end bytes behind event is other t at =
    let same = same_next start end bytes behind event begin is (begin_stands start.crc start.at bytes t at) in
    both_ways (is_begin event) other (ap is_begin same)

pub no_changes_behind : (e : Unread) (start end : End) (bytes behind : List ℕ) (event : Event) → IsNext start bytes event behind end → is_begin event ≡ true → FailsFor e (NoChanges end behind)
    → FailsFor e (NoTransactionAt start.crc start.at bytes)
unfolding begin_stands
no_changes_behind Memory start end bytes behind event is first none = tt
no_changes_behind Absent start end bytes behind event is first none = λ t at.
    let frame = begin_stands start.crc start.at bytes t at in
    let begun : event ≡ begin = begin_is event first in
    let same = one_event start.crc start.at event begin behind frame.rest is.ends frame.ends (sym is.stands ∙ frame.stands) in
    let at_is : end.at ≡ start.at + size_of begin = is.at ∙ ap (λ (g : Event). start.at + size_of g) begun in
    let crc_is : end.crc ≡ checksum_of start.crc start.at begin = is.crc ∙ ap (checksum_of start.crc start.at) begun in
    none t.changes t.xid at.rest at.fit.some at.fit.changes at.fit.xid
    (omega (arith, at.ends, ap (λ (n : ℕ). end_of n (told_events t.changes t.xid)) at_is))
    (same.1 ∙ ap (λ (n : ℕ). chain_of n (start.at + size_of begin) (told_events t.changes t.xid) ++ at.rest) (sym crc_is)
    ∙ ap (λ (n : ℕ). chain_of end.crc n (told_events t.changes t.xid) ++ at.rest) (sym at_is))

pub transaction_found : (start end last : End) (bytes behind rest : List ℕ) (event : Event) (found : Found) → IsNext start bytes event behind end → is_begin event ≡ true
    → TellsChanges end behind found.txn.changes found.txn.xid rest last → found.len ≡ length bytes - length rest → found.crc ≡ last.crc → Finds start.crc start.at bytes found
transaction_found start end last bytes behind rest event found is first tells len crc =
    let t = found.txn in
    let events = told_events t.changes t.xid in
    let begun : event ≡ begin = begin_is event first in
    let at_is : end.at ≡ start.at + size_of begin = is.at ∙ ap (λ (g : Event). start.at + size_of g) begun in
    let crc_is : end.crc ≡ checksum_of start.crc start.at begin = is.crc ∙ ap (checksum_of start.crc start.at) begun in
    let stands : bytes ≡ chain_of start.crc start.at (events_of t) ++ rest =
    is.stands ∙ ap (λ (g : Event). frame_of start.crc start.at g ++ behind) begun ∙ ap (λ (l : List ℕ). frame_of start.crc start.at begin ++ l) tells.stands
    ∙ ap (λ (n : ℕ). frame_of start.crc start.at begin ++ (chain_of n end.at events ++ rest)) crc_is
    ∙ ap (λ (n : ℕ). frame_of start.crc start.at begin ++ (chain_of (checksum_of start.crc start.at begin) n events ++ rest)) at_is
    ∙ sym (append_assoc (frame_of start.crc start.at begin) (chain_of (checksum_of start.crc start.at begin) (start.at + size_of begin) events) rest)
    ∙ ap (λ (l : List ℕ). l ++ rest) (sym (chain_of-cons start.crc start.at begin events)) in
    record {
      here = record {
        fit = record { xid = tells.small; some = tells.some; changes = tells.fit };
        ends = omega (arith, tells.ends, ap (λ (n : ℕ). end_of n events) at_is);
        rest = rest;
        stands = stands;
      };
      len = omega (arith, len, ap length stands, length-append (chain_of start.crc start.at (events_of t)) rest, length-chain_of start.crc start.at (events_of t));
      crc = crc ∙ tells.crc ∙ ap (λ (n : ℕ). last_checksum n end.at events) crc_is ∙ ap (λ (n : ℕ). last_checksum (checksum_of start.crc start.at begin) n events) at_is;
    }

pub transaction_shorter : (start end last : End) (bytes behind rest : List ℕ) (event : Event) (changes : List Change) (xid : ℕ) → IsNext start bytes event behind end
    → TellsChanges end behind changes xid rest last → length rest ≤ length bytes
transaction_shorter start end last bytes behind rest event changes xid is tells =
    omega (arith, next_shorter start end bytes behind event is, ap length tells.stands, length-append (chain_of end.crc end.at (told_events changes xid)) rest)

-- Bytes.

IsBytes-left : (xs ys : List ℕ) → IsBytes (xs ++ ys) → IsBytes xs
IsBytes-left xs ys fits = subst IsBytes (take_at xs ys (length xs) refl) (IsBytes-take (length xs) (xs ++ ys) fits)

IsBytes-right : (xs ys : List ℕ) → IsBytes (xs ++ ys) → IsBytes ys
IsBytes-right xs ys fits = subst IsBytes (drop_at xs ys (length xs) refl) (IsBytes-drop (length xs) (xs ++ ys) fits)

front_bytes : (at : ℕ) (event : Event) → IsBytes (front_of at event) → IsBytes event.body
unfolding front_of
front_bytes at event fits =
    IsBytes-right (le32 1 ++ le32 (size_of event) ++ le32 (at + size_of event) ++ le16 0) event.body
    (IsBytes-rest event.kind (le32 1 ++ le32 (size_of event) ++ le32 (at + size_of event) ++ le16 0 ++ event.body)
    (IsBytes-right (le32 0) (event.kind ∷ (le32 1 ++ le32 (size_of event) ++ le32 (at + size_of event) ++ le16 0 ++ event.body)) fits))

frame_bytes : (prev at : ℕ) (event : Event) → IsBytes (frame_of prev at event) → IsBytes event.body
unfolding frame_of
frame_bytes prev at event fits = front_bytes at event (IsBytes-left (front_of at event) (le32 (checksum_of prev at event)) fits)

-- the body of an event that stands in a file has bytes
pub body_bytes : (start end next : End) (bytes rest behind : List ℕ) (changes : List Change) (before : Before) (event : Event) → IsBytes bytes → Walked start bytes changes before rest end → IsNext end rest event behind next → IsBytes event.body
body_bytes start end next bytes rest behind changes before event fits walked is =
    let rest_bytes = IsBytes-right (chain_of start.crc start.at walked.events) rest (subst IsBytes walked.stands fits) in
    frame_bytes end.crc end.at event (IsBytes-left (frame_of end.crc end.at event) behind (subst IsBytes is.stands rest_bytes))
