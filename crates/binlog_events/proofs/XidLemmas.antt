-- The last event of a transaction is an XID, and no other one is.
use Rattle.std.proofs.Common.{◌≡◌, List, [], ◌∷◌, ◌++◌, None, refl, sym, ◌∙◌, ap, arith}
use Rattle.std.proofs.lemmas.Bool.{false≢true, eq-eqb}
use Rattle.frame_codec.specs.Frame.{Event}
use Rattle.row_format.specs.declared.change.Change.{Change}
use Rattle.row_format.specs.declared.change.Transaction.{Transaction}
use Rattle.binlog_events.specs.Changes.{change_events}
use Rattle.binlog_events.specs.Transaction.{begin, xid_event, events_of, IsFit}
use Rattle.binlog_events.specs.Walking.{Before, Other}
use Rattle.binlog_events.proofs.WalkLemmas.{Reads, changes_again}
use Rattle.binlog_events.proofs.TransactionLemmas.{not_xid}

-- none of these events is an XID
abbrev pub NoXid : List Event → Type 0
NoXid [] = Unit {0}
NoXid (event ∷ events) = (event.kind ≡ 16 → ⊥) × NoXid events

pub NoXid-append : (xs ys : List Event) → NoXid xs → NoXid ys → NoXid (xs ++ ys)
NoXid-append [] ys of_xs of_ys = of_ys
NoXid-append (x ∷ xs) ys of_xs of_ys = (of_xs.0, NoXid-append xs ys of_xs.1 of_ys)

read_no_xid : (events : List Event) (before end : Before) (changes : List Change) → Reads before events changes end → NoXid events
read_no_xid [] before end changes reads = tt
read_no_xid (event ∷ events) before end changes reads = (
  λ is. false≢true (sym (not_xid before event.kind (event.body ++ []) (reads.0, []) (reads.2 [])) ∙ eq-eqb event.kind 16 is),
  read_no_xid events reads.0.before end reads.1 reads.3,
)

-- The events before the last one are none of an XID.
pub no_xid_before_last : (t : Transaction) → IsFit t → NoXid (begin ∷ change_events None t.changes)
no_xid_before_last t fit =
    let read = changes_again Other t.changes refl fit.changes in
    (λ is. let two : 2 ≡ 16 = is in omega (arith, two), read_no_xid (change_events None t.changes) Other read.0 t.changes read.2)

-- a list with an XID at its end alone, where one stands in it
pub ends_there : (xs ys more : List Event) (last it : Event) → NoXid xs → it.kind ≡ 16 → xs ++ last ∷ [] ≡ ys ++ it ∷ more → more ≡ []
ends_there [] [] more last it none is same = cc
ends_there [] (y ∷ ys) more last it none is same = absurd (longer ys cc)
  where
    longer : (ys : List Event) → [] ≡ ys ++ it ∷ more → ⊥
    longer [] e = cc
    longer (z ∷ zs) e = cc
ends_there (x ∷ xs) [] more last it none is same =
    let first : x ≡ it = cc in
    absurd (none.0 (ap (λ (e : Event). e.kind) first ∙ is))
ends_there (x ∷ xs) (y ∷ ys) more last it none is same = ends_there xs ys more last it none.1 is cc

-- the events of a transaction do not end among others of which none is an XID
pub not_among : (t : Transaction) (events more : List Event) → NoXid events → events ≡ events_of t ++ more → ⊥
not_among t events more none is = has (begin ∷ change_events None t.changes) events none is
  where
    empty : (xs rest : List Event) → [] ≡ (xs ++ xid_event t.xid ∷ []) ++ rest → ⊥
    empty [] rest e = cc
    empty (x ∷ xs) rest e = cc

    has : (xs events : List Event) → NoXid events → events ≡ (xs ++ xid_event t.xid ∷ []) ++ more → ⊥
    has xs [] none is = empty xs more is
    has [] (event ∷ events) none is = let same : event ≡ xid_event t.xid = cc in none.0 (ap (λ (e : Event). e.kind) same)
    has (x ∷ xs) (event ∷ events) none is = has xs events none.1 cc
