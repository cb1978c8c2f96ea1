-- What is pending with and without one transaction: its changes may stand before all others or behind them, and all others without them.
use Rattle.std.proofs.Common.{◌≡◌, ℕ, ◌+◌, List, [], ◌∷◌, ◌++◌, length, Option, Some, None, Bool, true, false, not, ◌||◌, is_some, refl, sym, ap, subst, subst₂, ◌∙◌, inl, inr, ◌⊎◌, arith, sum_by, length-append}
use Rattle.std.specs.Prelude.{cond, ◌==◌}
use Rattle.std.specs.List.{cons_option, find}
use Rattle.std.specs.Option.{option_or, option_map}
use Rattle.std.proofs.lemmas.Bool.{and_parts, and_from}
use Rattle.std.proofs.lemmas.Bool.Decides.{Decides-eqb}
use Rattle.std.proofs.lemmas.Grind.{flat_map-append}
use Rattle.std.proofs.lemmas.List.{append-nil, append_assoc}
use Rattle.std.proofs.lemmas.List.Elements.{filter_map-append}
use Rattle.std.proofs.lemmas.List.Folds.{find-append, list_any-append}
use Rattle.std.proofs.lemmas.List.Sums.{sum_by-append}
use Rattle.row_format.specs.declared.change.Change.{Change}
use Rattle.log_tables.specs.declared.table.Table.{Table}
use Rattle.log_tables.specs.declared.gist.Prepared.{Prepared}
use Rattle.log_tables.specs.Gists.{has_xid, is_prepared, without_xid}
use Rattle.log_tables.specs.Changes.{after_changes, all_apply}
use Rattle.log_tables.proofs.FoldLemmas.{after_changes-append}
use Rattle.log_tables.proofs.PartLemmas.{cases, cond_true, cond_false}
use Rattle.engine_api.specs.States.{Pending, is_by, pending_of, without_txn, changes_of, xid_of, changes_by, xid_by, changes_in}
use Rattle.engine_api.specs.Live.{meets, meets_any}
use Rattle.live_tables.specs.Folds.{AreMade, Apart, Agree, change_bytes}
use Rattle.live_tables.specs.Opens.{AreDistinct, AllApart, share_of, shares, HaveOwnXids}
use Rattle.live_tables.proofs.NameLemmas.{yes_no}
use Rattle.live_tables.proofs.FoldLemmas.{all_apply_append}
use Rattle.live_tables.proofs.MeetLemmas.{or_false, apart_sym}
use Rattle.live_tables.proofs.AgreeLemmas.{agree_itself, agree_trans, agree_all_apply, agree_changes}
use Rattle.live_tables.proofs.MadeLemmas.{all_made}
use Rattle.live_tables.proofs.ApartLemmas.{pass, drop_first}

pub none_some : {X : Type 0} {x : X} → None ≡ Some x → ⊥
none_some q = cc

pub neither : (a b : Bool) → a ≡ false → b ≡ false → (a || b) ≡ false
neither true b p q = p
neither false b p q = q

-- two numbers that differ do so in either order
pub differ_sym : (a b : ℕ) → (a == b) ≡ false → (b == a) ≡ false
differ_sym a b h = elim (cases (b == a)) [
  | inl same ↦ absurd (yes_no (a == b) ((Decides-eqb a b).1 (sym ((Decides-eqb b a).0 same))) h)
  | inr other ↦ other
]

-- The changes of two lists are those of the one and then of the other.
pub changes_in_append : (ps qs : List Pending) → changes_in (ps ++ qs) ≡ changes_in ps ++ changes_in qs
changes_in_append ps qs = flat_map-append (λ (it : Pending). it.changes) ps qs

pub changes_last : (ps : List Pending) (p : Pending) → changes_in (ps ++ p ∷ []) ≡ changes_in ps ++ p.changes
changes_last ps p = changes_in_append ps (p ∷ []) ∙ ap (λ xs. changes_in ps ++ xs) (append-nil p.changes)

-- the transaction stands first, or another does

own_found : (txn : ℕ) (p : Pending) (ps : List Pending) → is_by txn p ≡ true → pending_of txn (p ∷ ps) ≡ Some p
own_found txn p ps own = cond_true (is_by txn p) (Some p) (pending_of txn ps) own

other_found : (txn : ℕ) (p : Pending) (ps : List Pending) → is_by txn p ≡ false → pending_of txn (p ∷ ps) ≡ pending_of txn ps
other_found txn p ps other = cond_false (is_by txn p) (Some p) (pending_of txn ps) other

own_out : (txn : ℕ) (p : Pending) (ps : List Pending) → is_by txn p ≡ true → without_txn txn (p ∷ ps) ≡ without_txn txn ps
own_out txn p ps own = cond_false (not (is_by txn p)) (p ∷ without_txn txn ps) (without_txn txn ps) (ap not own)

other_kept : (txn : ℕ) (p : Pending) (ps : List Pending) → is_by txn p ≡ false → without_txn txn (p ∷ ps) ≡ p ∷ without_txn txn ps
other_kept txn p ps other = cond_true (not (is_by txn p)) (p ∷ without_txn txn ps) (without_txn txn ps) (ap not other)

-- a transaction that has nothing pending does not stand first, nor among the rest
absent_parts : (txn : ℕ) (p : Pending) (ps : List Pending) → pending_of txn (p ∷ ps) ≡ None → (is_by txn p ≡ false) × (pending_of txn ps ≡ None)
absent_parts txn p ps h = elim (cases (is_by txn p)) [
  | inl own ↦ absurd (none_some (sym h ∙ own_found txn p ps own))
  | inr other ↦ (other, sym (other_found txn p ps other) ∙ h)
]

-- Where a transaction has nothing pending, all stays without it.
pub without_absent : (txn : ℕ) (ps : List Pending) → pending_of txn ps ≡ None → without_txn txn ps ≡ ps
without_absent txn [] h = refl
without_absent txn (p ∷ ps) h =
    let parts = absent_parts txn p ps h in
    other_kept txn p ps parts.0 ∙ ap (λ xs. p ∷ xs) (without_absent txn ps parts.1)

pub by_absent : (txn : ℕ) (ps : List Pending) → pending_of txn ps ≡ None → changes_by txn ps ≡ []
by_absent txn ps h = ap changes_of h

-- A transaction has nothing pending in what is pending without it.
pub absent_without : (txn : ℕ) (ps : List Pending) → pending_of txn (without_txn txn ps) ≡ None
absent_without txn [] = refl
absent_without txn (p ∷ ps) = elim (cases (is_by txn p)) [
  | inl own ↦ ap (pending_of txn) (own_out txn p ps own) ∙ absent_without txn ps
  | inr other ↦ ap (pending_of txn) (other_kept txn p ps other) ∙ other_found txn p (without_txn txn ps) other ∙ absent_without txn ps
]

-- what is absent is so without any transaction
absent_still : (txn other : ℕ) (ps : List Pending) → pending_of other ps ≡ None → pending_of other (without_txn txn ps) ≡ None
absent_still txn other [] h = refl
absent_still txn other (p ∷ ps) h =
    let parts = absent_parts other p ps h in
    elim (cases (is_by txn p)) [
      | inl own ↦ ap (pending_of other) (own_out txn p ps own) ∙ absent_still txn other ps parts.1
      | inr kept ↦
          ap (pending_of other) (other_kept txn p ps kept)
          ∙ other_found other p (without_txn txn ps) parts.0
          ∙ absent_still txn other ps parts.1
    ]

-- Without a transaction none stands twice.
pub distinct_without : (txn : ℕ) (ps : List Pending) → AreDistinct ps → AreDistinct (without_txn txn ps)
distinct_without txn [] d = tt
distinct_without txn (p ∷ ps) d = elim (cases (is_by txn p)) [
  | inl own ↦ subst AreDistinct (sym (own_out txn p ps own)) (distinct_without txn ps d.1)
  | inr other ↦ subst AreDistinct (sym (other_kept txn p ps other)) (absent_still txn p.txn ps d.0, distinct_without txn ps d.1)
]

-- One transaction more, that had nothing pending, at the end.
pub distinct_last : (p : Pending) (ps : List Pending) → AreDistinct ps → pending_of p.txn ps ≡ None → AreDistinct (ps ++ p ∷ [])
distinct_last p [] d h = (refl, tt)
distinct_last p (q ∷ ps) d h =
    let parts = absent_parts p.txn q ps h in
    let apart : is_by q.txn p ≡ false = differ_sym q.txn p.txn parts.0 in (
      find-append (is_by q.txn) ps (p ∷ [])
          ∙ ap (λ o. option_or o (pending_of q.txn (p ∷ []))) d.0
          ∙ other_found q.txn p [] apart,
      distinct_last p ps d.1 parts.1,
    )

-- A transaction moves to the end.
pub distinct_moved : (txn : ℕ) (p : Pending) (ps : List Pending) → AreDistinct ps → p.txn ≡ txn → AreDistinct (without_txn txn ps ++ p ∷ [])
distinct_moved txn p ps d same =
    distinct_last p (without_txn txn ps) (distinct_without txn ps d) (ap (λ n. pending_of n (without_txn txn ps)) same ∙ absent_without txn ps)

-- Two lists together are apart from others where each is.

pub apart_append_left : (cs ds others : List Change) → Apart cs others → Apart ds others → Apart (cs ++ ds) others
apart_append_left [] ds others h k = k
apart_append_left (a ∷ cs) ds others h k = (h.0, apart_append_left cs ds others h.1 k)

pub apart_append_left_parts : (cs ds others : List Change) → Apart (cs ++ ds) others → Apart cs others × Apart ds others
apart_append_left_parts [] ds others h = (tt, h)
apart_append_left_parts (a ∷ cs) ds others h =
    let rest = apart_append_left_parts cs ds others h.1 in
    ((h.0, rest.0), rest.1)

pub apart_append_right : (cs xs ys : List Change) → Apart cs xs → Apart cs ys → Apart cs (xs ++ ys)
apart_append_right [] xs ys h k = tt
apart_append_right (a ∷ cs) xs ys h k =
    (list_any-append (meets a) xs ys ∙ neither (meets_any a xs) (meets_any a ys) h.0 k.0, apart_append_right cs xs ys h.1 k.1)

pub apart_append_right_parts : (cs xs ys : List Change) → Apart cs (xs ++ ys) → Apart cs xs × Apart cs ys
apart_append_right_parts [] xs ys h = (tt, tt)
apart_append_right_parts (a ∷ cs) xs ys h =
    let one = or_false (meets_any a xs) (meets_any a ys) (sym (list_any-append (meets a) xs ys) ∙ h.0) in
    let rest = apart_append_right_parts cs xs ys h.1 in
    ((one.0, rest.0), (one.1, rest.1))

-- What is apart from all that is pending is so from all but one transaction's.
pub left_without : (txn : ℕ) (ps : List Pending) (others : List Change) → Apart (changes_in ps) others → Apart (changes_in (without_txn txn ps)) others
left_without txn [] others h = tt
left_without txn (p ∷ ps) others h =
    let parts = apart_append_left_parts p.changes (changes_in ps) others h in
    let rest = left_without txn ps others parts.1 in
    elim (cases (is_by txn p)) [
      | inl own ↦ subst (λ xs. Apart (changes_in xs) others) (sym (own_out txn p ps own)) rest
      | inr other ↦
          subst (λ xs. Apart (changes_in xs) others) (sym (other_kept txn p ps other))
          (apart_append_left p.changes (changes_in (without_txn txn ps)) others parts.0 rest)
    ]

-- And from those of one.
pub left_by : (txn : ℕ) (ps : List Pending) (others : List Change) → Apart (changes_in ps) others → Apart (changes_by txn ps) others
left_by txn [] others h = tt
left_by txn (p ∷ ps) others h =
    let parts = apart_append_left_parts p.changes (changes_in ps) others h in
    elim (cases (is_by txn p)) [
      | inl own ↦ subst (λ o. Apart (changes_of o) others) (sym (own_found txn p ps own)) parts.0
      | inr other ↦ subst (λ o. Apart (changes_of o) others) (sym (other_found txn p ps other)) (left_by txn ps others parts.1)
    ]

-- Without a transaction all are apart.
pub all_apart_without : (txn : ℕ) (ps : List Pending) → AllApart ps → AllApart (without_txn txn ps)
all_apart_without txn [] h = tt
all_apart_without txn (p ∷ ps) h = elim (cases (is_by txn p)) [
  | inl own ↦ subst AllApart (sym (own_out txn p ps own)) (all_apart_without txn ps h.1)
  | inr other ↦
      let kept = left_without txn ps p.changes (apart_sym p.changes (changes_in ps) h.0) in
      subst AllApart (sym (other_kept txn p ps other))
      (apart_sym (changes_in (without_txn txn ps)) p.changes kept, all_apart_without txn ps h.1)
]

-- the transaction that stands first has nothing among the rest
first_only : (txn : ℕ) (p : Pending) (ps : List Pending) → pending_of p.txn ps ≡ None → is_by txn p ≡ true → pending_of txn ps ≡ None
first_only txn p ps h own = ap (λ n. pending_of n ps) (sym ((Decides-eqb p.txn txn).0 own)) ∙ h

-- The changes of a transaction are apart from all others.
pub apart_by : (txn : ℕ) (ps : List Pending) → AreDistinct ps → AllApart ps → Apart (changes_by txn ps) (changes_in (without_txn txn ps))
apart_by txn [] d h = tt
apart_by txn (p ∷ ps) d h = elim (cases (is_by txn p)) [
  | inl own ↦
      let rest = own_out txn p ps own ∙ without_absent txn ps (first_only txn p ps d.0 own) in
      subst₂ (λ o xs. Apart (changes_of o) (changes_in xs)) (sym (own_found txn p ps own)) (sym rest) h.0
  | inr other ↦
      let first = left_by txn ps p.changes (apart_sym p.changes (changes_in ps) h.0) in
      subst₂ (λ o xs. Apart (changes_of o) (changes_in xs)) (sym (other_found txn p ps other)) (sym (other_kept txn p ps other))
      (apart_append_right (changes_by txn ps) p.changes (changes_in (without_txn txn ps)) first (apart_by txn ps d.1 h.1))
]

-- One transaction more, apart from all.
pub all_apart_last : (p : Pending) (ps : List Pending) → AllApart ps → Apart p.changes (changes_in ps) → AllApart (ps ++ p ∷ [])
all_apart_last p [] h k = (k, tt)
all_apart_last p (q ∷ ps) h k =
    let parts = apart_append_right_parts p.changes q.changes (changes_in ps) k in (
      subst (Apart q.changes) (sym (changes_last ps p))
          (apart_append_right q.changes (changes_in ps) p.changes h.0 (apart_sym p.changes q.changes parts.0)),
      all_apart_last p ps h.1 parts.1,
    )

-- Where a transaction has something pending: what stands before it, what it has, and what stands behind it.
pub record Stands (txn : ℕ) (ps : List Pending) : Type 0 where
  pub before : List Pending
  pub own : Pending
  pub after : List Pending
  pub all : ps ≡ before ++ own ∷ after
  pub found : pending_of txn ps ≡ Some own
  pub rest : without_txn txn ps ≡ before ++ after

pub stands : (txn : ℕ) (ps : List Pending) → AreDistinct ps → (pending_of txn ps ≡ None) ⊎ Stands txn ps
stands txn [] d = inl refl
stands txn (p ∷ ps) d = elim (cases (is_by txn p)) [
  | inl own ↦ inr (record {
    before = [];
    own = p;
    after = ps;
    all = refl;
    found = own_found txn p ps own;
    rest = own_out txn p ps own ∙ without_absent txn ps (first_only txn p ps d.0 own);
  })
  | inr other ↦ elim (stands txn ps d.1) [
    | inl none ↦ inl (other_found txn p ps other ∙ none)
    | inr s ↦ inr (record {
      before = p ∷ s.before;
      own = s.own;
      after = s.after;
      all = ap (λ xs. p ∷ xs) s.all;
      found = other_found txn p ps other ∙ s.found;
      rest = other_kept txn p ps other ∙ ap (λ xs. p ∷ xs) s.rest;
    })
  ]
]

-- the changes of all, at that place
all_changes : (txn : ℕ) (ps : List Pending) (s : Stands txn ps) → changes_in ps ≡ changes_in s.before ++ (s.own.changes ++ changes_in s.after)
all_changes txn ps s = ap changes_in s.all ∙ changes_in_append s.before (s.own ∷ s.after)

rest_changes : (txn : ℕ) (ps : List Pending) (s : Stands txn ps) → changes_in (without_txn txn ps) ≡ changes_in s.before ++ changes_in s.after
rest_changes txn ps s = ap changes_in s.rest ∙ changes_in_append s.before s.after

own_changes : (txn : ℕ) (ps : List Pending) (s : Stands txn ps) → changes_by txn ps ≡ s.own.changes
own_changes txn ps s = ap changes_of s.found

-- the second of three lists, apart from the first, goes before it
forward : (xs ys zs : List Change) (ts : List Table) → AreMade ts → Apart xs ys → all_apply (xs ++ (ys ++ zs)) ts ≡ true
    → (all_apply (ys ++ (xs ++ zs)) ts ≡ true) × Agree (after_changes (xs ++ (ys ++ zs)) ts) (after_changes (ys ++ (xs ++ zs)) ts)
forward xs ys zs ts made apart fit =
    let whole = sym (all_apply_append (xs ++ ys) zs ts) ∙ ap (λ all. all_apply all ts) (append_assoc xs ys zs) ∙ fit in
    let both = and_parts (all_apply (xs ++ ys) ts) (all_apply zs (after_changes (xs ++ ys) ts)) whole in
    let of_xy = all_made (xs ++ ys) ts made in
    let of_yx = all_made (ys ++ xs) ts made in
    let turned = pass xs ys ts made apart both.0 in
    let behind = sym (agree_all_apply zs (after_changes (xs ++ ys) ts) (after_changes (ys ++ xs) ts) of_xy of_yx turned.1) ∙ both.1 in (
      ap (λ all. all_apply all ts) (sym (append_assoc ys xs zs))
          ∙ all_apply_append (ys ++ xs) zs ts
          ∙ and_from (all_apply (ys ++ xs) ts) (all_apply zs (after_changes (ys ++ xs) ts)) turned.0 behind,
      subst₂ Agree
          (sym (after_changes-append (xs ++ ys) zs ts) ∙ ap (λ all. after_changes all ts) (append_assoc xs ys zs))
          (sym (after_changes-append (ys ++ xs) zs ts) ∙ ap (λ all. after_changes all ts) (append_assoc ys xs zs))
          (agree_changes zs (after_changes (xs ++ ys) ts) (after_changes (ys ++ xs) ts) of_xy of_yx turned.1),
    )

-- The changes of a transaction go before all others: all apply, and the tables agree.
pub to_front : (txn : ℕ) (ps : List Pending) (ts : List Table) → AreMade ts → AreDistinct ps → AllApart ps → all_apply (changes_in ps) ts ≡ true
    → (all_apply (changes_by txn ps ++ changes_in (without_txn txn ps)) ts ≡ true)
    × Agree (after_changes (changes_in ps) ts) (after_changes (changes_by txn ps ++ changes_in (without_txn txn ps)) ts)
to_front txn ps ts made d h fit = elim (stands txn ps d) [
  | inl none ↦
      subst₂ (λ xs ys. (all_apply (xs ++ changes_in ys) ts ≡ true) × Agree (after_changes (changes_in ps) ts) (after_changes (xs ++ changes_in ys) ts))
      (sym (by_absent txn ps none)) (sym (without_absent txn ps none)) (fit, agree_itself (after_changes (changes_in ps) ts))
  | inr s ↦
      let others = rest_changes txn ps s in
      let own = own_changes txn ps s in
      let before = changes_in s.before in
      let after = changes_in s.after in
      let apart = subst₂ Apart own others (apart_by txn ps d h) in
      let parts = apart_append_right_parts s.own.changes before after apart in
      let moved = forward before s.own.changes after ts made (apart_sym s.own.changes before parts.0) (sym (ap (λ xs. all_apply xs ts) (all_changes txn ps s)) ∙ fit) in
      let is = ap (λ xs. xs ++ changes_in (without_txn txn ps)) own ∙ ap (λ xs. s.own.changes ++ xs) others in (
        ap (λ xs. all_apply xs ts) is ∙ moved.0,
        subst₂ (λ xs ys. Agree (after_changes xs ts) (after_changes ys ts)) (sym (all_changes txn ps s)) (sym is) moved.1,
      )
]

-- They go behind all others.
pub to_end : (txn : ℕ) (ps : List Pending) (ts : List Table) → AreMade ts → AreDistinct ps → AllApart ps → all_apply (changes_in ps) ts ≡ true
    → (all_apply (changes_in (without_txn txn ps) ++ changes_by txn ps) ts ≡ true)
    × Agree (after_changes (changes_in ps) ts) (after_changes (changes_in (without_txn txn ps) ++ changes_by txn ps) ts)
to_end txn ps ts made d h fit =
    let own = changes_by txn ps in
    let others = changes_in (without_txn txn ps) in
    let front = to_front txn ps ts made d h fit in
    let turned = pass own others ts made (apart_by txn ps d h) front.0 in
    (turned.0, agree_trans (after_changes (changes_in ps) ts) (after_changes (own ++ others) ts) (after_changes (others ++ own) ts) front.1 turned.1)

-- All others apply without them.
pub left_out : (txn : ℕ) (ps : List Pending) (ts : List Table) → AreMade ts → AreDistinct ps → AllApart ps → all_apply (changes_in ps) ts ≡ true
    → all_apply (changes_in (without_txn txn ps)) ts ≡ true
left_out txn ps ts made d h fit =
    drop_first (changes_by txn ps) (changes_in (without_txn txn ps)) ts made (apart_by txn ps d h) (to_front txn ps ts made d h fit).0

-- The bytes of all changes are those of a transaction's and of the others'.
pub bytes_parted : (txn : ℕ) (ps : List Pending) → AreDistinct ps
    → sum_by change_bytes (changes_in ps) ≡ sum_by change_bytes (changes_by txn ps) + sum_by change_bytes (changes_in (without_txn txn ps))
bytes_parted txn ps d = elim (stands txn ps d) [
  | inl none ↦
      let own = ap (sum_by change_bytes) (by_absent txn ps none) in
      let others = ap (λ xs. sum_by change_bytes (changes_in xs)) (without_absent txn ps none) in
      omega (arith, own, others)
  | inr s ↦
      let before = changes_in s.before in
      let after = changes_in s.after in
      let all = ap (sum_by change_bytes) (all_changes txn ps s) ∙ sum_by-append change_bytes before (s.own.changes ++ after) in
      let behind = sum_by-append change_bytes s.own.changes after in
      let own = ap (sum_by change_bytes) (own_changes txn ps s) in
      let others = ap (sum_by change_bytes) (rest_changes txn ps s) ∙ sum_by-append change_bytes before after in
      omega (arith, all, behind, own, others)
]

-- And so of their number.
pub lengths_parted : (txn : ℕ) (ps : List Pending) → AreDistinct ps
    → length (changes_in ps) ≡ length (changes_by txn ps) + length (changes_in (without_txn txn ps))
lengths_parted txn ps d = elim (stands txn ps d) [
  | inl none ↦
      let own = ap length (by_absent txn ps none) in
      let others = ap (λ xs. length (changes_in xs)) (without_absent txn ps none) in
      omega (arith, own, others)
  | inr s ↦
      let before = changes_in s.before in
      let after = changes_in s.after in
      let all = ap length (all_changes txn ps s) ∙ length-append before (s.own.changes ++ after) in
      let behind = length-append s.own.changes after in
      let own = ap length (own_changes txn ps s) in
      let others = ap length (rest_changes txn ps s) ∙ length-append before after in
      omega (arith, all, behind, own, others)
]

-- What is prepared of two lists is that of the one and then of the other.
pub shares_append : (ps qs : List Pending) → shares (ps ++ qs) ≡ shares ps ++ shares qs
shares_append ps qs = filter_map-append share_of ps qs

-- what a transaction has as prepared under this xid
abbrev pub prepared_as : ℕ → Pending → Prepared
prepared_as xid it = record { xid = xid; changes = it.changes }

pub unshared_first : (p : Pending) (ps : List Pending) → p.under ≡ None → shares (p ∷ ps) ≡ shares ps
unshared_first p ps h = ap (λ o. cons_option (option_map (λ xid. prepared_as xid p) o) (shares ps)) h

pub shared_first : (xid : ℕ) (p : Pending) (ps : List Pending) → p.under ≡ Some xid → shares (p ∷ ps) ≡ prepared_as xid p ∷ shares ps
shared_first xid p ps h = ap (λ o. cons_option (option_map (λ n. prepared_as n p) o) (shares ps)) h

-- Without a transaction that is not prepared, all that is prepared stays.
pub shares_unshared : (txn : ℕ) (ps : List Pending) → AreDistinct ps → xid_by txn ps ≡ None → shares (without_txn txn ps) ≡ shares ps
shares_unshared txn ps d h = elim (stands txn ps d) [
  | inl none ↦ ap shares (without_absent txn ps none)
  | inr s ↦
      let all = ap shares s.all ∙ shares_append s.before (s.own ∷ s.after) in
      ap shares s.rest
      ∙ shares_append s.before s.after
      ∙ ap (λ xs. shares s.before ++ xs) (sym (unshared_first s.own s.after (sym (ap xid_of s.found) ∙ h)))
      ∙ sym all
]

some_cond : (b : Bool) (p : Prepared) (o : Option Prepared) → is_some (cond b (Some p) o) ≡ (b || is_some o)
some_cond true p o = refl
some_cond false p o = refl

or_assoc : (a b c : Bool) → (a || (b || c)) ≡ ((a || b) || c)
or_assoc true b c = refl
or_assoc false b c = refl

-- an xid is that of the first, or of one of the rest
pub prepared_first : (xid : ℕ) (p : Prepared) (ps : List Prepared) → is_prepared xid (p ∷ ps) ≡ (has_xid xid p || is_prepared xid ps)
prepared_first xid p ps = some_cond (has_xid xid p) p (find (has_xid xid) ps)

-- An xid is prepared in two lists where it is in one of them.
pub prepared_append : (xid : ℕ) (ps qs : List Prepared) → is_prepared xid (ps ++ qs) ≡ (is_prepared xid ps || is_prepared xid qs)
prepared_append xid [] qs = refl
prepared_append xid (p ∷ ps) qs =
    prepared_first xid p (ps ++ qs)
    ∙ ap (λ b. has_xid xid p || b) (prepared_append xid ps qs)
    ∙ or_assoc (has_xid xid p) (is_prepared xid ps) (is_prepared xid qs)
    ∙ ap (λ b. b || is_prepared xid qs) (sym (prepared_first xid p ps))

pub xid_out : (xid : ℕ) (p : Prepared) (ps : List Prepared) → has_xid xid p ≡ true → without_xid xid (p ∷ ps) ≡ without_xid xid ps
xid_out xid p ps own = cond_false (not (has_xid xid p)) (p ∷ without_xid xid ps) (without_xid xid ps) (ap not own)

pub xid_kept : (xid : ℕ) (p : Prepared) (ps : List Prepared) → has_xid xid p ≡ false → without_xid xid (p ∷ ps) ≡ p ∷ without_xid xid ps
xid_kept xid p ps other = cond_true (not (has_xid xid p)) (p ∷ without_xid xid ps) (without_xid xid ps) (ap not other)

-- Without an xid that is not prepared all stays.
pub without_unprepared : (xid : ℕ) (ps : List Prepared) → is_prepared xid ps ≡ false → without_xid xid ps ≡ ps
without_unprepared xid [] h = refl
without_unprepared xid (p ∷ ps) h =
    let parts = or_false (has_xid xid p) (is_prepared xid ps) (sym (prepared_first xid p ps) ∙ h) in
    xid_kept xid p ps parts.0 ∙ ap (λ xs. p ∷ xs) (without_unprepared xid ps parts.1)

-- an xid that two lists with one between them have not is not that one's
not_between : (xid : ℕ) (ps qs : List Prepared) (p : Prepared) → is_prepared xid (ps ++ p ∷ qs) ≡ false → (has_xid xid p ≡ false) × (is_prepared xid (ps ++ qs) ≡ false)
not_between xid ps qs p h =
    let parts = or_false (is_prepared xid ps) (is_prepared xid (p ∷ qs)) (sym (prepared_append xid ps (p ∷ qs)) ∙ h) in
    let last = or_false (has_xid xid p) (is_prepared xid qs) (sym (prepared_first xid p qs) ∙ parts.1) in
    (last.0, prepared_append xid ps qs ∙ neither (is_prepared xid ps) (is_prepared xid qs) parts.0 last.1)

-- Where no xid stands twice, one xid is that of one alone.
pub one_out : (p : Prepared) (ps qs : List Prepared) → HaveOwnXids (ps ++ p ∷ qs) → without_xid p.xid (ps ++ p ∷ qs) ≡ ps ++ qs
one_out p [] qs h = xid_out p.xid p qs ((Decides-eqb p.xid p.xid).1 refl) ∙ without_unprepared p.xid qs h.0
one_out p (q ∷ ps) qs h =
    let apart = differ_sym p.xid q.xid (not_between q.xid ps qs p h.0).0 in
    xid_kept p.xid q (ps ++ p ∷ qs) apart ∙ ap (λ xs. q ∷ xs) (one_out p ps qs h.1)

pub xids_one_out : (p : Prepared) (ps qs : List Prepared) → HaveOwnXids (ps ++ p ∷ qs) → HaveOwnXids (ps ++ qs)
xids_one_out p [] qs h = h.1
xids_one_out p (q ∷ ps) qs h = ((not_between q.xid ps qs p h.0).1, xids_one_out p ps qs h.1)

-- One more of an xid that is not prepared.
pub xids_last : (p : Prepared) (ps : List Prepared) → HaveOwnXids ps → is_prepared p.xid ps ≡ false → HaveOwnXids (ps ++ p ∷ [])
xids_last p [] h k = (refl, tt)
xids_last p (q ∷ ps) h k =
    let parts = or_false (has_xid p.xid q) (is_prepared p.xid ps) (sym (prepared_first p.xid q ps) ∙ k) in
    let own = prepared_first q.xid p [] ∙ neither (has_xid q.xid p) false (differ_sym q.xid p.xid parts.0) refl in
    (prepared_append q.xid ps (p ∷ []) ∙ neither (is_prepared q.xid ps) (is_prepared q.xid (p ∷ [])) h.0 own, xids_last p ps h.1 parts.1)

-- what is left and what is prepared, at the place of a prepared transaction
all_shares : (txn xid : ℕ) (left : List Prepared) (ps : List Pending) (s : Stands txn ps) → s.own.under ≡ Some xid
    → left ++ shares ps ≡ (left ++ shares s.before) ++ prepared_as xid s.own ∷ shares s.after
all_shares txn xid left ps s h =
    ap (λ xs. left ++ xs) (ap shares s.all ∙ shares_append s.before (s.own ∷ s.after) ∙ ap (λ xs. shares s.before ++ xs) (shared_first xid s.own s.after h))
    ∙ sym (append_assoc left (shares s.before) (prepared_as xid s.own ∷ shares s.after))

rest_shares : (txn : ℕ) (left : List Prepared) (ps : List Pending) (s : Stands txn ps) → left ++ shares (without_txn txn ps) ≡ (left ++ shares s.before) ++ shares s.after
rest_shares txn left ps s =
    ap (λ xs. left ++ xs) (ap shares s.rest ∙ shares_append s.before s.after)
    ∙ sym (append_assoc left (shares s.before) (shares s.after))

-- Without the xid of a transaction, what is prepared is that of the others.
pub without_share : (txn xid : ℕ) (left : List Prepared) (ps : List Pending) → AreDistinct ps → HaveOwnXids (left ++ shares ps) → xid_by txn ps ≡ Some xid
    → without_xid xid (left ++ shares ps) ≡ left ++ shares (without_txn txn ps)
without_share txn xid left ps d h by = elim (stands txn ps d) [
  | inl none ↦ absurd (none_some (sym (ap xid_of none) ∙ by))
  | inr s ↦
      let all = all_shares txn xid left ps s (sym (ap xid_of s.found) ∙ by) in
      ap (without_xid xid) all
      ∙ one_out (prepared_as xid s.own) (left ++ shares s.before) (shares s.after) (subst HaveOwnXids all h)
      ∙ sym (rest_shares txn left ps s)
]

-- Without a transaction no xid stands twice.
pub xids_without : (txn : ℕ) (left : List Prepared) (ps : List Pending) → AreDistinct ps → HaveOwnXids (left ++ shares ps) → HaveOwnXids (left ++ shares (without_txn txn ps))
xids_without txn left ps d h = elim (stands txn ps d) [
  | inl none ↦ subst (λ xs. HaveOwnXids (left ++ shares xs)) (sym (without_absent txn ps none)) h
  | inr s ↦ at s s.own.under refl
]
  where
    at : (s : Stands txn ps) (under : Option ℕ) → s.own.under ≡ under → HaveOwnXids (left ++ shares (without_txn txn ps))
    at s None e = subst (λ xs. HaveOwnXids (left ++ xs)) (sym (shares_unshared txn ps d (ap xid_of s.found ∙ e))) h
    at s (Some xid) e =
        subst HaveOwnXids (sym (rest_shares txn left ps s))
        (xids_one_out (prepared_as xid s.own) (left ++ shares s.before) (shares s.after) (subst HaveOwnXids (all_shares txn xid left ps s e) h))
