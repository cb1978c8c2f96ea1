-- Which of two chains at one place begins the other?
use Rattle.std.proofs.Common.{◌≡◌, ◌⊎◌, inl, inr, ⊎_elim, ℕ, ◌+◌, List, [], ◌∷◌, ◌++◌, refl, sym, ◌∙◌, ap, subst, arith, append_assoc}
use Rattle.std.proofs.lemmas.List.{append-nil}
use Rattle.frame_codec.specs.Frame.{Event, size_of, checksum_of, frame_of}
use Rattle.frame_codec.specs.Chain.{chain_of, end_of, last_checksum, EndsWithin}
use Rattle.frame_codec.proofs.FrameLemmas.{one_event}
use Rattle.frame_codec.proofs.ChainLemmas.{chain_of-nil, chain_of-cons, end_of-le}
use Rattle.row_format.specs.declared.change.Transaction.{Transaction}
use Rattle.binlog_events.specs.Transaction.{events_of, IsFit}
use Rattle.binlog_events.proofs.TransactionLemmas.{one_transaction}

-- the second list of events begins with the first, and what stands behind the first are the frames of the others
pub record Begins (prev at : ℕ) (xs ys : List Event) (x y : List ℕ) : Type 0 where
  pub more : List Event
  pub is : ys ≡ xs ++ more
  pub behind : x ≡ chain_of (last_checksum prev at xs) (end_of at xs) more ++ y

parted : (prev at : ℕ) (e : Event) (es : List Event) (x : List ℕ) → chain_of prev at (e ∷ es) ++ x ≡ frame_of prev at e ++ (chain_of (checksum_of prev at e) (at + size_of e) es ++ x)
parted prev at e es x = ap (λ (l : List ℕ). l ++ x) (chain_of-cons prev at e es) ∙ append_assoc (frame_of prev at e) (chain_of (checksum_of prev at e) (at + size_of e) es) x

empty : (prev at : ℕ) (x : List ℕ) → chain_of prev at [] ++ x ≡ x
empty prev at x = ap (λ (l : List ℕ). l ++ x) (chain_of-nil prev at)

-- of two chains at one place one begins the other
pub chains_meet : (prev at : ℕ) (xs ys : List Event) (x y : List ℕ) → EndsWithin at xs → EndsWithin at ys
    → chain_of prev at xs ++ x ≡ chain_of prev at ys ++ y → Begins prev at xs ys x y ⊎ Begins prev at ys xs y x
chains_meet prev at [] ys x y ends_x ends_y is = inl (record { more = ys; is = refl; behind = sym (empty prev at x) ∙ is })
chains_meet prev at (e ∷ es) [] x y ends_x ends_y is = inr (record { more = e ∷ es; is = refl; behind = sym (empty prev at y) ∙ sym is })
chains_meet prev at (e ∷ es) (f ∷ fs) x y ends_x ends_y is =
    let spelt = sym (parted prev at e es x) ∙ is ∙ parted prev at f fs y in
    let first = one_event prev at e f _ _ (omega (arith, end_of-le (at + size_of e) es, ends_x)) (omega (arith, end_of-le (at + size_of f) fs, ends_y)) spelt in
    let behind : chain_of (checksum_of prev at e) (at + size_of e) es ++ x ≡ chain_of (checksum_of prev at e) (at + size_of e) fs ++ y =
    first.1 ∙ ap (λ (g : Event). chain_of (checksum_of prev at g) (at + size_of g) fs ++ y) (sym first.0) in
    let ends : EndsWithin (at + size_of e) fs = subst (λ (g : Event). EndsWithin (at + size_of g) fs) (sym first.0) ends_y in
    ⊎_elim
    (λ first_part. inl (record {
      more = first_part.more;
      is = ap (λ (l : List Event). f ∷ l) first_part.is ∙ ap (λ (g : Event). g ∷ (es ++ first_part.more)) (sym first.0);
      behind = first_part.behind;
    }))
    (λ second_part. inr (record {
      more = second_part.more;
      is = ap (λ (l : List Event). e ∷ l) second_part.is ∙ ap (λ (g : Event). g ∷ (fs ++ second_part.more)) first.0;
      behind = second_part.behind
          ∙ ap (λ (g : Event). chain_of (last_checksum (checksum_of prev at g) (at + size_of g) fs) (end_of (at + size_of g) fs) second_part.more ++ x) first.0;
    }))
    (chains_meet (checksum_of prev at e) (at + size_of e) es fs x y ends_x ends behind)

-- one transaction stands at a place, and one thing stands behind it
pub one_here : (prev at : ℕ) (t u : Transaction) (x y : List ℕ) → IsFit t → IsFit u → EndsWithin at (events_of t) → EndsWithin at (events_of u)
    → chain_of prev at (events_of t) ++ x ≡ chain_of prev at (events_of u) ++ y → (t ≡ u) × (x ≡ y)
one_here prev at t u x y fit_t fit_u ends_t ends_u is = ⊎_elim
    (λ begins. same t u x y fit_t fit_u begins)
    (λ begins. let so = same u t y x fit_u fit_t begins in (sym so.0, sym so.1))
    (chains_meet prev at (events_of t) (events_of u) x y ends_t ends_u is)
  where
    same : (t u : Transaction) (x y : List ℕ) → IsFit t → IsFit u → Begins prev at (events_of t) (events_of u) x y → (t ≡ u) × (x ≡ y)
    same t u x y fit_t fit_u begins =
        let one = one_transaction t u begins.more [] fit_t fit_u (sym begins.is ∙ sym (append-nil (events_of u))) in (
          one.0,
          begins.behind ∙ ap (λ (l : List Event). chain_of (last_checksum prev at (events_of t)) (end_of at (events_of t)) l ++ y) one.1
              ∙ empty (last_checksum prev at (events_of t)) (end_of at (events_of t)) y,
        )
