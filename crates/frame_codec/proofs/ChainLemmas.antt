-- Chains of frames: their length, and a chain behind a chain.
use Rattle.std.proofs.Common.{◌≡◌, ℕ, ◌+◌, ◌≤◌, List, [], ◌∷◌, ◌++◌, length, refl, sym, ◌∙◌, ap, arith, append_assoc, length-append}
use Rattle.frame_codec.specs.Frame.{Event, size_of, checksum_of, frame_of, IsFrameAt}
use Rattle.frame_codec.specs.Chain.{chain_of, end_of, last_checksum, EndsWithin}
use Rattle.frame_codec.proofs.FrameLemmas.{length-frame_of, one_event}

pub chain_of-nil : (prev at : ℕ) → chain_of prev at [] ≡ []
unfolding chain_of
chain_of-nil prev at = refl

pub chain_of-cons : (prev at : ℕ) (event : Event) (events : List Event)
    → chain_of prev at (event ∷ events) ≡ frame_of prev at event ++ chain_of (checksum_of prev at event) (at + size_of event) events
unfolding chain_of
chain_of-cons prev at event events = refl

pub end_of-append : (at : ℕ) (xs ys : List Event) → end_of at (xs ++ ys) ≡ end_of (end_of at xs) ys
end_of-append at [] ys = refl
end_of-append at (x ∷ xs) ys = end_of-append (at + size_of x) xs ys

pub last_checksum-append : (prev at : ℕ) (xs ys : List Event) → last_checksum prev at (xs ++ ys) ≡ last_checksum (last_checksum prev at xs) (end_of at xs) ys
last_checksum-append prev at [] ys = refl
last_checksum-append prev at (x ∷ xs) ys = last_checksum-append (checksum_of prev at x) (at + size_of x) xs ys

pub chain_of-append : (prev at : ℕ) (xs ys : List Event)
    → chain_of prev at (xs ++ ys) ≡ chain_of prev at xs ++ chain_of (last_checksum prev at xs) (end_of at xs) ys
chain_of-append prev at [] ys = ap (λ (l : List ℕ). l ++ chain_of prev at ys) (sym (chain_of-nil prev at))
chain_of-append prev at (x ∷ xs) ys =
    chain_of-cons prev at x (xs ++ ys)
    ∙ ap (λ (l : List ℕ). frame_of prev at x ++ l) (chain_of-append (checksum_of prev at x) (at + size_of x) xs ys)
    ∙ sym (append_assoc (frame_of prev at x) (chain_of (checksum_of prev at x) (at + size_of x) xs) (chain_of (last_checksum (checksum_of prev at x) (at + size_of x) xs) (end_of (at + size_of x) xs) ys))
    ∙ ap (λ (l : List ℕ). l ++ chain_of (last_checksum (checksum_of prev at x) (at + size_of x) xs) (end_of (at + size_of x) xs) ys) (sym (chain_of-cons prev at x xs))

pub length-chain_of : (prev at : ℕ) (xs : List Event) → at + length (chain_of prev at xs) ≡ end_of at xs
length-chain_of prev at [] = omega (arith, ap length (chain_of-nil prev at))
length-chain_of prev at (x ∷ xs) =
    let size = ap length (chain_of-cons prev at x xs) ∙ length-append (frame_of prev at x) (chain_of (checksum_of prev at x) (at + size_of x) xs) in
    let first = length-frame_of prev at x in
    let rest = length-chain_of (checksum_of prev at x) (at + size_of x) xs in
    omega (arith, size, first, rest)

pub end_of-le : (at : ℕ) (xs : List Event) → at ≤ end_of at xs
end_of-le at [] = omega arith
end_of-le at (x ∷ xs) = omega (arith, end_of-le (at + size_of x) xs)

-- no frame stands here
abbrev pub NoFrame : ℕ → ℕ → List ℕ → Type 0
NoFrame prev at bytes = (event : Event) → IsFrameAt prev at bytes event → ⊥

-- What stands at the front of a chain behind which no frame stands is a first part of it.
pub chain_front : (prev at : ℕ) (xs ys : List Event) (rest rest' : List ℕ) → EndsWithin at xs → EndsWithin at ys
    → NoFrame (last_checksum prev at xs) (end_of at xs) rest → chain_of prev at xs ++ rest ≡ chain_of prev at ys ++ rest'
    → (zs : List Event) × (xs ≡ ys ++ zs) × (rest' ≡ chain_of (last_checksum prev at ys) (end_of at ys) zs ++ rest)
chain_front prev at xs [] rest rest' ends_x ends_y none is =
    (xs, refl, sym (is ∙ ap (λ (l : List ℕ). l ++ rest') (chain_of-nil prev at)))
chain_front prev at [] (y ∷ ys) rest rest' ends_x ends_y none is =
    let size = end_of-le (at + size_of y) ys in
    absurd (none y (record {
      ends = omega (arith, size, ends_y);
      rest = chain_of (checksum_of prev at y) (at + size_of y) ys ++ rest';
      stands = sym (ap (λ (l : List ℕ). l ++ rest) (chain_of-nil prev at)) ∙ is ∙ ap (λ (l : List ℕ). l ++ rest') (chain_of-cons prev at y ys)
          ∙ append_assoc (frame_of prev at y) (chain_of (checksum_of prev at y) (at + size_of y) ys) rest';
    }))
chain_front prev at (x ∷ xs) (y ∷ ys) rest rest' ends_x ends_y none is =
    let size_x = end_of-le (at + size_of x) xs in
    let size_y = end_of-le (at + size_of y) ys in
    let spelt = sym (ap (λ (l : List ℕ). l ++ rest) (chain_of-cons prev at x xs) ∙ append_assoc (frame_of prev at x) (chain_of (checksum_of prev at x) (at + size_of x) xs) rest)
    ∙ is ∙ ap (λ (l : List ℕ). l ++ rest') (chain_of-cons prev at y ys) ∙ append_assoc (frame_of prev at y) (chain_of (checksum_of prev at y) (at + size_of y) ys) rest' in
    let first = one_event prev at x y _ _ (omega (arith, size_x, ends_x)) (omega (arith, size_y, ends_y)) spelt in
    let behind = first.1 ∙ ap (λ (e : Event). chain_of (checksum_of prev at e) (at + size_of e) ys ++ rest') (sym first.0) in
    let ends : EndsWithin (at + size_of x) ys = rw first.0 ends_y in
    let more = chain_front (checksum_of prev at x) (at + size_of x) xs ys rest rest' ends_x ends none behind in (
      more.0,
      ap (λ (l : List Event). x ∷ l) more.1 ∙ ap (λ (e : Event). e ∷ (ys ++ more.0)) first.0,
      more.2 ∙ ap (λ (e : Event). chain_of (last_checksum (checksum_of prev at e) (at + size_of e) ys) (end_of (at + size_of e) ys) more.0 ++ rest) first.0,
    )
