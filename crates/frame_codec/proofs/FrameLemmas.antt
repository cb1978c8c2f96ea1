-- The length of a frame, and that one event at most stands at a place.
use Rattle.std.proofs.Common.{◌≡◌, ℕ, ◌+◌, ◌<◌, ◌≤◌, ◌^◌, List, [], ◌∷◌, ◌++◌, length, refl, sym, ◌∙◌, ap, arith, append_assoc, length-append}
use Rattle.std.specs.Int.{w32, w64, from_le_bytes}
use Rattle.std.proofs.lemmas.Nat.{from_le_bytes-to_le_bytes_4, from_le_bytes-to_le_bytes_8}
use Rattle.frame_codec.specs.Bytes.{le16, le32, le64}
use Rattle.frame_codec.specs.Frame.{Event, size_of, front_of, checksum_of, frame_of, limit}

pub length-le16 : (n : ℕ) → length (le16 n) ≡ 2
unfolding le16
length-le16 n = refl

pub length-le32 : (n : ℕ) → length (le32 n) ≡ 4
unfolding le32
length-le32 n = refl

pub length-le64 : (n : ℕ) → length (le64 n) ≡ 8
unfolding le64
length-le64 n = refl

-- four bytes are those of one number
pub le32_same : (m n : ℕ) → m < 2 ^ 32 → n < 2 ^ 32 → le32 m ≡ le32 n → m ≡ n
unfolding le32
le32_same m n small_m small_n is =
    sym (from_le_bytes-to_le_bytes_4 m small_m) ∙ ap (λ (l : List ℕ). from_le_bytes w32 l) is ∙ from_le_bytes-to_le_bytes_4 n small_n

-- eight bytes are those of one number
pub le64_same : (m n : ℕ) → m < 2 ^ 64 → n < 2 ^ 64 → le64 m ≡ le64 n → m ≡ n
unfolding le64
le64_same m n small_m small_n is =
    sym (from_le_bytes-to_le_bytes_8 m small_m) ∙ ap (λ (l : List ℕ). from_le_bytes w64 l) is ∙ from_le_bytes-to_le_bytes_8 n small_n

-- two lists that begin with pieces of one length
pub same_pieces : {A : Type 0} (a b x y : List A) → length a ≡ length b → a ++ x ≡ b ++ y → (a ≡ b) × (x ≡ y)
same_pieces [] [] x y size is = (refl, is)
same_pieces [] (b ∷ bs) x y size is = absurd (omega (arith, size))
same_pieces (a ∷ as_) [] x y size is = absurd (omega (arith, size))
same_pieces (a ∷ as_) (b ∷ bs) x y size is =
    let rest = same_pieces as_ bs x y (omega (arith, size)) (cc) in
    let first : a ≡ b = cc in
    (cc (rest.0, first), rest.1)

pub length-front_of : (at : ℕ) (event : Event) → length (front_of at event) ≡ 19 + length event.body
unfolding front_of
length-front_of at event =
    simp (length-append, length-le32, length-le16) (omega arith)

pub length-frame_of : (prev at : ℕ) (event : Event) → length (frame_of prev at event) ≡ size_of event
unfolding frame_of
length-frame_of prev at event =
    omega (arith, length-append (front_of at event) (le32 (checksum_of prev at event)), length-front_of at event, length-le32 (checksum_of prev at event))

-- a frame and what follows it, field by field
fields : (prev at : ℕ) (event : Event) (x : List ℕ) → frame_of prev at event ++ x
    ≡ le32 0 ++ (event.kind ∷ (le32 1 ++ (le32 (size_of event) ++ (le32 (at + size_of event) ++ (le16 0 ++ (event.body ++ (le32 (checksum_of prev at event) ++ x)))))))
unfolding frame_of front_of
fields prev at event x = simp append_assoc

-- at most one event stands at a place behind a checksum
pub one_event : (prev at : ℕ) (e f : Event) (x y : List ℕ) → at + size_of e ≤ limit → at + size_of f ≤ limit
    → frame_of prev at e ++ x ≡ frame_of prev at f ++ y → (e ≡ f) × (x ≡ y)
one_event prev at e f x y ends_e ends_f is =
    let spelt = sym (fields prev at e x) ∙ is ∙ fields prev at f y in
    let a = same_pieces (le32 0) (le32 0) _ _ refl spelt in
    let b = same_pieces (e.kind ∷ []) (f.kind ∷ []) _ _ refl a.1 in
    let c = same_pieces (le32 1) (le32 1) _ _ refl b.1 in
    let d = same_pieces (le32 (size_of e)) (le32 (size_of f)) _ _ (length-le32 (size_of e) ∙ sym (length-le32 (size_of f))) c.1 in
    let size : size_of e ≡ size_of f = le32_same (size_of e) (size_of f) (omega arith) (omega arith) d.0 in
    let g = same_pieces (le32 (at + size_of e)) (le32 (at + size_of f)) _ _ (length-le32 (at + size_of e) ∙ sym (length-le32 (at + size_of f))) d.1 in
    let h = same_pieces (le16 0) (le16 0) _ _ refl g.1 in
    let i = same_pieces e.body f.body _ _ (omega (arith, size)) h.1 in
    let j = same_pieces (le32 (checksum_of prev at e)) (le32 (checksum_of prev at f)) _ _ (length-le32 (checksum_of prev at e) ∙ sym (length-le32 (checksum_of prev at f))) i.1 in
    let kind : e.kind ≡ f.kind = cc (b.0) in
    let body : e.body ≡ f.body = i.0 in
    (ap (λ (k : ℕ). record { kind = k; body = e.body }) kind ∙ ap (λ (l : List ℕ). record { kind = f.kind; body = l }) body, j.1)
