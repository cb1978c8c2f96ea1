-- Pieces of bytes: what was read is what was written, and what was written is read again.
use Rattle.std.proofs.Common.{◌≡◌, ℕ, ◌+◌, ◌^◌, ◌<◌, ◌≤◌, Bool, true, false, List, [], ◌∷◌, ◌++◌, length, get_or, take, drop, Option, Some, None, suc, refl, sym, ap, subst, ◌∙◌, append_assoc, arith, inl, inr, length-append}
use Rattle.std.specs.Prelude.{nat_le}
use Rattle.std.specs.Int.{w16, w32, w64, from_le_bytes}
use Rattle.std.proofs.lemmas.Bool.{cases_lt, leb-true, le-leb}
use Rattle.std.proofs.lemmas.List.{take_at, drop_at, take-append-drop, length-take, get_or-drop, get_or-take, get_or_past}
use Rattle.std.proofs.lemmas.Nat.{le_bytes_2, le_bytes_4, le_bytes_8, from_le_bytes-to_le_bytes_2, from_le_bytes-to_le_bytes_4, from_le_bytes-to_le_bytes_8}
use Rattle.frame_codec.specs.Bytes.{le16, le32, le64}
use Rattle.sql_value.specs.Names.{is_name, IsName}
use Rattle.row_format.specs.Spelling.{Takes, counted}
use Rattle.row_format.specs.Reading.{◌>>=◌, where_so, byte_at, piece_at, counted_at, name_at}

abbrev pub IsBytes : List ℕ → Type 0
IsBytes bytes = (i : ℕ) → get_or bytes i 0 < 256

pub IsBytes-drop : (n : ℕ) (bytes : List ℕ) → IsBytes bytes → IsBytes (drop n bytes)
IsBytes-drop n bytes fits i = rw get_or-drop (fits (n + i))

pub IsBytes-take : (n : ℕ) (bytes : List ℕ) → IsBytes bytes → IsBytes (take n bytes)
IsBytes-take n bytes fits i =
    elim (cases_lt i n) [
      | inl lt ↦ rw (get_or-take n bytes i 0 lt) (fits i)
      | inr le ↦ rw (get_or_past (take n bytes) i 0 (omega (arith, length-take n bytes))) (omega arith)
    ]

pub IsBytes-rest : (b : ℕ) (bytes : List ℕ) → IsBytes (b ∷ bytes) → IsBytes bytes
IsBytes-rest b bytes fits i = fits (suc i)

-- the value that was read first, and what was read behind it
pub bind_some : {A B : Type 0} (o : Option A) (f : A → Option B) (y : B) → (o >>= f) ≡ Some y → (x : A) × (o ≡ Some x) × (f x ≡ Some y)
bind_some (Some x) f y is = (x, refl, is)
bind_some None f y is = absurd cc

pub some_is : {A : Type 0} (x y : A) → Some x ≡ Some y → x ≡ y
some_is x y is = cc

-- a test that did not fail
pub where_some : {A : Type 0} (b : Bool) (x y : A) → where_so b x ≡ Some y → (b ≡ true) × (x ≡ y)
where_some true x y is = (refl, cc)
where_some false x y is = absurd cc

pub where_true : {A : Type 0} (b : Bool) (x : A) → b ≡ true → where_so b x ≡ Some x
where_true true x is = refl
where_true false x is = absurd cc

-- what a reader took from the front of bytes
pub record Took (bytes text rest : List ℕ) : Type 0 where
  pub takes : Takes bytes text rest
  pub rest_bytes : IsBytes rest

pub Took-then : (a x b y c : List ℕ) → Took a x b → Took b y c → Took a (x ++ y) c
Took-then a x b y c p q = record { takes = p.takes ∙ ap (λ (t : List ℕ). x ++ t) q.takes ∙ sym (append_assoc x y c); rest_bytes = q.rest_bytes }

pub byte_takes : (bytes : List ℕ) (it : ℕ × List ℕ) → IsBytes bytes → byte_at bytes ≡ Some it → Took bytes (it.0 ∷ []) it.1 × (it.0 < 256)
byte_takes [] it fits is = absurd cc
byte_takes (b ∷ bytes) it fits is =
    subst (λ (x : ℕ × List ℕ). Took (b ∷ bytes) (x.0 ∷ []) x.1 × (x.0 < 256)) (some_is (b, bytes) it is) (record { takes = refl; rest_bytes = IsBytes-rest b bytes fits }, fits 0)

pub piece_takes : (n : ℕ) (bytes : List ℕ) (it : List ℕ × List ℕ) → IsBytes bytes → piece_at n bytes ≡ Some it → Took bytes it.0 it.1 × (length it.0 ≡ n) × IsBytes it.0
unfolding piece_at
piece_takes n bytes it fits is =
    let found = where_some (nat_le n (length bytes)) (take n bytes, drop n bytes) it is in
    let long : n ≤ length bytes = leb-true _ _ found.0 in
    let len : length (take n bytes) ≡ n = omega (arith, length-take n bytes) in
    subst (λ (x : List ℕ × List ℕ). Took bytes x.0 x.1 × (length x.0 ≡ n) × IsBytes x.0) found.1
    (record { takes = sym (take-append-drop n bytes); rest_bytes = IsBytes-drop n bytes fits }, len, IsBytes-take n bytes fits)

pub piece_again : (n : ℕ) (it rest : List ℕ) → length it ≡ n → piece_at n (it ++ rest) ≡ Some (it, rest)
unfolding piece_at
piece_again n it rest len =
    let long : nat_le n (length (it ++ rest)) ≡ true = le-leb _ _ (omega (arith, length-append it rest)) in
    where_true (nat_le n (length (it ++ rest))) (take n (it ++ rest), drop n (it ++ rest)) long
    ∙ ap (λ (t : List ℕ). Some (t, drop n (it ++ rest))) (take_at it rest n len)
    ∙ ap (λ (t : List ℕ). Some (it, t)) (drop_at it rest n len)

pub counted_takes : (bytes : List ℕ) (it : List ℕ × List ℕ) → IsBytes bytes → counted_at bytes ≡ Some it → Took bytes (counted it.0) it.1 × (length it.0 < 256)
unfolding counted_at
counted_takes bytes it fits is =
    let b = bind_some (byte_at bytes) (λ n. piece_at n.0 n.1) it is in
    let n = b.0 in
    let first = byte_takes bytes n fits b.1 in
    let second = piece_takes n.0 n.1 it first.0.rest_bytes b.2 in
    (subst (λ (k : ℕ). Took bytes (k ∷ it.0) it.1) (sym second.1) (Took-then bytes (n.0 ∷ []) n.1 it.0 it.1 first.0 second.0), omega (arith, first.1, second.1))

pub counted_again : (it rest : List ℕ) → counted_at (counted it ++ rest) ≡ Some (it, rest)
unfolding counted_at
counted_again it rest = piece_again (length it) it rest refl

pub name_takes : (bytes : List ℕ) (it : List ℕ × List ℕ) → IsBytes bytes → name_at bytes ≡ Some it → Took bytes (counted it.0) it.1 × IsName it.0
unfolding name_at
name_takes bytes it fits is =
    let b = bind_some (counted_at bytes) (λ n. where_so (is_name n.0) n) it is in
    let found = where_some (is_name b.0.0) b.0 it b.2 in
    let took = counted_takes bytes b.0 fits b.1 in
    subst (λ (x : List ℕ × List ℕ). Took bytes (counted x.0) x.1 × IsName x.0) found.1 (took.0, found.0)

pub name_again : (it rest : List ℕ) → IsName it → name_at (counted it ++ rest) ≡ Some (it, rest)
unfolding name_at
name_again it rest named = rw (counted_again it rest) (where_true (is_name it) (it, rest) named)

-- numbers of two, four and eight bytes
pub le16_back : (bytes : List ℕ) → length bytes ≡ 2 → IsBytes bytes → le16 (from_le_bytes w16 bytes) ≡ bytes
unfolding le16
le16_back bytes len fits = le_bytes_2 bytes _ len fits refl

pub le32_back : (bytes : List ℕ) → length bytes ≡ 4 → IsBytes bytes → le32 (from_le_bytes w32 bytes) ≡ bytes
unfolding le32
le32_back bytes len fits = le_bytes_4 bytes _ len fits refl

pub le64_back : (bytes : List ℕ) → length bytes ≡ 8 → IsBytes bytes → le64 (from_le_bytes w64 bytes) ≡ bytes
unfolding le64
le64_back bytes len fits = le_bytes_8 bytes _ len fits refl

pub le16_again : (n : ℕ) → n < 2 ^ 16 → from_le_bytes w16 (le16 n) ≡ n
unfolding le16
le16_again n small = from_le_bytes-to_le_bytes_2 n small

pub le32_again : (n : ℕ) → n < 2 ^ 32 → from_le_bytes w32 (le32 n) ≡ n
unfolding le32
le32_again n small = from_le_bytes-to_le_bytes_4 n small

pub le64_again : (n : ℕ) → n < 2 ^ 64 → from_le_bytes w64 (le64 n) ≡ n
unfolding le64
le64_again n small = from_le_bytes-to_le_bytes_8 n small

pub le32_below : (bytes : List ℕ) → IsBytes bytes → from_le_bytes w32 bytes < 2 ^ 32
le32_below bytes fits = omega (arith, fits 0, fits 1, fits 2, fits 3)

pub le64_below : (bytes : List ℕ) → IsBytes bytes → from_le_bytes w64 bytes < 2 ^ 64
le64_below bytes fits = omega (arith, fits 0, fits 1, fits 2, fits 3, fits 4, fits 5, fits 6, fits 7)
