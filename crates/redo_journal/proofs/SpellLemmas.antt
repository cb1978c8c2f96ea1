-- The bytes of two numbers, and how many bytes bodies have.
use Rattle.std.proofs.Common.{◌≡◌, ℕ, List, [], ◌∷◌, ◌++◌, get_or, ◌∙◌, ap, ◌+◌, length, length-append, arith}
use Rattle.frame_codec.specs.Bytes.{le64}
use Rattle.frame_codec.proofs.FrameLemmas.{length-le64}

-- eight bytes of one list and eight of another
abbrev sixteen : List ℕ → List ℕ → List ℕ
sixteen a b =
    get_or a 0 0 ∷ get_or a 1 0 ∷ get_or a 2 0 ∷ get_or a 3 0 ∷ get_or a 4 0 ∷ get_or a 5 0 ∷ get_or a 6 0 ∷ get_or a 7 0
    ∷ get_or b 0 0 ∷ get_or b 1 0 ∷ get_or b 2 0 ∷ get_or b 3 0 ∷ get_or b 4 0 ∷ get_or b 5 0 ∷ get_or b 6 0 ∷ get_or b 7 0 ∷ []

pub pair_written : (m n : ℕ) (a b : List ℕ) → a ≡ le64 m → b ≡ le64 n → sixteen a b ≡ le64 m ++ le64 n
unfolding le64
pair_written m n a b is_a is_b = ap (λ (l : List ℕ). sixteen l b) is_a ∙ ap (λ (l : List ℕ). sixteen (le64 m) l) is_b

-- the lengths of bodies
pub length-named : (table text : List ℕ) → length ((length table ∷ table) ++ text) ≡ 1 + length table + length text
length-named table text = omega (arith, length-append table text)

pub length-defined : (table engine text : List ℕ) → length ((length table ∷ table) ++ ((length engine ∷ engine) ++ text)) ≡ 2 + length table + length engine + length text
length-defined table engine text = omega (arith, length-named table ((length engine ∷ engine) ++ text), length-named engine text)

pub length-number : (n : ℕ) → length (le64 n) ≡ 8
length-number n = length-le64 n

pub length-pair : (m n : ℕ) → length (le64 m ++ le64 n) ≡ 16
length-pair m n = omega (arith, length-append (le64 m) (le64 n), length-le64 m, length-le64 n)

pub length-prepared : (n : ℕ) (text : List ℕ) → length (le64 n ++ text) ≡ 8 + length text
length-prepared n text = omega (arith, length-append (le64 n) text, length-le64 n)
