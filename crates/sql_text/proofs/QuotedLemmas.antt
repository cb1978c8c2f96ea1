-- Texts in quotes, piece by piece.
use Rattle.std.proofs.Common.{◌≡◌, ℕ, zero, suc, ◌+◌, ◌-◌, ◌≤◌, List, [], ◌∷◌, ◌++◌, drop, refl, ap, ◌∙◌, arith, add_assoc, append_assoc}
use Rattle.sql_text.specs.declared.quoted.Piece.TheVariants.{Byte, End, Fault}
use Rattle.sql_text.specs.declared.quoted.Quoted.{Quoted}
use Rattle.sql_text.specs.declared.quoted.Quoted.TheVariants.{Closed, Faulty}
use Rattle.sql_text.specs.Quoted.{piece_at, piece_len, with_byte, with_piece, quoted_from}

-- what was read before, and what stands behind it
abbrev pub with_front : List ℕ → ℕ → Quoted → Quoted
with_front front n (Closed text len) = Closed (front ++ text) (n + len)
with_front front n (Faulty len) = Faulty (n + len)

pub with_front-with_byte : (front : List ℕ) (n b m : ℕ) (q : Quoted) → with_front front n (with_byte b m q) ≡ with_front (front ++ b ∷ []) (n + m) q
with_front-with_byte front n b m (Closed text len) = rw (append_assoc front (b ∷ []) text, add_assoc n m len) refl
with_front-with_byte front n b m (Faulty len) = rw (add_assoc n m len) refl

pub with_front-nil : (q : Quoted) → with_front [] 0 q ≡ q
with_front-nil (Closed text len) = let e : 0 + len ≡ len = omega arith in ap (λ k. Closed text k) e
with_front-nil (Faulty len) = let e : 0 + len ≡ len = omega arith in ap Faulty e

quoted_from-drop : (n : ℕ) (bs : List ℕ) → quoted_from n bs ≡ quoted_from 0 (drop n bs)
quoted_from-drop zero bs = refl
quoted_from-drop (suc n) [] = refl
quoted_from-drop (suc n) (b ∷ bs) = quoted_from-drop n bs

pub drop-cons : (n b : ℕ) (bs : List ℕ) → 1 ≤ n → drop (n - 1) bs ≡ drop n (b ∷ bs)
drop-cons zero b bs h = absurd (omega arith)
drop-cons (suc n) b bs h = let e : suc n - 1 ≡ n = omega arith in ap (λ k. drop k bs) e

pub quoted_byte : (bs : List ℕ) (b n : ℕ) → piece_at bs ≡ Byte b n → 1 ≤ n → quoted_from 0 bs ≡ with_byte b n (quoted_from 0 (drop n bs))
quoted_byte [] b n is moves = cc
quoted_byte (x ∷ bs) b n is moves =
    ap (λ p. with_piece p (quoted_from (piece_len p - 1) bs)) is
    ∙ ap (with_byte b n) (quoted_from-drop (n - 1) bs ∙ ap (quoted_from 0) (drop-cons n x bs moves))

pub quoted_end : (bs : List ℕ) → piece_at bs ≡ End → quoted_from 0 bs ≡ Closed [] 1
quoted_end [] is = cc
quoted_end (x ∷ bs) is = ap (λ p. with_piece p (quoted_from (piece_len p - 1) bs)) is

pub quoted_fault : (bs : List ℕ) → piece_at bs ≡ Fault → quoted_from 0 bs ≡ Faulty 0
quoted_fault [] is = refl
quoted_fault (x ∷ bs) is = ap (λ p. with_piece p (quoted_from (piece_len p - 1) bs)) is
