-- Checksums of bytes are below 2 ^ 32, and the last of a chain stands at its end.
use Rattle.std.proofs.Common.{◌≡◌, ⊎_elim, ℕ, zero, suc, ◌+◌, ◌/◌, ◌%◌, ◌^◌, ◌-◌, ◌<◌, Bool, true, false, cond, eqb, bit_xor, List, [], ◌∷◌, ◌++◌, length, get_or, refl, sym, ◌∙◌, ap, subst, arith, append_assoc}
use Rattle.std.proofs.lemmas.Nat.{xor_of_32}
use Rattle.std.proofs.lemmas.List.{append-nil, get_or_append_left, get_or-append-add, get_or_past}
use Rattle.std.proofs.lemmas.Bool.{cases_lt}
use Rattle.frame_codec.specs.Bytes.{le32}
use Rattle.frame_codec.specs.Crc.{polynomial, shifted, shifted_by, register, crc_of}
use Rattle.frame_codec.specs.Frame.{Event, size_of, front_of, checksum_of, frame_of}
use Rattle.frame_codec.specs.Chain.{chain_of, last_checksum}
use Rattle.frame_codec.proofs.ChainLemmas.{chain_of-nil, chain_of-cons}

abbrev pub IsBytes : List ℕ → Type 0
IsBytes bytes = (i : ℕ) → get_or bytes i 0 < 256

pub IsBytes-left : (xs ys : List ℕ) → IsBytes (xs ++ ys) → IsBytes xs
IsBytes-left xs ys are i = ⊎_elim
    (λ within. subst (λ (n : ℕ). n < 256) (get_or_append_left xs ys 0 i within) (are i))
    (λ past. subst (λ (n : ℕ). n < 256) (sym (get_or_past xs i 0 past)) (omega arith))
    (cases_lt i (length xs))

pub IsBytes-right : (xs ys : List ℕ) → IsBytes (xs ++ ys) → IsBytes ys
IsBytes-right xs ys are i = subst (λ (n : ℕ). n < 256) (get_or-append-add xs ys i 0) (are (length xs + i))

IsBytes-tail : (x : ℕ) (xs : List ℕ) → IsBytes (x ∷ xs) → IsBytes xs
IsBytes-tail x xs are i = are (suc i)

chosen : (b : Bool) (m n k : ℕ) → m < k → n < k → cond b m n < k
chosen true m n k first second = first
chosen false m n k first second = second

shifted_small : (r : ℕ) → r < 2 ^ 32 → shifted r < 2 ^ 32
shifted_small r small =
    let half : r / 2 < 2 ^ 32 = omega arith in
    chosen (eqb (r % 2) 1) (bit_xor (r / 2) polynomial) (r / 2) (2 ^ 32) (xor_of_32 (r / 2) polynomial half (omega arith)) half

shifted_by_small : (n r : ℕ) → r < 2 ^ 32 → shifted_by n r < 2 ^ 32
shifted_by_small zero r small = small
shifted_by_small (suc n) r small = shifted_by_small n (shifted r) (shifted_small r small)

register_small : (r : ℕ) (bytes : List ℕ) → r < 2 ^ 32 → IsBytes bytes → register r bytes < 2 ^ 32
register_small r [] small are = small
register_small r (byte ∷ bytes) small are =
    let first : byte < 2 ^ 32 = omega (arith, are 0) in
    register_small (shifted_by 8 (bit_xor r byte)) bytes (shifted_by_small 8 (bit_xor r byte) (xor_of_32 r byte small first)) (IsBytes-tail byte bytes are)

-- a checksum of bytes is a number of 32 bits
pub crc_small : (start : ℕ) (bytes : List ℕ) → start < 2 ^ 32 → IsBytes bytes → crc_of start bytes < 2 ^ 32
unfolding crc_of
crc_small start bytes small are =
    xor_of_32 (register (bit_xor start (2 ^ 32 - 1)) bytes) (2 ^ 32 - 1)
    (register_small (bit_xor start (2 ^ 32 - 1)) bytes (xor_of_32 start (2 ^ 32 - 1) small (omega arith)) are) (omega arith)

frame_split : (prev at : ℕ) (event : Event) → frame_of prev at event ≡ front_of at event ++ le32 (checksum_of prev at event)
unfolding frame_of
frame_split prev at event = refl

-- so is the last one of a chain
pub last_small : (prev at : ℕ) (events : List Event) → prev < 2 ^ 32 → IsBytes (chain_of prev at events) → last_checksum prev at events < 2 ^ 32
last_small prev at [] small are = small
last_small prev at (event ∷ events) small are =
    let rest = chain_of (checksum_of prev at event) (at + size_of event) events in
    let both = subst IsBytes (chain_of-cons prev at event events) are in
    let front = IsBytes-left (front_of at event) (le32 (checksum_of prev at event)) (subst IsBytes (frame_split prev at event) (IsBytes-left (frame_of prev at event) rest both)) in
    last_small (checksum_of prev at event) (at + size_of event) events (crc_small prev (front_of at event) small front) (IsBytes-right (frame_of prev at event) rest both)

-- the last checksum of a chain stands at its end
pub chain_tail : (prev at : ℕ) (event : Event) (events : List Event)
    → (front : List ℕ) × (chain_of prev at (event ∷ events) ≡ front ++ le32 (last_checksum prev at (event ∷ events)))
chain_tail prev at event [] = (
  front_of at event,
  chain_of-cons prev at event [] ∙ ap (λ (l : List ℕ). frame_of prev at event ++ l) (chain_of-nil (checksum_of prev at event) (at + size_of event))
      ∙ append-nil (frame_of prev at event) ∙ frame_split prev at event,
)
chain_tail prev at event (next ∷ events) =
    let more = chain_tail (checksum_of prev at event) (at + size_of event) next events in (
      frame_of prev at event ++ more.0,
      chain_of-cons prev at event (next ∷ events) ∙ ap (λ (l : List ℕ). frame_of prev at event ++ l) more.1
          ∙ sym (append_assoc (frame_of prev at event) more.0 (le32 (last_checksum prev at (event ∷ next ∷ events)))),
    )
