-- Lemmas on the checksum: the register is linear, zero bits leave it as it was, and bytes may go in together.
use Rattle.std.proofs.Common.{◌≡◌, ℕ, zero, suc, ◌+◌, ◌-◌, ◌*◌, ◌/◌, ◌%◌, ◌^◌, ◌<◌, ◌≤◌, ◌==◌, true, false, ◌&&◌, if◌then◌else◌, List, [], ◌∷◌, ◌++◌, length, get_or, take, drop, bit_xor, bit_and, refl, sym, ◌∙◌, ap, inl, inr, lit<, arith}
use Rattle.std.proofs.lemmas.Bool.{and_parts, eqb-true, cases_lt}
use Rattle.std.proofs.lemmas.List.{drop-drop, drop_more, length-drop, length-take-le, get_or-take, get_or-drop, get_or_past, take-append-drop}
use Rattle.std.proofs.lemmas.Nat.{xor_shr, xor_block, xor_comm, pow_pos, shr_split, mod_below, and_mask}
use Rattle.std.proofs.lemmas.Nat.Bits.{bit_at_xor, bit_at_lowest, same_from_bits}
use Rattle.std.proofs.Math.Nat.{pow-suc}
use Rattle.std.specs.Int.{bit_at, w64, from_le_bytes}
use Rattle.std.specs.Simd.{first_chunks}
use Rattle.std.specs.Int.Bits.{xor_zero_r, xor_zero_l, xor_self}
use Rattle.frame_codec.specs.Crc.{polynomial, shifted, shifted_by, register, crc_of}
use Rattle.frame_codec.specs.Tables.{shifted_bytes, is_table_from, are_tables_from, are_tables}

-- ---- the laws of exclusive or that the register needs

-- equal parts, in a function of two
both : {B : Type 0} (f : ℕ → B → ℕ) (a : ℕ) (b : B) (c : ℕ) (d : B) → a ≡ c → b ≡ d → f a b ≡ f c d
both f a b c d left right = ap (λ n. f n b) left ∙ ap (f c) right

-- parities may be added in either order
parity_assoc : (x y z : ℕ) → ((x + y) % 2 + z) % 2 ≡ (x + (y + z) % 2) % 2
parity_assoc x y z = omega arith

-- exclusive or is associative, bit by bit
pub xor_assoc : (a b c : ℕ) → bit_xor (bit_xor a b) c ≡ bit_xor a (bit_xor b c)
xor_assoc a b c = same_from_bits _ _ (λ i.
    bit_at_xor (bit_xor a b) c i ∙ ap (λ n. (n + bit_at c i) % 2) (bit_at_xor a b i)
    ∙ parity_assoc (bit_at a i) (bit_at b i) (bit_at c i)
    ∙ sym (bit_at_xor a (bit_xor b c) i ∙ ap (λ n. (bit_at a i + n) % 2) (bit_at_xor b c i)))

-- the middle two of four change places
pub xor_swap : (a b c d : ℕ) → bit_xor (bit_xor a b) (bit_xor c d) ≡ bit_xor (bit_xor a c) (bit_xor b d)
xor_swap a b c d =
    xor_assoc a b (bit_xor c d)
    ∙ ap (bit_xor a) (sym (xor_assoc b c d) ∙ ap (λ n. bit_xor n d) (xor_comm b c) ∙ xor_assoc c b d)
    ∙ sym (xor_assoc a c (bit_xor b d))

-- what is taken off a register twice is not taken off
pub xor_twice : (a b : ℕ) → bit_xor (bit_xor a b) b ≡ a
xor_twice a b = xor_assoc a b b ∙ ap (bit_xor a) (xor_self b) ∙ xor_zero_r a

-- a number is its low bits and its high bits
pub xor_high : (k high low : ℕ) → low < 2 ^ k → bit_xor low (high * 2 ^ k) ≡ high * 2 ^ k + low
xor_high k high low lt =
    let e : low ≡ 0 * 2 ^ k + low = omega arith in
    let f : high * 2 ^ k ≡ high * 2 ^ k + 0 = omega arith in
    both bit_xor low (high * 2 ^ k) (0 * 2 ^ k + low) (high * 2 ^ k + 0) e f
    ∙ xor_block k 0 high low 0 lt (pow_pos k)
    ∙ both (λ x y. x * 2 ^ k + y) _ _ _ _ (xor_zero_l high) (xor_zero_r low)

-- ---- one bit

-- what is taken off where the lowest bit is this
abbrev taken : ℕ → ℕ
taken low = if low == 1 then polynomial else 0

-- one step as one exclusive or
shifted-is : (r : ℕ) → shifted r ≡ bit_xor (r / 2) (taken (r % 2))
shifted-is r =
    elim (r % 2 == 1) as (λ b. (if b then bit_xor (r / 2) polynomial else r / 2) ≡ bit_xor (r / 2) (if b then polynomial else 0)) [
      | true ↦ refl
      | false ↦ sym (xor_zero_r (r / 2))
    ]

-- what is taken off follows the parity
taken-sum : (x y : ℕ) → x < 2 → y < 2 → taken ((x + y) % 2) ≡ bit_xor (taken x) (taken y)
taken-sum zero zero p q = refl
taken-sum zero (suc zero) p q = refl
taken-sum (suc zero) zero p q = refl
taken-sum (suc zero) (suc zero) p q = refl
taken-sum zero (suc (suc y)) p q = absurd (omega arith)
taken-sum (suc zero) (suc (suc y)) p q = absurd (omega arith)
taken-sum (suc (suc x)) y p q = absurd (omega arith)

-- the lowest bit of an exclusive or
lowest-xor : (a b : ℕ) → bit_xor a b % 2 ≡ (a % 2 + b % 2) % 2
lowest-xor a b =
    sym (bit_at_lowest (bit_xor a b)) ∙ bit_at_xor a b 0
    ∙ both (λ x y. (x + y) % 2) _ _ _ _ (bit_at_lowest a) (bit_at_lowest b)

-- one step is linear
pub shifted-xor : (a b : ℕ) → shifted (bit_xor a b) ≡ bit_xor (shifted a) (shifted b)
shifted-xor a b =
    shifted-is (bit_xor a b)
    ∙ both bit_xor _ _ _ _ (xor_shr a b 1) (ap taken (lowest-xor a b) ∙ taken-sum (a % 2) (b % 2) (omega arith) (omega arith))
    ∙ xor_swap (a / 2) (b / 2) (taken (a % 2)) (taken (b % 2))
    ∙ sym (both bit_xor _ _ _ _ (shifted-is a) (shifted-is b))

-- ---- so many bits

-- so many steps are linear
pub shifted_by-xor : (n a b : ℕ) → shifted_by n (bit_xor a b) ≡ bit_xor (shifted_by n a) (shifted_by n b)
shifted_by-xor zero a b = refl
shifted_by-xor (suc n) a b = ap (shifted_by n) (shifted-xor a b) ∙ shifted_by-xor n (shifted a) (shifted b)

-- steps follow steps
pub shifted_by-add : (m n r : ℕ) → shifted_by (m + n) r ≡ shifted_by n (shifted_by m r)
shifted_by-add zero n r =
    let e : 0 + n ≡ n = omega arith in
    ap (λ k. shifted_by k r) e
shifted_by-add (suc m) n r =
    let e : suc m + n ≡ suc (m + n) = omega arith in
    ap (λ k. shifted_by k r) e ∙ shifted_by-add m n (shifted r)

-- an even register is halved
shifted-even : (r half : ℕ) → r ≡ half * 2 → shifted r ≡ half
shifted-even r half e =
    let low : r % 2 ≡ 0 = omega arith in
    let high : r / 2 ≡ half = omega arith in
    shifted-is r ∙ both bit_xor _ _ _ _ high (ap taken low) ∙ xor_zero_r half

-- zero bits leave as they are
shifted_by-zeros : (k high : ℕ) → shifted_by k (high * 2 ^ k) ≡ high
shifted_by-zeros zero high = omega arith
shifted_by-zeros (suc k) high =
    let e : high * 2 ^ suc k ≡ high * 2 ^ k * 2 = rw pow-suc (omega arith) in
    ap (shifted_by k) (shifted-even (high * 2 ^ suc k) (high * 2 ^ k) e) ∙ shifted_by-zeros k high

-- zero bits leave first, and then some of the rest
shifted_by-high : (k n high : ℕ) → shifted_by (k + n) (high * 2 ^ k) ≡ shifted_by n high
shifted_by-high k n high = shifted_by-add k n (high * 2 ^ k) ∙ ap (shifted_by n) (shifted_by-zeros k high)

-- the low bits leave by themselves
shifted_by-parts : (k n r : ℕ) → shifted_by (k + n) r ≡ bit_xor (shifted_by (k + n) (r % 2 ^ k)) (shifted_by n (r / 2 ^ k))
shifted_by-parts k n r =
    let lt : r % 2 ^ k < 2 ^ k = mod_below r (2 ^ k) (pow_pos k) in
    ap (shifted_by (k + n)) (sym (xor_high k (r / 2 ^ k) (r % 2 ^ k) lt ∙ shr_split r k))
    ∙ shifted_by-xor (k + n) (r % 2 ^ k) (r / 2 ^ k * 2 ^ k)
    ∙ ap (bit_xor (shifted_by (k + n) (r % 2 ^ k))) (shifted_by-high k n (r / 2 ^ k))

-- ---- the tables

-- each entry of a right table is right
is_table_from-at : (count i : ℕ) (entries : List ℕ) (k : ℕ) → is_table_from count i entries ≡ true → k < length entries → get_or entries k 0 ≡ shifted_bytes count (i + k)
is_table_from-at count i [] k right lt = absurd (omega arith)
is_table_from-at count i (entry ∷ entries) zero right lt =
    let e : i ≡ i + 0 = omega arith in
    eqb-true entry (shifted_bytes count i) (and_parts (entry == shifted_bytes count i) (is_table_from count (suc i) entries) right).0 ∙ ap (shifted_bytes count) e
is_table_from-at count i (entry ∷ entries) (suc k) right lt =
    let e : suc i + k ≡ i + suc k = omega arith in
    is_table_from-at count (suc i) entries k (and_parts (entry == shifted_bytes count i) (is_table_from count (suc i) entries) right).1 (omega arith) ∙ ap (shifted_bytes count) e

-- each of right tables is right
are_tables_from-at : (count : ℕ) (tables : List (List ℕ)) (k : ℕ) → are_tables_from count tables ≡ true → k < length tables
    → (length (get_or tables k []) ≡ 256) × (is_table_from (count + k) 0 (get_or tables k []) ≡ true)
are_tables_from-at count [] k right lt = absurd (omega arith)
are_tables_from-at count (table ∷ tables) zero right lt =
    let outer = and_parts ((length table == 256) && is_table_from count 0 table) (are_tables_from (suc count) tables) right in
    let inner = and_parts (length table == 256) (is_table_from count 0 table) outer.0 in
    let e : count ≡ count + 0 = omega arith in
    (eqb-true (length table) 256 inner.0, ap (λ n. is_table_from n 0 table) (sym e) ∙ inner.1)
are_tables_from-at count (table ∷ tables) (suc k) right lt =
    let outer = and_parts ((length table == 256) && is_table_from count 0 table) (are_tables_from (suc count) tables) right in
    let e : count + suc k ≡ suc count + k = omega arith in
    let more = are_tables_from-at (suc count) tables k outer.1 (omega arith) in
    (more.0, ap (λ n. is_table_from n 0 (get_or tables k [])) e ∙ more.1)

-- each entry of right tables is right
pub entry-right : (tables : List (List ℕ)) (above byte : ℕ) → are_tables tables ≡ true → above < 8 → byte < 256
    → get_or (get_or tables above []) byte 0 ≡ shifted_bytes (above + 1) byte
entry-right tables above byte right a b =
    let parts = and_parts (length tables == 8) (are_tables_from 1 tables) right in
    let count : length tables ≡ 8 = eqb-true (length tables) 8 parts.0 in
    let table = are_tables_from-at 1 tables above parts.1 (omega arith) in
    let e : 1 + above ≡ above + 1 = omega arith in
    let f : 0 + byte ≡ byte = omega arith in
    is_table_from-at (1 + above) 0 (get_or tables above []) byte table.1 (omega (arith, table.0))
    ∙ both shifted_bytes _ _ _ _ e f

-- ---- bytes

-- bytes follow bytes
pub register-append : (r : ℕ) (front back : List ℕ) → register r (front ++ back) ≡ register (register r front) back
register-append r [] back = refl
register-append r (byte ∷ front) back = register-append (shifted_by 8 (bit_xor r byte)) front back

-- a number of bytes, the first lowest
abbrev number_of : List ℕ → ℕ
number_of [] = 0
number_of (byte ∷ bytes) = number_of bytes * 256 + byte

-- a low part that leaves first may go in with the high part
number_step : (k n r low high : ℕ) → low < 2 ^ k
    → shifted_by n (bit_xor (shifted_by k (bit_xor r low)) high) ≡ shifted_by (k + n) (bit_xor r (high * 2 ^ k + low))
number_step k n r low high lt =
    ap (λ m. shifted_by n (bit_xor (shifted_by k (bit_xor r low)) m)) (sym (shifted_by-zeros k high))
    ∙ ap (shifted_by n) (sym (shifted_by-xor k (bit_xor r low) (high * 2 ^ k)))
    ∙ sym (shifted_by-add k n (bit_xor (bit_xor r low) (high * 2 ^ k)))
    ∙ ap (shifted_by (k + n)) (xor_assoc r low (high * 2 ^ k) ∙ ap (bit_xor r) (xor_high k high low lt))

-- bytes that go in one by one may go in together
register-number : (r : ℕ) (bytes : List ℕ) → ((k : ℕ) → get_or bytes k 0 < 256) → register r bytes ≡ shifted_bytes (length bytes) (bit_xor r (number_of bytes))
unfolding shifted_bytes
register-number r [] small = sym (xor_zero_r r)
register-number r (byte ∷ bytes) small =
    let e : 8 + 8 * length bytes ≡ 8 * suc (length bytes) = omega arith in
    register-number (shifted_by 8 (bit_xor r byte)) bytes (λ k. small (suc k))
    ∙ number_step 8 (8 * length bytes) r byte (number_of bytes) (small 0)
    ∙ ap (λ n. shifted_by n (bit_xor r (number_of bytes * 256 + byte))) e

-- the number of eight bytes is what the code reads
number_of-word : (bytes : List ℕ) → length bytes ≡ 8 → number_of bytes ≡ from_le_bytes w64 bytes
number_of-word (a ∷ b ∷ c ∷ d ∷ e ∷ f ∷ g ∷ h ∷ []) long = omega arith
number_of-word [] long = absurd (omega arith)
number_of-word (a ∷ []) long = absurd (omega arith)
number_of-word (a ∷ b ∷ []) long = absurd (omega arith)
number_of-word (a ∷ b ∷ c ∷ []) long = absurd (omega arith)
number_of-word (a ∷ b ∷ c ∷ d ∷ []) long = absurd (omega arith)
number_of-word (a ∷ b ∷ c ∷ d ∷ e ∷ []) long = absurd (omega arith)
number_of-word (a ∷ b ∷ c ∷ d ∷ e ∷ f ∷ []) long = absurd (omega arith)
number_of-word (a ∷ b ∷ c ∷ d ∷ e ∷ f ∷ g ∷ []) long = absurd (omega arith)
number_of-word (a ∷ b ∷ c ∷ d ∷ e ∷ f ∷ g ∷ h ∷ i ∷ rest) long = absurd (omega arith)

-- eight bytes are a word
pub register-word : (r : ℕ) (bytes : List ℕ) → length bytes ≡ 8 → ((k : ℕ) → get_or bytes k 0 < 256)
    → register r bytes ≡ shifted_bytes 8 (bit_xor (from_le_bytes w64 bytes) r)
register-word r bytes long small =
    register-number r bytes small
    ∙ both shifted_bytes _ _ _ _ long (ap (bit_xor r) (number_of-word bytes long) ∙ xor_comm r (from_le_bytes w64 bytes))

-- the lowest byte of a word leaves by itself
pub shifted_bytes-parts : (count r : ℕ) → shifted_bytes (suc count) r ≡ bit_xor (shifted_bytes (suc count) (r % 256)) (shifted_bytes count (r / 256))
unfolding shifted_bytes
shifted_bytes-parts count r =
    let e : 8 + 8 * count ≡ 8 * suc count = omega arith in
    ap (λ n. shifted_by n r) (sym e) ∙ shifted_by-parts 8 (8 * count) r
    ∙ ap (λ n. bit_xor (shifted_by n (r % 256)) (shifted_by (8 * count) (r / 256))) e

-- what one look-up gives
pub byte_looked_up : (r entry : ℕ) → entry ≡ shifted_bytes 1 (bit_and r 255) → bit_xor entry (r / 256) ≡ shifted_bytes 1 r
unfolding shifted_bytes
byte_looked_up r entry looked_up =
    ap (λ n. bit_xor n (r / 256)) (looked_up ∙ ap (shifted_bytes 1) (and_mask r 8)) ∙ sym (shifted_bytes-parts 0 r)

-- the lowest byte's look-up, and what is left of the word
pub first_looked_up : (count r next entry : ℕ) → next ≡ r / 256 → entry ≡ shifted_bytes (suc count) (bit_and r 255)
    → shifted_bytes (suc count) r ≡ bit_xor entry (shifted_bytes count next)
first_looked_up count r next entry at looked_up =
    shifted_bytes-parts count r
    ∙ both bit_xor _ _ _ _ (ap (shifted_bytes (suc count)) (sym (and_mask r 8)) ∙ sym looked_up) (ap (shifted_bytes count) (sym at))

-- the same behind the sum of earlier look-ups
pub next_looked_up : (whole sum count r next entry : ℕ) → whole ≡ bit_xor sum (shifted_bytes (suc count) r) → next ≡ r / 256
    → entry ≡ shifted_bytes (suc count) (bit_and r 255) → whole ≡ bit_xor (bit_xor sum entry) (shifted_bytes count next)
next_looked_up whole sum count r next entry so_far at looked_up =
    so_far ∙ ap (bit_xor sum) (first_looked_up count r next entry at looked_up) ∙ sym (xor_assoc sum entry (shifted_bytes count next))

-- ---- the loops

-- where a word of the bytes stands
drop-chunk : (count place : ℕ) (bytes : List ℕ) → place < count → get_or (first_chunks 8 count bytes) place [] ≡ take 8 (drop (8 * place) bytes)
drop-chunk zero place bytes lt = absurd (omega arith)
drop-chunk (suc count) zero bytes lt = refl
drop-chunk (suc count) (suc place) bytes lt =
    let e : 8 + 8 * place ≡ 8 * suc place = omega arith in
    drop-chunk count place (drop 8 bytes) (omega arith)
    ∙ ap (take 8) (drop-drop (8 * place) 8 bytes ∙ ap (λ n. drop n bytes) e)

-- a turn of the loop over words
pub word_more : (r place number after : ℕ) (bytes : List ℕ) → place < length bytes / 8 → ((k : ℕ) → get_or bytes k 0 < 256)
    → number ≡ from_le_bytes w64 (get_or (first_chunks 8 (length bytes / 8) bytes) place []) → after ≡ shifted_bytes 8 (bit_xor number r)
    → register after (drop (8 * (place + 1)) bytes) ≡ register r (drop (8 * place) bytes)
word_more r place number after bytes lt small read stepped =
    let word : List ℕ = take 8 (drop (8 * place) bytes) in
    let within : 8 ≤ length (drop (8 * place) bytes) = rw length-drop (omega arith) in
    let long : length word ≡ 8 = length-take-le 8 (drop (8 * place) bytes) within in
    let each : (k : ℕ) → get_or word k 0 < 256 = λ k. elim (cases_lt k 8) [
      | inl lt8 ↦ rw (get_or-take 8 (drop (8 * place) bytes) k 0 lt8, get_or-drop (8 * place) bytes k 0) (small (8 * place + k))
      | inr past ↦ rw (get_or_past word k 0 (omega arith)) (lit< tt)
    ] in
    let e : 8 * place + 8 ≡ 8 * (place + 1) = omega arith in
    let rest : drop 8 (drop (8 * place) bytes) ≡ drop (8 * (place + 1)) bytes = drop-drop 8 (8 * place) bytes ∙ ap (λ n. drop n bytes) e in
    sym (ap (register r) (sym (take-append-drop 8 (drop (8 * place) bytes)))
    ∙ register-append r word (drop 8 (drop (8 * place) bytes))
    ∙ both register _ _ _ _
    (register-word r word long each
    ∙ ap (λ n. shifted_bytes 8 (bit_xor n r)) (ap (from_le_bytes w64) (sym (drop-chunk (length bytes / 8) place bytes lt)) ∙ sym read)
    ∙ sym stepped)
    rest)

-- a turn of the loop over the bytes behind them
pub byte_more : (r place after : ℕ) (bytes : List ℕ) → place < length bytes → after ≡ shifted_bytes 1 (bit_xor r (get_or bytes place 0))
    → register after (drop (place + 1) bytes) ≡ register r (drop place bytes)
unfolding shifted_bytes
byte_more r place after bytes lt stepped =
    ap (λ n. register n (drop (place + 1) bytes)) stepped ∙ sym (ap (register r) (drop_more bytes place 0 lt))

-- ---- the checksum

-- the checksum of bytes behind bytes
pub crc_of-append : (start : ℕ) (front back : List ℕ) → crc_of (crc_of start front) back ≡ crc_of start (front ++ back)
unfolding crc_of
crc_of-append start front back =
    let begun : ℕ = bit_xor start (2 ^ 32 - 1) in
    ap (λ r. bit_xor (register r back) (2 ^ 32 - 1)) (xor_twice (register begun front) (2 ^ 32 - 1))
    ∙ ap (λ r. bit_xor r (2 ^ 32 - 1)) (sym (register-append begun front back))
