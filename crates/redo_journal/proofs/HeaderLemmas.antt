-- The header of an area: its bytes, and what an open one tells.
use Rattle.std.proofs.Common.{◌≡◌, ◌≢◌, ◌⊎◌, inl, inr, ⊎_elim, ℕ, zero, suc, ◌+◌, ◌-◌, ◌<◌, ◌≤◌, ◌^◌, Bool, true, false, cond, Option, Some, None, List, [], ◌∷◌, ◌++◌, length, take, drop, get_or, refl, sym, ◌∙◌, ap, subst, arith, append_assoc, length-append, take-append-drop}
use Rattle.std.proofs.lemmas.List.{append-nil, take_at, take-take, drop-take, ext_get_or, get_or_append_left, get_or-append-add}
use Rattle.std.proofs.lemmas.Bool.{cases_eq}
use Rattle.std.proofs.lemmas.Nat.{from_le_bytes-to_le_bytes_8}
use Rattle.std.proofs.lemmas.Slice.Eq.{bytes_eq-Decides}
use Rattle.std.specs.Int.{w32, w64, from_le_bytes, to_le_bytes}
use Rattle.std.specs.Str.{bytes_eq}
use Rattle.disk_model.specs.File.{written}
use Rattle.frame_codec.specs.Bytes.{le32, le64}
use Rattle.frame_codec.specs.Crc.{crc_of}
use Rattle.frame_codec.proofs.FrameLemmas.{length-le32, same_pieces}
use Rattle.framed_file.specs.Framed.{IsPrefix, header_len}
use Rattle.redo_journal.specs.Areas.{area_fields, area_checksum, area_header, gate_place, told_sequence, open_sequence}

-- Its bytes.

-- the fields as the code writes them
pub fields_written : (sequence : ℕ) (s : List ℕ) → s ≡ to_le_bytes w64 sequence
    → 80 ∷ 76 ∷ 85 ∷ 71 ∷ 68 ∷ 74 ∷ 82 ∷ 78 ∷ 1 ∷ 0 ∷ 0 ∷ 0 ∷ get_or s 0 0 ∷ get_or s 1 0 ∷ get_or s 2 0 ∷ get_or s 3 0 ∷ get_or s 4 0 ∷ get_or s 5 0 ∷ get_or s 6 0 ∷ get_or s 7 0
    ∷ 0 ∷ 0 ∷ 0 ∷ 0 ∷ 0 ∷ 0 ∷ 0 ∷ [] ≡ area_fields sequence
unfolding area_fields le32 le64
fields_written sequence s is =
    ap (λ (s : List ℕ). 80 ∷ 76 ∷ 85 ∷ 71 ∷ 68 ∷ 74 ∷ 82 ∷ 78 ∷ 1 ∷ 0 ∷ 0 ∷ 0 ∷ get_or s 0 0 ∷ get_or s 1 0 ∷ get_or s 2 0 ∷ get_or s 3 0 ∷ get_or s 4 0 ∷ get_or s 5 0 ∷ get_or s 6 0 ∷ get_or s 7 0
    ∷ 0 ∷ 0 ∷ 0 ∷ 0 ∷ 0 ∷ 0 ∷ 0 ∷ []) is

-- the checksum as the code computes it
pub checksum_is : (sum sequence : ℕ) (fields : List ℕ) → sum ≡ crc_of 0 fields → fields ≡ area_fields sequence → sum ≡ area_checksum sequence
unfolding area_checksum
checksum_is sum sequence fields is fields_are = is ∙ ap (λ (l : List ℕ). crc_of 0 l) fields_are

-- the header as the code writes it
pub header_written : (sequence gate sum : ℕ) (s c : List ℕ) → s ≡ to_le_bytes w64 sequence → c ≡ to_le_bytes w32 sum → sum ≡ area_checksum sequence
    → 80 ∷ 76 ∷ 85 ∷ 71 ∷ 68 ∷ 74 ∷ 82 ∷ 78 ∷ 1 ∷ 0 ∷ 0 ∷ 0 ∷ get_or s 0 0 ∷ get_or s 1 0 ∷ get_or s 2 0 ∷ get_or s 3 0 ∷ get_or s 4 0 ∷ get_or s 5 0 ∷ get_or s 6 0 ∷ get_or s 7 0
    ∷ 0 ∷ 0 ∷ 0 ∷ 0 ∷ 0 ∷ 0 ∷ 0 ∷ gate ∷ get_or c 0 0 ∷ get_or c 1 0 ∷ get_or c 2 0 ∷ get_or c 3 0 ∷ [] ≡ area_header sequence gate
unfolding area_header area_fields le32 le64
header_written sequence gate sum s c is c_is sum_is =
    let bytes : List ℕ → List ℕ → List ℕ = λ s c. 80 ∷ 76 ∷ 85 ∷ 71 ∷ 68 ∷ 74 ∷ 82 ∷ 78 ∷ 1 ∷ 0 ∷ 0 ∷ 0 ∷ get_or s 0 0 ∷ get_or s 1 0 ∷ get_or s 2 0 ∷ get_or s 3 0 ∷ get_or s 4 0 ∷ get_or s 5 0 ∷ get_or s 6 0 ∷ get_or s 7 0
    ∷ 0 ∷ 0 ∷ 0 ∷ 0 ∷ 0 ∷ 0 ∷ 0 ∷ gate ∷ get_or c 0 0 ∷ get_or c 1 0 ∷ get_or c 2 0 ∷ get_or c 3 0 ∷ [] in
    ap (λ (s : List ℕ). bytes s c) is ∙ ap (λ (c : List ℕ). bytes (to_le_bytes w64 sequence) c) (c_is ∙ ap (λ (n : ℕ). to_le_bytes w32 n) sum_is)

pub length-area_fields : (sequence : ℕ) → length (area_fields sequence) ≡ 27
unfolding area_fields le32 le64
length-area_fields sequence = refl

header_parts : (sequence gate : ℕ) → area_header sequence gate ≡ area_fields sequence ++ gate ∷ le32 (area_checksum sequence)
unfolding area_header
header_parts sequence gate = refl

pub length-area_header : (sequence gate : ℕ) → length (area_header sequence gate) ≡ header_len
length-area_header sequence gate =
    omega (arith, ap length (header_parts sequence gate), length-append (area_fields sequence) (gate ∷ le32 (area_checksum sequence)), length-area_fields sequence, length-le32 (area_checksum sequence))

-- the gate byte over the header of a closed area makes the open one
pub gate_opened : (sequence : ℕ) → written gate_place (1 ∷ []) (area_header sequence 0) ≡ area_header sequence 1
unfolding area_header area_fields le32 le64
gate_opened sequence = refl

-- What it tells.

told_header : (sequence gate : ℕ) (rest : List ℕ) → told_sequence (area_header sequence gate ++ rest) ≡ from_le_bytes w64 (to_le_bytes w64 sequence)
unfolding area_header area_fields le32 le64
told_header sequence gate rest = refl

read_small : (n : ℕ) → from_le_bytes w64 (to_le_bytes w64 n) < 2 ^ 64
read_small n = omega arith

pub header_tells : (sequence gate : ℕ) (rest : List ℕ) → sequence < 2 ^ 64 → told_sequence (area_header sequence gate ++ rest) ≡ sequence
header_tells sequence gate rest small = told_header sequence gate rest ∙ from_le_bytes-to_le_bytes_8 sequence small

front_is : (sequence gate : ℕ) (rest : List ℕ) → take header_len (area_header sequence gate ++ rest) ≡ area_header sequence gate
front_is sequence gate rest = take_at (area_header sequence gate) rest header_len (length-area_header sequence gate)

-- bytes that begin with an open header
pub open_header : (sequence : ℕ) (rest : List ℕ) → sequence < 2 ^ 64 → open_sequence (area_header sequence 1 ++ rest) ≡ Some sequence
open_header sequence rest small =
    let bytes : List ℕ = area_header sequence 1 ++ rest in
    let is : bytes_eq (take header_len bytes) (area_header sequence 1) ≡ true = (bytes_eq-Decides (take header_len bytes) (area_header sequence 1)).1 (front_is sequence 1 rest) in
    ap (λ (t : ℕ). cond (bytes_eq (take header_len bytes) (area_header t 1)) (Some t) None) (header_tells sequence 1 rest small)
    ∙ ap (λ (b : Bool). cond b (Some sequence) None) is

some_chosen : (b : Bool) (t s : ℕ) → cond b (Some t) None ≡ Some s → (b ≡ true) × (t ≡ s)
some_chosen true t s is = (refl, cc)
some_chosen false t s is = absurd (cc)

-- what stands where a sequence is told
pub open_told : (bytes : List ℕ) (sequence : ℕ) → open_sequence bytes ≡ Some sequence → (bytes ≡ area_header sequence 1 ++ drop header_len bytes) × (sequence < 2 ^ 64)
open_told bytes sequence is =
    let both = some_chosen (bytes_eq (take header_len bytes) (area_header (told_sequence bytes) 1)) (told_sequence bytes) sequence is in
    let front = (bytes_eq-Decides (take header_len bytes) (area_header (told_sequence bytes) 1)).0 both.0 in
    let whole : bytes ≡ area_header sequence 1 ++ drop header_len bytes = sym (take-append-drop header_len bytes) ∙ ap (λ (l : List ℕ). l ++ drop header_len bytes) front ∙ ap (λ (t : ℕ). area_header t 1 ++ drop header_len bytes) both.1 in
    (whole, subst (λ (n : ℕ). n < 2 ^ 64) (sym (ap (λ (l : List ℕ). told_sequence l) whole ∙ told_header sequence 1 (drop header_len bytes)) ∙ both.1) (read_small sequence))

pub option_cases : (o : Option ℕ) → (o ≡ None) ⊎ ((s : ℕ) × (o ≡ Some s))
option_cases None = inl refl
option_cases (Some s) = inr (s, refl)

-- an open header stands at the front of longer bytes too
pub open_front : (bytes more : List ℕ) (sequence : ℕ) → open_sequence bytes ≡ Some sequence → IsPrefix bytes more → open_sequence more ≡ Some sequence
open_front bytes more sequence is front =
    let told = open_told bytes sequence is in
    ap (λ (l : List ℕ). open_sequence l) (front.1 ∙ ap (λ (l : List ℕ). l ++ front.0) told.0 ∙ append_assoc (area_header sequence 1) (drop header_len bytes) front.0)
    ∙ open_header sequence (drop header_len bytes ++ front.0) told.1

-- bytes shorter than a header have none
pub short_closed : (bytes : List ℕ) → length bytes < header_len → open_sequence bytes ≡ None
short_closed bytes short = ⊎_elim (λ none. none)
    (λ some. let told = open_told bytes some.0 some.1 in
    absurd (omega (arith, short, ap length told.0, length-append (area_header some.0 1) (drop header_len bytes), length-area_header some.0 1)))
    (option_cases (open_sequence bytes))

-- a header of another gate is not open
pub header_gate : (s t g h : ℕ) (x y : List ℕ) → area_header s g ++ x ≡ area_header t h ++ y → g ≡ h
header_gate s t g h x y is =
    let parted : (s g : ℕ) (x : List ℕ) → area_header s g ++ x ≡ area_fields s ++ (g ∷ (le32 (area_checksum s) ++ x)) =
    λ s g x. ap (λ (l : List ℕ). l ++ x) (header_parts s g) ∙ append_assoc (area_fields s) (g ∷ le32 (area_checksum s)) x in
    let both = same_pieces (area_fields s) (area_fields t) _ _ (length-area_fields s ∙ sym (length-area_fields t)) (sym (parted s g x) ∙ is ∙ parted t h y) in
    let e = both.1 in
    cc

pub other_gate : (sequence gate : ℕ) (rest : List ℕ) → gate ≢ 1 → open_sequence (area_header sequence gate ++ rest) ≡ None
other_gate sequence gate rest not = ⊎_elim (λ none. none)
    (λ some. absurd (not (header_gate sequence some.0 gate 1 rest (drop header_len (area_header sequence gate ++ rest)) (open_told (area_header sequence gate ++ rest) some.0 some.1).0)))
    (option_cases (open_sequence (area_header sequence gate ++ rest)))

-- A header of which the gate byte alone may be another.

sides : (i : ℕ) → i ≢ 27 → (i < 27) ⊎ ((k : ℕ) × (i ≡ 27 + suc k))
sides i not = ⊎_elim (λ lt. inl lt) (λ le. inr (i - 28, omega (arith, le, not))) (split i)
  where
    split : (n : ℕ) → (n < 27) ⊎ (27 ≤ n)
    split n = grind arith

get_gate : (sequence gate : ℕ) → get_or (area_header sequence gate) 27 0 ≡ gate
unfolding area_header area_fields le32 le64
get_gate sequence gate = refl

get_away : (sequence g h i : ℕ) → i ≢ 27 → get_or (area_header sequence g) i 0 ≡ get_or (area_header sequence h) i 0
get_away sequence g h i not = ⊎_elim
    (λ lt. before g lt ∙ sym (before h lt))
    (λ some. behind g some.0 some.1 ∙ sym (behind h some.0 some.1)) (sides i not)
  where
    before : (g : ℕ) → i < 27 → get_or (area_header sequence g) i 0 ≡ get_or (area_fields sequence) i 0
    before g lt = ap (λ (l : List ℕ). get_or l i 0) (header_parts sequence g)
        ∙ get_or_append_left (area_fields sequence) (g ∷ le32 (area_checksum sequence)) 0 i (omega (arith, length-area_fields sequence, lt))

    behind : (g k : ℕ) → i ≡ 27 + suc k → get_or (area_header sequence g) i 0 ≡ get_or (le32 (area_checksum sequence)) k 0
    behind g k is = ap (λ (l : List ℕ). get_or l i 0) (header_parts sequence g)
        ∙ ap (λ (n : ℕ). get_or (area_fields sequence ++ g ∷ le32 (area_checksum sequence)) n 0) (is ∙ ap (λ (n : ℕ). n + suc k) (sym (length-area_fields sequence)))
        ∙ get_or-append-add (area_fields sequence) (g ∷ le32 (area_checksum sequence)) (suc k) 0

-- so are bytes that differ from a header there alone
pub gate_alone : (sequence gate : ℕ) (image : List ℕ) → length image ≡ header_len → ((i : ℕ) → i < header_len → i ≢ 27 → get_or image i 0 ≡ get_or (area_header sequence gate) i 0)
    → image ≡ area_header sequence (get_or image 27 0)
gate_alone sequence gate image size kept = ext_get_or 0 image (area_header sequence (get_or image 27 0)) (size ∙ sym (length-area_header sequence (get_or image 27 0)))
    (λ i lt. ⊎_elim
    (λ is. ap (λ (n : ℕ). get_or image n 0) is ∙ sym (get_gate sequence (get_or image 27 0)) ∙ ap (λ (n : ℕ). get_or (area_header sequence (get_or image 27 0)) n 0) (sym is))
    (λ not. kept i (omega (arith, lt, size)) not ∙ get_away sequence gate (get_or image 27 0) i not) (cases_eq i 27))

-- Reading it.

-- the bytes from a place on, one by one
from_place : (n : ℕ) (xs : List ℕ) → n < length xs → drop n xs ≡ get_or xs n 0 ∷ drop (suc n) xs
from_place n [] lt = absurd (omega (arith, lt))
from_place zero (x ∷ xs) lt = refl
from_place (suc n) (x ∷ xs) lt = from_place n xs (omega (arith, lt))

-- the eight bytes that the code reads are those of the sequence
pub sequence_read : (bytes : List ℕ) → length bytes ≡ header_len
    → from_le_bytes w64 (get_or bytes 12 0 ∷ get_or bytes 13 0 ∷ get_or bytes 14 0 ∷ get_or bytes 15 0 ∷ get_or bytes 16 0 ∷ get_or bytes 17 0 ∷ get_or bytes 18 0 ∷ get_or bytes 19 0 ∷ []) ≡ told_sequence bytes
sequence_read bytes size =
    let at : (n : ℕ) → n < 32 → drop n bytes ≡ get_or bytes n 0 ∷ drop (suc n) bytes = λ n lt. from_place n bytes (omega (arith, lt, size)) in
    let two : drop 18 bytes ≡ get_or bytes 18 0 ∷ get_or bytes 19 0 ∷ drop 20 bytes = at 18 (omega arith) ∙ ap (λ (l : List ℕ). get_or bytes 18 0 ∷ l) (at 19 (omega arith)) in
    let four : drop 16 bytes ≡ get_or bytes 16 0 ∷ get_or bytes 17 0 ∷ get_or bytes 18 0 ∷ get_or bytes 19 0 ∷ drop 20 bytes =
    at 16 (omega arith) ∙ ap (λ (l : List ℕ). get_or bytes 16 0 ∷ l) (at 17 (omega arith)) ∙ ap (λ (l : List ℕ). get_or bytes 16 0 ∷ get_or bytes 17 0 ∷ l) two in
    let six : drop 14 bytes ≡ get_or bytes 14 0 ∷ get_or bytes 15 0 ∷ get_or bytes 16 0 ∷ get_or bytes 17 0 ∷ get_or bytes 18 0 ∷ get_or bytes 19 0 ∷ drop 20 bytes =
    at 14 (omega arith) ∙ ap (λ (l : List ℕ). get_or bytes 14 0 ∷ l) (at 15 (omega arith)) ∙ ap (λ (l : List ℕ). get_or bytes 14 0 ∷ get_or bytes 15 0 ∷ l) four in
    let eight = at 12 (omega arith) ∙ ap (λ (l : List ℕ). get_or bytes 12 0 ∷ l) (at 13 (omega arith)) ∙ ap (λ (l : List ℕ). get_or bytes 12 0 ∷ get_or bytes 13 0 ∷ l) six in
    sym (ap (λ (l : List ℕ). from_le_bytes w64 (take 8 l)) eight)

whole_front : (bytes : List ℕ) → length bytes ≡ header_len → take header_len bytes ≡ bytes
whole_front bytes size = sym (ap (λ (l : List ℕ). take header_len l) (append-nil bytes)) ∙ take_at bytes [] header_len size

-- the test that the code makes
pub open_yes : (bytes other : List ℕ) (sequence : ℕ) → length bytes ≡ header_len → sequence ≡ told_sequence bytes → bytes ≡ other → other ≡ area_header sequence 1 → Some sequence ≡ open_sequence bytes
open_yes bytes other sequence size told same is =
    let test : bytes_eq (take header_len bytes) (area_header (told_sequence bytes) 1) ≡ true =
    (bytes_eq-Decides (take header_len bytes) (area_header (told_sequence bytes) 1)).1 (whole_front bytes size ∙ same ∙ is ∙ ap (λ (n : ℕ). area_header n 1) told) in
    ap (λ (n : ℕ). Some n) told ∙ sym (ap (λ (b : Bool). cond b (Some (told_sequence bytes)) None) test)

pub open_no : (bytes other : List ℕ) (sequence : ℕ) → length bytes ≡ header_len → sequence ≡ told_sequence bytes → (bytes ≡ other → ⊥) → other ≡ area_header sequence 1 → None ≡ open_sequence bytes
open_no bytes other sequence size told differ is = ⊎_elim (λ none. sym none)
    (λ some. absurd (
    let found = open_told bytes some.0 some.1 in
    let front = sym (whole_front bytes size) ∙ ap (λ (l : List ℕ). take header_len l) found.0 ∙ front_is some.0 1 (drop header_len bytes) in
    let tells : told_sequence bytes ≡ some.0 = ap (λ (l : List ℕ). told_sequence l) found.0 ∙ header_tells some.0 1 (drop header_len bytes) found.1 in
    differ (front ∙ ap (λ (n : ℕ). area_header n 1) (sym tells ∙ sym told) ∙ sym is)))
    (option_cases (open_sequence bytes))

-- the first 32 bytes tell the sequence
pub front_sequence : (bytes : List ℕ) → open_sequence (take header_len bytes) ≡ open_sequence bytes
front_sequence bytes =
    ap (λ (l : List ℕ). cond (bytes_eq l (area_header (told_sequence (take header_len bytes)) 1)) (Some (told_sequence (take header_len bytes))) None) (take-take header_len header_len bytes (omega arith))
    ∙ ap (λ (n : ℕ). cond (bytes_eq (take header_len bytes) (area_header n 1)) (Some n) None) told
  where
    told : told_sequence (take header_len bytes) ≡ told_sequence bytes
    told = ap (λ (l : List ℕ). from_le_bytes w64 (take 8 l)) (drop-take 12 20 bytes) ∙ ap (λ (l : List ℕ). from_le_bytes w64 l) (take-take 8 20 (drop 12 bytes) (omega arith))
