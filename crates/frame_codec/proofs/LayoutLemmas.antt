-- Lemmas on a frame's layout: its header, its front, and what stands where in it.
use Rattle.std.proofs.Common.{◌≡◌, ℕ, ◌+◌, List, [], ◌∷◌, ◌++◌, length, get_or, take, drop, refl, sym, ◌∙◌, ap, append_assoc}
use Rattle.std.proofs.lemmas.List.{drop_at}
use Rattle.std.specs.Int.{w32, to_le_bytes}
use Rattle.frame_codec.specs.Bytes.{le16, le32}
use Rattle.frame_codec.specs.Crc.{crc_of}
use Rattle.frame_codec.specs.Frame.{Event, size_of, front_of, checksum_of, frame_of}
use Rattle.frame_codec.specs.Header.{header_of, head_of}

-- the bytes that the code makes of a number
pub le32-bytes : (n : ℕ) → to_le_bytes w32 n ≡ le32 n
unfolding le32
le32-bytes n = refl

-- a header is written field by field
pub header_written : (kind size end : ℕ) (s e : List ℕ) → s ≡ le32 size → e ≡ le32 end
    → 0 ∷ 0 ∷ 0 ∷ 0 ∷ kind ∷ 1 ∷ 0 ∷ 0 ∷ 0 ∷ get_or s 0 0 ∷ get_or s 1 0 ∷ get_or s 2 0 ∷ get_or s 3 0
    ∷ get_or e 0 0 ∷ get_or e 1 0 ∷ get_or e 2 0 ∷ get_or e 3 0 ∷ 0 ∷ 0 ∷ [] ≡ header_of kind size end
unfolding header_of le32 le16
header_written kind size end s e is_size is_end =
    let bytes : List ℕ → List ℕ → List ℕ = λ s e.
    0 ∷ 0 ∷ 0 ∷ 0 ∷ kind ∷ 1 ∷ 0 ∷ 0 ∷ 0 ∷ get_or s 0 0 ∷ get_or s 1 0 ∷ get_or s 2 0 ∷ get_or s 3 0
    ∷ get_or e 0 0 ∷ get_or e 1 0 ∷ get_or e 2 0 ∷ get_or e 3 0 ∷ 0 ∷ 0 ∷ [] in
    ap (λ s. bytes s e) is_size ∙ ap (bytes (le32 size)) is_end

-- a frame begins with its header, and its body follows
pub front_of-header : (at : ℕ) (event : Event) → front_of at event ≡ header_of event.kind (size_of event) (at + size_of event) ++ event.body
unfolding front_of header_of le32 le16
front_of-header at event = refl

-- ---- writing

-- what was begun and given its body is the front of the frame, behind the old bytes
pub front_put : (at len : ℕ) (event : Event) (old begun filled : List ℕ) → len ≡ length event.body → begun ≡ old ++ head_of at event.kind len
    → filled ≡ begun ++ event.body → filled ≡ old ++ front_of at event
front_put at len event old begun filled long is_begun is_filled =
    is_filled ∙ ap (λ (bytes : List ℕ). bytes ++ event.body) is_begun ∙ append_assoc old (head_of at event.kind len) event.body
    ∙ ap (λ (n : ℕ). old ++ (head_of at event.kind n ++ event.body)) long
    ∙ ap (λ (bytes : List ℕ). old ++ bytes) (sym (front_of-header at event))

-- the checksum is computed where the frame stands
pub checksum_put : (prev at start : ℕ) (event : Event) (old filled : List ℕ) → start ≡ length old → filled ≡ old ++ front_of at event
    → crc_of prev (drop start filled) ≡ checksum_of prev at event
checksum_put prev at start event old filled at_end is_filled =
    ap (λ (bytes : List ℕ). crc_of prev (drop start bytes)) is_filled ∙ ap (crc_of prev) (drop_at old (front_of at event) start (sym at_end))

-- behind it the frame ends with its checksum
pub frame_put : (prev at start : ℕ) (event : Event) (old filled new : List ℕ) → start ≡ length old → filled ≡ old ++ front_of at event
    → new ≡ filled ++ le32 (crc_of prev (drop start filled)) → new ≡ old ++ frame_of prev at event
unfolding frame_of
frame_put prev at start event old filled new at_end is_filled is_new =
    is_new ∙ ap (λ (n : ℕ). filled ++ le32 n) (checksum_put prev at start event old filled at_end is_filled)
    ∙ ap (λ (bytes : List ℕ). bytes ++ le32 (checksum_of prev at event)) is_filled
    ∙ append_assoc old (front_of at event) (le32 (checksum_of prev at event))

-- ---- in an array

-- the array begins with the front of the frame where its header and then its body were put
pub front_in_array : (at size : ℕ) (event : Event) (header one two : List ℕ) → size ≡ size_of event → header ≡ header_of event.kind size (at + size)
    → take 19 one ≡ header → take (19 + length event.body) two ≡ take 19 one ++ event.body → take (19 + length event.body) two ≡ front_of at event
front_in_array at size event header one two size_is header_is first second =
    second ∙ ap (λ (l : List ℕ). l ++ event.body) (first ∙ header_is ∙ ap (λ (n : ℕ). header_of event.kind n (at + n)) size_is) ∙ sym (front_of-header at event)

-- and with the frame where the checksum was put behind it
pub frame_in_array : (prev at n sum : ℕ) (event : Event) (two three tail : List ℕ) → n ≡ 19 + length event.body → take n two ≡ front_of at event → sum ≡ checksum_of prev at event → tail ≡ le32 sum
    → take (n + 4) three ≡ take n two ++ tail → take (n + 4) three ≡ frame_of prev at event
unfolding frame_of
frame_in_array prev at n sum event two three tail n_is front sum_is tail_is third =
    third ∙ ap (λ (l : List ℕ). l ++ tail) front ∙ ap (λ (l : List ℕ). front_of at event ++ l) (tail_is ∙ ap le32 sum_is)
