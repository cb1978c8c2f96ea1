-- Lemmas on reading: what a frame at the front of some bytes says of them, and what they have to say for one to stand there.
use Rattle.std.proofs.Common.{◌≡◌, ℕ, ◌+◌, ◌-◌, ◌≤◌, ◌==◌, true, false, List, [], ◌∷◌, ◌++◌, length, get_or, take, drop, refl, sym, ◌∙◌, ap, arith, append_assoc, length-append}
use Rattle.std.proofs.lemmas.Bool.{both_ways}
use Rattle.std.proofs.lemmas.Bool.Decides.{Decides-eqb}
use Rattle.std.proofs.lemmas.List.{take_at, drop_at, take-append-drop, length-take-le, length-drop, drop-drop}
use Rattle.std.proofs.lemmas.Nat.{from_le_bytes-to_le_bytes_4}
use Rattle.std.proofs.lemmas.Slice.Eq.{starts_is}
use Rattle.std.proofs.Math.Seq.{take-add}
use Rattle.std.specs.Int.{w32, from_le_bytes}
use Rattle.std.specs.List.{starts_with}
use Rattle.frame_codec.specs.Bytes.{le16, le32}
use Rattle.frame_codec.specs.Crc.{crc_of}
use Rattle.frame_codec.specs.Frame.{Event, size_of, front_of, checksum_of, frame_of, limit, IsFrameAt}
use Rattle.frame_codec.specs.Header.{header_of}
use Rattle.frame_codec.specs.Read.{Reads}
use Rattle.frame_codec.proofs.FrameLemmas.{length-le32, length-front_of, length-frame_of}
use Rattle.frame_codec.proofs.LayoutLemmas.{front_of-header}

-- 19 bytes
pub length-header_of : (kind size end : ℕ) → length (header_of kind size end) ≡ 19
unfolding header_of le32 le16
length-header_of kind size end = refl

-- the four bytes of a number
abbrev four_at : List ℕ → ℕ → List ℕ
four_at bytes place = get_or bytes place 0 ∷ get_or bytes (place + 1) 0 ∷ get_or bytes (place + 2) 0 ∷ get_or bytes (place + 3) 0 ∷ []

-- the size stands from byte 9 on
header_of-size : (kind size end : ℕ) → four_at (header_of kind size end) 9 ≡ le32 size
unfolding header_of le32 le16
header_of-size kind size end = refl

-- the type is byte 4
header_of-kind : (kind size end : ℕ) → get_or (header_of kind size end) 4 0 ≡ kind
unfolding header_of le32 le16
header_of-kind kind size end = refl

-- ---- what a frame says of the bytes at whose front it stands

-- a frame is its front and its checksum
frame_of-parts : (prev at : ℕ) (event : Event) (rest : List ℕ)
    → frame_of prev at event ++ rest ≡ front_of at event ++ (le32 (checksum_of prev at event) ++ rest)
unfolding frame_of
frame_of-parts prev at event rest = append_assoc (front_of at event) (le32 (checksum_of prev at event)) rest

-- a frame that stands is there whole
pub frame_whole : (prev at : ℕ) (bytes : List ℕ) (event : Event) → IsFrameAt prev at bytes event → size_of event ≤ length bytes
frame_whole prev at bytes event frame =
    omega (arith, ap length frame.stands ∙ length-append (frame_of prev at event) frame.rest, length-frame_of prev at event)

-- a frame begins with its header
frame_begins : (prev at : ℕ) (bytes : List ℕ) (event : Event) (frame : IsFrameAt prev at bytes event)
    → bytes ≡ header_of event.kind (size_of event) (at + size_of event) ++ (event.body ++ (le32 (checksum_of prev at event) ++ frame.rest))
frame_begins prev at bytes event frame =
    frame.stands ∙ frame_of-parts prev at event frame.rest
    ∙ ap (λ front. front ++ (le32 (checksum_of prev at event) ++ frame.rest)) (front_of-header at event)
    ∙ append_assoc (header_of event.kind (size_of event) (at + size_of event)) event.body (le32 (checksum_of prev at event) ++ frame.rest)

-- the first 19 bytes are the header
first_header : (prev at : ℕ) (bytes first : List ℕ) (event : Event) → IsFrameAt prev at bytes event → first ≡ take 19 bytes
    → first ≡ header_of event.kind (size_of event) (at + size_of event)
first_header prev at bytes first event frame is_first =
    is_first ∙ ap (take 19) (frame_begins prev at bytes event frame)
    ∙ take_at (header_of event.kind (size_of event) (at + size_of event)) _ 19 (length-header_of event.kind (size_of event) (at + size_of event))

-- the size stands in the header
pub size_read : (prev at size : ℕ) (bytes first : List ℕ) (event : Event) → IsFrameAt prev at bytes event → first ≡ take 19 bytes
    → size ≡ from_le_bytes w32 (four_at first 9) → size ≡ size_of event
unfolding le32
size_read prev at size bytes first event frame is_first is_size =
    is_size
    ∙ ap (λ bytes. from_le_bytes w32 (four_at bytes 9)) (first_header prev at bytes first event frame is_first)
    ∙ ap (from_le_bytes w32) (header_of-size event.kind (size_of event) (at + size_of event))
    ∙ from_le_bytes-to_le_bytes_4 (size_of event) (omega (arith, frame.ends))

-- the type too
kind_read : (prev at : ℕ) (bytes first : List ℕ) (event : Event) → IsFrameAt prev at bytes event → first ≡ take 19 bytes → get_or first 4 0 ≡ event.kind
kind_read prev at bytes first event frame is_first =
    ap (λ (bytes : List ℕ). get_or bytes 4 0) (first_header prev at bytes first event frame is_first)
    ∙ header_of-kind event.kind (size_of event) (at + size_of event)

-- bytes that do not begin with the header that they claim have no frame
pub header_missing : (prev at size end : ℕ) (bytes first header : List ℕ) (event : Event) → IsFrameAt prev at bytes event → first ≡ take 19 bytes
    → size ≡ from_le_bytes w32 (four_at first 9) → end ≡ at + size → header ≡ header_of (get_or first 4 0) size end
    → false ≡ starts_with ◌==◌ bytes header → ⊥
header_missing prev at size end bytes first header event frame is_first is_size is_end is_header missing =
    let sized : size ≡ size_of event = size_read prev at size bytes first event frame is_first is_size in
    let whole : header_of event.kind (size_of event) (at + size_of event) ≡ header =
    sym (is_header
    ∙ ap (λ n. header_of n size end) (kind_read prev at bytes first event frame is_first)
    ∙ ap (header_of event.kind size) is_end
    ∙ ap (λ n. header_of event.kind n (at + n)) sized) in
    let rest : List ℕ = event.body ++ (le32 (checksum_of prev at event) ++ frame.rest) in
    both_ways _ (sym missing)
    ((starts_is Decides-eqb bytes header (starts_with ◌==◌ bytes header) refl).1 rest
    (frame_begins prev at bytes event frame ∙ ap (λ front. front ++ rest) whole))

-- bytes whose checksum is another have no frame
pub checksum_missing : (prev at size sum : ℕ) (bytes first stored tail : List ℕ) (event : Event) → IsFrameAt prev at bytes event → first ≡ take 19 bytes
    → size ≡ from_le_bytes w32 (four_at first 9) → sum ≡ crc_of prev (take (size - 4) bytes) → stored ≡ le32 sum → tail ≡ drop (size - 4) bytes
    → false ≡ starts_with ◌==◌ tail stored → ⊥
checksum_missing prev at size sum bytes first stored tail event frame is_first is_size is_sum is_stored is_tail missing =
    let sized : size ≡ size_of event = size_read prev at size bytes first event frame is_first is_size in
    let long : length (front_of at event) ≡ size - 4 = omega (arith, length-front_of at event) in
    let parts = frame.stands ∙ frame_of-parts prev at event frame.rest in
    let summed : sum ≡ checksum_of prev at event =
    is_sum ∙ ap (crc_of prev) (ap (take (size - 4)) parts ∙ take_at (front_of at event) _ (size - 4) long) in
    both_ways _ (sym missing)
    ((starts_is Decides-eqb tail stored (starts_with ◌==◌ tail stored) refl).1 frame.rest
    (is_tail ∙ ap (drop (size - 4)) parts ∙ drop_at (front_of at event) _ (size - 4) long
    ∙ ap (λ bytes. bytes ++ frame.rest) (sym (is_stored ∙ ap le32 summed))))

-- ---- what the bytes have to say

-- bytes that begin with some others
starts_rest : (bytes front : List ℕ) → true ≡ starts_with ◌==◌ bytes front → bytes ≡ front ++ drop (length front) bytes
starts_rest bytes front begins = (starts_is Decides-eqb bytes front (starts_with ◌==◌ bytes front) refl).0 (sym begins)

-- the event that is read: its body stands between the header and the checksum
abbrev read_event : ℕ → ℕ → List ℕ → Event
read_event kind size bytes = record { kind = kind; body = take (size - 4 - 19) (drop 19 bytes) }

-- it has the size that was read
read_event-size : (kind size : ℕ) (bytes : List ℕ) → 23 ≤ size → size ≤ length bytes → size_of (read_event kind size bytes) ≡ size
read_event-size kind size bytes least within =
    omega (arith, length-take-le (size - 4 - 19) (drop 19 bytes) (rw length-drop (omega arith)))

-- its front is what the checksum is computed over
read_event-front : (at kind size end : ℕ) (bytes header : List ℕ) → 23 ≤ size → size ≤ length bytes → end ≡ at + size → header ≡ header_of kind size end
    → true ≡ starts_with ◌==◌ bytes header → front_of at (read_event kind size bytes) ≡ take (size - 4) bytes
read_event-front at kind size end bytes header least within is_end is_header begins =
    let event : Event = read_event kind size bytes in
    let sized : size_of event ≡ size = read_event-size kind size bytes least within in
    let long : length header ≡ 19 = ap length is_header ∙ length-header_of kind size end in
    let rest : List ℕ = drop (length header) bytes in
    let first : take 19 bytes ≡ header = ap (take 19) (starts_rest bytes header begins) ∙ take_at header rest 19 long in
    let split : 19 + (size - 4 - 19) ≡ size - 4 = omega arith in
    front_of-header at event
    ∙ ap (λ n. header_of kind n (at + n) ++ event.body) sized
    ∙ ap (λ n. header_of kind size n ++ event.body) (sym is_end)
    ∙ ap (λ bytes. bytes ++ event.body) (sym (first ∙ is_header))
    ∙ sym (take-add 19 (size - 4 - 19) bytes)
    ∙ ap (λ n. take n bytes) split

-- a frame that is read stands there
pub frame_read : (prev at kind size end sum : ℕ) (bytes header stored tail : List ℕ) → 23 ≤ size → size ≤ length bytes → end ≤ limit → end ≡ at + size
    → header ≡ header_of kind size end → true ≡ starts_with ◌==◌ bytes header → sum ≡ crc_of prev (take (size - 4) bytes) → stored ≡ le32 sum
    → tail ≡ drop (size - 4) bytes → true ≡ starts_with ◌==◌ tail stored
    → Reads prev at bytes (record { kind = kind; body_start = 19; body_end = size - 4; end = end; crc = sum })
unfolding frame_of
frame_read prev at kind size end sum bytes header stored tail least within inside is_end is_header begins is_sum is_stored is_tail closes =
    let event : Event = read_event kind size bytes in
    let sized : size_of event ≡ size = read_event-size kind size bytes least within in
    let front : front_of at event ≡ take (size - 4) bytes = read_event-front at kind size end bytes header least within is_end is_header begins in
    let summed : sum ≡ checksum_of prev at event = is_sum ∙ ap (crc_of prev) (sym front) in
    let rest : List ℕ = drop (length stored) tail in
    let ends : end ≡ at + size_of event = omega arith in
    let behind : rest ≡ drop (size - 4 + 4) bytes =
    ap (λ n. drop n tail) (ap length is_stored ∙ length-le32 sum) ∙ ap (drop 4) is_tail ∙ drop-drop 4 (size - 4) bytes in
    record {
      event = event;
      stands = record {
        ends = omega arith;
        rest = rest;
        stands =
            sym (take-append-drop (size - 4) bytes)
            ∙ ap (λ back. take (size - 4) bytes ++ back) (sym is_tail ∙ starts_rest tail stored closes)
            ∙ ap (λ front. front ++ (stored ++ rest)) (sym front)
            ∙ ap (λ bytes. front_of at event ++ (bytes ++ rest)) (is_stored ∙ ap le32 summed)
            ∙ sym (append_assoc (front_of at event) (le32 (checksum_of prev at event)) rest);
      };
      kind = refl;
      body_start = refl;
      body_end = omega arith;
      body = refl;
      within = omega arith;
      behind = behind;
      end = ends;
      crc = summed;
    }
