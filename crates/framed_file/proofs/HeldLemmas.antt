-- What a faithful image of a file holds to which only frames were added since its last sync.
use Rattle.std.proofs.Common.{◌≡◌, ⊎_elim, ℕ, ◌+◌, ◌-◌, ◌<◌, ◌≤◌, List, [], ◌∷◌, ◌++◌, length, take, drop, sym, ◌∙◌, ap, arith, append_assoc, length-append, take-append-drop}
use Rattle.std.proofs.lemmas.List.{append-nil, drop_at, take-take, drop-take, length-take, length-drop}
use Rattle.disk_model.specs.File.{File, IsImage}
use Rattle.disk_model.specs.Grew.{OnlyGrew}
use Rattle.disk_model.proofs.Grew.{image_front}
use Rattle.frame_codec.specs.Frame.{Event, size_of, frame_of, limit, IsFrameAt}
use Rattle.frame_codec.specs.Chain.{chain_of, end_of, last_checksum, EndsWithin}
use Rattle.frame_codec.proofs.FrameLemmas.{length-frame_of, one_event}
use Rattle.frame_codec.proofs.ChainLemmas.{chain_of-nil, chain_of-cons, chain_of-append, end_of-append, length-chain_of, end_of-le}
use Rattle.framed_file.specs.Framed.{IsPrefix, header_len, IsFaithful, framed, HoldsFrames}
use Rattle.framed_file.proofs.PrefixLemmas.{prefix_refl, prefix_trans, prefix_push, starts_or_not}

-- what stands in a first part of bytes stands in the bytes
in_whole : (whole state one : List ℕ) (p : ℕ) → 0 < length one → take (length state) whole ≡ state → take (length one) (drop p state) ≡ one
    → take (length one) (drop p whole) ≡ one
in_whole whole state one p some part at =
    let room : length one + p ≤ length state = omega (arith, some, ap length at, length-take (length one) (drop p state), length-drop p state) in
    let m = length state - p in
    let size : length state ≡ p + m = omega (arith, room) in
    let cut : drop p state ≡ take m (drop p whole) =
    ap (λ (l : List ℕ). drop p l) (sym part) ∙ ap (λ (i : ℕ). drop p (take i whole)) size ∙ drop-take p m whole in
    sym (take-take (length one) m (drop p whole) (omega (arith, room))) ∙ ap (λ (l : List ℕ). take (length one) l) (sym cut) ∙ at

module _ (IsHeader : List ℕ → ℕ → Type 0) (file : File) (image header : List ℕ) (checksum : ℕ) (all : List Event)
    (is_header : IsHeader header checksum) (size : length header ≡ header_len) (ends : EndsWithin header_len all)
    (grew : OnlyGrew file.synced file.steps (framed header checksum all)) (faithful : IsFaithful IsHeader file image) where
  abbrev whole : List ℕ
  whole = framed header checksum all

  abbrev end : List Event → ℕ
  end events = end_of header_len events

  abbrev sum : List Event → ℕ
  sum events = last_checksum checksum header_len events

  -- where some of the frames end, the others follow
  behind : (some tail : List Event) → all ≡ some ++ tail → drop (end some) whole ≡ chain_of (sum some) (end some) tail
  behind some tail is =
      let split : whole ≡ (header ++ chain_of checksum header_len some) ++ chain_of (sum some) (end some) tail =
      ap (λ (l : List Event). header ++ chain_of checksum header_len l) is
      ∙ ap (λ (l : List ℕ). header ++ l) (chain_of-append checksum header_len some tail)
      ∙ sym (append_assoc header (chain_of checksum header_len some) (chain_of (sum some) (end some) tail)) in
      let long : length (header ++ chain_of checksum header_len some) ≡ end some =
      omega (arith, length-append header (chain_of checksum header_len some), size, length-chain_of checksum header_len some) in
      ap (λ (l : List ℕ). drop (end some) l) split ∙ drop_at (header ++ chain_of checksum header_len some) (chain_of (sum some) (end some) tail) (end some) long

  -- one frame more of an image
  one_more : (some : List Event) (event : Event) (rest behind : List ℕ) → image ≡ framed header checksum some ++ rest → rest ≡ frame_of (sum some) (end some) event ++ behind
      → image ≡ framed header checksum (some ++ event ∷ []) ++ behind
  one_more some event rest behind is at =
      is ∙ ap (λ (l : List ℕ). framed header checksum some ++ l) at
      ∙ sym (append_assoc (framed header checksum some) (frame_of (sum some) (end some) event) behind)
      ∙ ap (λ (l : List ℕ). l ++ behind) (append_assoc header (chain_of checksum header_len some) (frame_of (sum some) (end some) event)
      ∙ ap (λ (l : List ℕ). header ++ l) (ap (λ (l : List ℕ). chain_of checksum header_len some ++ l) (sym (chain_of-cons (sum some) (end some) event []
      ∙ ap (λ (l : List ℕ). frame_of (sum some) (end some) event ++ l) (chain_of-nil _ _) ∙ append-nil (frame_of (sum some) (end some) event)))
      ∙ sym (chain_of-append checksum header_len some (event ∷ []))))

  -- a frame that stands in the image behind some of the frames stands in the whole file
  stands_in_whole : (some : List Event) (rest : List ℕ) (event : Event) → image ≡ framed header checksum some ++ rest
      → IsFrameAt (sum some) (end some) rest event
      → take (size_of event) (drop (end some) whole) ≡ frame_of (sum some) (end some) event
  stands_in_whole some rest event is at =
      let found = faithful.frames_meant header checksum some event (record {
        is_header = is_header;
        ends = omega (arith, end_of-append header_len some (event ∷ []), at.ends);
        rest = at.rest;
        stands = one_more some event rest at.rest is at.stands;
      }) in
      let long = length-frame_of (sum some) (end some) event in
      let there : take (length (frame_of (sum some) (end some) event)) (drop (end some) found.0) ≡ frame_of (sum some) (end some) event =
      ap (λ (n : ℕ). take n (drop (end some) found.0)) long ∙ found.2 in
      ap (λ (n : ℕ). take n (drop (end some) whole)) (sym long)
      ∙ in_whole whole found.0 (frame_of (sum some) (end some) event) (end some) (omega (arith, long)) (grew.meant found.0 found.1) there

  -- so it is the next of the file's frames
  is_next : (some tail : List Event) (rest : List ℕ) (event : Event) → all ≡ some ++ tail → image ≡ framed header checksum some ++ rest
      → IsFrameAt (sum some) (end some) rest event → (more : List Event) × (tail ≡ event ∷ more)
  is_next some [] rest event all_is is at =
      let there = stands_in_whole some rest event is at in
      let none = behind some [] all_is ∙ chain_of-nil (sum some) (end some) in
      absurd (omega (arith, ap length there, ap length none, length-take (size_of event) (drop (end some) whole), length-frame_of (sum some) (end some) event))
  is_next some (e ∷ more) rest event all_is is at =
      let there = stands_in_whole some rest event is at in
      let here = behind some (e ∷ more) all_is in
      let parted : drop (end some) whole ≡ frame_of (sum some) (end some) event ++ drop (size_of event) (drop (end some) whole) =
      sym (take-append-drop (size_of event) (drop (end some) whole)) ∙ ap (λ (l : List ℕ). l ++ drop (size_of event) (drop (end some) whole)) there in
      let fits : end some + size_of e ≤ limit =
      omega (arith, end_of-le (end some + size_of e) more, end_of-append header_len some (e ∷ more), ap (λ (l : List Event). end_of header_len l) all_is, ends) in
      let one = one_event (sum some) (end some) e event _ _ fits at.ends (sym (chain_of-cons (sum some) (end some) e more) ∙ sym here ∙ parted) in
      (more, ap (λ (x : Event). x ∷ more) one.0)

  -- where the next of the file's frames does not stand, no other does
  held_all : (some : List Event) (e : Event) (more : List Event) (rest : List ℕ) → all ≡ some ++ e ∷ more → image ≡ framed header checksum some ++ rest
      → (IsPrefix (frame_of (sum some) (end some) e) rest → ⊥) → HoldsFrames header checksum some all image
  held_all some e more rest all_is is not = record {
    events = some;
    rest = rest;
    stands = is;
    at_least = prefix_refl some;
    at_most = (e ∷ more, all_is);
    no_more = λ event at.
        let next = is_next some (e ∷ more) rest event all_is is at in
        let list = next.1 in
        let same : event ≡ e = cc in
        not (at.rest, at.stands ∙ ap (λ (x : Event). frame_of (sum some) (end some) x ++ at.rest) same);
  }

  -- what holds one frame more holds those before it
  held_more : (some : List Event) (e : Event) → HoldsFrames header checksum (some ++ e ∷ []) all image → HoldsFrames header checksum some all image
  held_more some e held = record {
    events = held.events;
    rest = held.rest;
    stands = held.stands;
    at_least = prefix_trans some (some ++ e ∷ []) held.events (prefix_push some e) held.at_least;
    at_most = held.at_most;
    no_more = held.no_more;
  }

  -- the frames of the image, from some of them on
  held_from : (some tail : List Event) (rest : List ℕ) → all ≡ some ++ tail → image ≡ framed header checksum some ++ rest
      → HoldsFrames header checksum some all image
  held_from some [] rest all_is is = record {
    events = some;
    rest = rest;
    stands = is;
    at_least = prefix_refl some;
    at_most = ([], all_is);
    no_more = λ event at. let next = is_next some [] rest event all_is is at in let e = next.1 in cc;
  }
  held_from some (e ∷ more) rest all_is is = ⊎_elim
      (λ at. held_more some e (held_from (some ++ e ∷ []) more at.0 (all_is ∙ sym (append_assoc some (e ∷ []) more)) (one_more some e rest at.0 is at.1)))
      (held_all some e more rest all_is is) (starts_or_not (frame_of (sum some) (end some) e) rest)

-- A faithful image has all frames that were synced, and of the rest a first part.
pub frames_held : (IsHeader : List ℕ → ℕ → Type 0) (file : File) (header : List ℕ) (checksum : ℕ) (low all : List Event)
    → IsHeader header checksum → length header ≡ header_len → EndsWithin header_len all → IsPrefix low all
    → file.synced ≡ framed header checksum low → OnlyGrew file.synced file.steps (framed header checksum all)
    → (image : List ℕ) → IsImage file image → IsFaithful IsHeader file image → HoldsFrames header checksum low all image
frames_held IsHeader file header checksum low all is_header size ends low_all synced grew image is faithful =
    let front = image_front file (framed header checksum all) image grew is ∙ synced in
    let rest = drop (length file.synced) image in
    let whole : image ≡ framed header checksum low ++ rest = sym (take-append-drop (length file.synced) image) ∙ ap (λ (l : List ℕ). l ++ rest) front in
    held_from IsHeader file image header checksum all is_header size ends grew faithful low low_all.0 rest low_all.1 whole
