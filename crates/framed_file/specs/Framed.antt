-- Which crash images of a file of chained frames are faithful, and what such an image holds. (This project.)
use Rattle.std.specs.Prelude.{◌≡◌, ℕ, List, [], ◌∷◌, ◌++◌, take, drop}
use Rattle.disk_model.specs.File.{File, IsMeant}
use Rattle.frame_codec.specs.Frame.{Event, size_of, frame_of, IsFrameAt}
use Rattle.frame_codec.specs.Chain.{chain_of, end_of, last_checksum, EndsWithin}

-- the first list is a first part of the second
abbrev pub IsPrefix : {A : Type 0} → List A → List A → Type 0
IsPrefix {A} some all = (rest : List A) × (all ≡ some ++ rest)

-- how many bytes a header has: the first frame stands there
abbrev pub header_len : ℕ
header_len = 32

-- A place is reached where a valid header stands at 0 and frames stand one directly after the other from byte 32 to that place.
-- IsHeader tells the valid headers, each with its checksum, to which the first frame is chained.
pub record Reaches (IsHeader : List ℕ → ℕ → Type 0) (bytes header : List ℕ) (checksum : ℕ) (events : List Event) : Type 0 where
  pub is_header : IsHeader header checksum
  pub ends : EndsWithin header_len events
  pub rest : List ℕ
  pub stands : bytes ≡ header ++ chain_of checksum header_len events ++ rest

-- No torn record passes its checksum by chance: a valid header that stands in the image stands so in an intended state, and each
-- frame that stands at a reached place stands there in an intended state. A header's bytes all count, also a byte that its
-- checksum does not cover, as the one that opens an engine's journal area.
pub record IsFaithful (IsHeader : List ℕ → ℕ → Type 0) (file : File) (image : List ℕ) : Type 0 where
  pub header_meant : (header : List ℕ) (checksum : ℕ) → IsHeader header checksum → IsPrefix header image
      → (state : List ℕ) × IsMeant file.synced file.steps state × IsPrefix header state
  pub frames_meant : (header : List ℕ) (checksum : ℕ) (events : List Event) (event : Event)
      → Reaches IsHeader image header checksum (events ++ event ∷ [])
      → (state : List ℕ) × IsMeant file.synced file.steps state
      × (take (size_of event) (drop (end_of header_len events) state)
      ≡ frame_of (last_checksum checksum header_len events) (end_of header_len events) event)

-- the bytes of a file with this header and these frames
abbrev pub framed : List ℕ → ℕ → List Event → List ℕ
framed header checksum events = header ++ chain_of checksum header_len events

-- the image has all frames of the first list, then more of the second, and behind them nothing that is a frame
pub record HoldsFrames (header : List ℕ) (checksum : ℕ) (low high : List Event) (image : List ℕ) : Type 0 where
  pub events : List Event
  pub rest : List ℕ
  pub stands : image ≡ framed header checksum events ++ rest
  pub at_least : IsPrefix low events
  pub at_most : IsPrefix events high
  pub no_more : (event : Event) → IsFrameAt (last_checksum checksum header_len events) (end_of header_len events) rest event → ⊥
