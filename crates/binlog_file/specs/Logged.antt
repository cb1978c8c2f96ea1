-- What the bytes of file 0 stand for: the logged transactions. (This project.)
use Rattle.std.specs.Prelude.{◌≡◌, ◌⊎◌, ◌<◌, ◌≤◌, ℕ, List, [], ◌∷◌, ◌++◌, length, codes}
use Rattle.disk_model.specs.File.{File, IsImage}
use Rattle.frame_codec.specs.Bytes.{le32, le64}
use Rattle.frame_codec.specs.Crc.{crc_of}
use Rattle.frame_codec.specs.Frame.{Event}
use Rattle.frame_codec.specs.Chain.{end_of, last_checksum, EndsWithin}
use Rattle.framed_file.specs.Framed.{IsPrefix, header_len, IsFaithful, framed}
use Rattle.row_format.specs.declared.change.Transaction.{Transaction}
use Rattle.binlog_events.specs.Transaction.{events_of, IsFit, IsTransactionAt}

-- a header's first 28 bytes: the word, version 1, sequence 1, no transactions before this file, zero
unfoldable pub header_fields : List ℕ
header_fields = codes "PLUGDLOG" ++ le32 1 ++ le32 1 ++ le64 0 ++ le32 0

-- the checksum that ends the header
unfoldable pub header_checksum : ℕ
header_checksum = crc_of 0 header_fields

-- the one valid header
unfoldable pub log_header : List ℕ
log_header = header_fields ++ le32 header_checksum

-- a valid header, and its checksum: there is one
abbrev pub IsLogHeader : List ℕ → ℕ → Type 0
IsLogHeader header checksum = (header ≡ log_header) × (checksum ≡ header_checksum)

-- the events of transactions, in order
abbrev pub all_events : List Transaction → List Event
all_events [] = []
all_events (t ∷ list) = events_of t ++ all_events list

-- where a log with these transactions ends
abbrev pub log_end : List Transaction → ℕ
log_end list = end_of header_len (all_events list)

-- the checksum of its last frame, or the header's
abbrev pub log_checksum : List Transaction → ℕ
log_checksum list = last_checksum header_checksum header_len (all_events list)

-- the bytes of a log with these transactions
abbrev pub log_of : List Transaction → List ℕ
log_of list = framed log_header header_checksum (all_events list)

-- all of them can be spelt
abbrev pub AreFit : List Transaction → Type 0
AreFit [] = Unit {0}
AreFit (t ∷ list) = IsFit t × AreFit list

-- a header, these transactions, and then no other whole transaction
pub record Headed (bytes : List ℕ) (list : List Transaction) : Type 0 where
  pub fit : AreFit list
  pub ends : EndsWithin header_len (all_events list)
  pub rest : List ℕ
  pub stands : bytes ≡ log_of list ++ rest
  pub no_more : (t : Transaction) → IsTransactionAt (log_checksum list) (log_end list) rest t → ⊥

-- at most 32 bytes and no valid header: an empty log
pub record Headless (bytes : List ℕ) (list : List Transaction) : Type 0 where
  pub no_header : IsPrefix log_header bytes → ⊥
  pub short : length bytes ≤ header_len
  pub none : list ≡ []

-- The logged transactions of file 0: the longest list of whole transactions, one directly after the other, behind the header.
abbrev pub IsLogged : List ℕ → List Transaction → Type 0
IsLogged bytes list = Headed bytes list ⊎ Headless bytes list

-- more than 32 bytes and no valid header: no log at all
pub record IsNoLog (bytes : List ℕ) : Type 0 where
  pub no_header : IsPrefix log_header bytes → ⊥
  pub long : header_len < length bytes

-- the image has all transactions of the first list, and then some more of the second
pub record IsBetween (low high : List Transaction) (image : List ℕ) : Type 0 where
  pub list : List Transaction
  pub logged : IsLogged image list
  pub at_least : IsPrefix low list
  pub at_most : IsPrefix list high

-- each faithful crash image of the file is between them
abbrev pub Holds : List Transaction → List Transaction → File → Type 0
Holds low high file = (image : List ℕ) → IsImage file image → IsFaithful IsLogHeader file image → IsBetween low high image
