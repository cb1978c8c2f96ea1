-- What does a read frame say of the bytes that it was read from?
use Rattle.std.specs.Prelude.{◌≡◌, ◌≤◌, ◌+◌, ℕ, List, length, drop, slice_range}
use Rattle.frame_codec.specs.Frame.{Event, size_of, checksum_of, IsFrameAt}
use Rattle.frame_codec.specs.declared.read.Frame.{Frame}

-- it tells of the event whose frame stands at the front of these bytes, which are those from the position on
pub record Reads (prev at : ℕ) (bytes : List ℕ) (frame : Frame) : Type 0 where
  pub event : Event
  pub stands : IsFrameAt prev at bytes event
  pub kind : frame.kind ≡ event.kind
  pub body_start : frame.body_start ≡ 19
  pub body_end : frame.body_end ≡ 19 + length event.body
  pub body : slice_range bytes frame.body_start frame.body_end ≡ event.body
  pub within : frame.body_end + 4 ≤ length bytes
  pub behind : stands.rest ≡ drop (frame.body_end + 4) bytes
  pub end : frame.end ≡ at + size_of event
  pub crc : frame.crc ≡ checksum_of prev at event
