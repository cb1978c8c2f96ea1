-- The header, the body and the checksum, one behind the other.
use Rattle.std.proofs.Common.{◌≡◌, ◌+◌, ◌++◌, ℕ, length, take, ◌∙◌, ap, subst, sym, refl, arith}
use Rattle.frame_codec.specs.Crc.{crc_of}
use Rattle.frame_codec.specs.Frame.{Event, size_of, front_of, checksum_of}
use Rattle.frame_codec.proofs.FrameLemmas.{length-le32}
use Rattle.frame_codec.proofs.LayoutLemmas.{le32-bytes, front_in_array, frame_in_array}
use Rattle.frame_codec.proofs.write.short_frame.Goals as goal

pub returns : goal.returns
returns c =
    let event : Event = record { kind = c.args.kind; body = c.args.body.now } in
    let size : 19 + length event.body + 4 ≡ size_of event = omega arith in
    let long : 0 + length c.header.result ≡ 19 = omega arith in
    let first : take 19 c.put_at.new.bytes ≡ c.header.result = ap (λ (n : ℕ). take n c.put_at.new.bytes) (sym long) ∙ c.put_at.ensures in
    let front : take (19 + length event.body) c.put_at-2.new.bytes ≡ front_of c.args.at event =
    front_in_array c.args.at _ event c.header.result c.put_at.new.bytes c.put_at-2.new.bytes size c.header.ensures first c.put_at-2.ensures in
    let sum : c.crc-crc.result ≡ checksum_of c.args.prev c.args.at event = c.crc-crc.ensures ∙ ap (crc_of c.args.prev) front in
    let tail = c.to_le_bytes.ensures ∙ le32-bytes c.crc-crc.result in
    let four : length c.to_le_bytes.result ≡ 4 = ap length tail ∙ length-le32 c.crc-crc.result in
    let third = subst (λ (n : ℕ). take (19 + length event.body + n) c.put_at-3.new.bytes ≡ take (19 + length event.body) c.put_at-2.new.bytes ++ c.to_le_bytes.result) four c.put_at-3.ensures in
    record {
      bytes = frame_in_array c.args.prev c.args.at _ c.crc-crc.result event c.put_at-2.new.bytes c.put_at-3.new.bytes c.to_le_bytes.result refl front sum tail third;
      crc = sum;
    }
