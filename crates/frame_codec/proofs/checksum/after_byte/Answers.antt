-- One look-up gives what eight steps give.
use Rattle.std.proofs.Common.{bit_xor, ◌∙◌, ap}
use Rattle.frame_codec.specs.Tables.{shifted_bytes}
use Rattle.frame_codec.proofs.CrcLemmas.{byte_looked_up}
use Rattle.frame_codec.proofs.checksum.after_byte.Goals as goal

pub returns : goal.returns
returns c =
    byte_looked_up (bit_xor c.args.register c.from.result) c.entry.result c.entry.ensures.value
    ∙ ap (λ n. shifted_bytes 1 (bit_xor c.args.register n)) c.from.ensures
