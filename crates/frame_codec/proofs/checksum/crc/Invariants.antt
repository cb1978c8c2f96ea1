-- What is left to go into the register gives what all the bytes give.
use Rattle.std.proofs.Common.{◌≡◌, ◌*◌, ◌-◌, ◌^◌, drop, bit_xor}
use Rattle.frame_codec.specs.Crc.{register}
use Rattle.frame_codec.proofs.checksum.crc.Given as goal

abbrev pub invariant-words : goal.invariant-words
invariant-words l = register l.register (drop (8 * l.word-index) l.bytes) ≡ register (bit_xor l.start (2 ^ 32 - 1)) l.bytes

abbrev pub invariant-rest : goal.invariant-rest
invariant-rest l = register l.register (drop l.byte-index l.rest) ≡ register (bit_xor l.start (2 ^ 32 - 1)) l.bytes
