-- Each step of a loop leaves what all the bytes give as it was.
use Rattle.std.proofs.Common.{◌≡◌, ◌*◌, ◌-◌, bit_xor, ◌/◌, ◌^◌, drop, length, get_or, ℕ, List, [], sym, ◌∙◌, ap, arith}
use Rattle.std.proofs.lemmas.List.{at_drop_all}
use Rattle.std.specs.Int.{from_le_bytes, w64}
use Rattle.frame_codec.specs.Tables.{shifted_bytes}
use Rattle.frame_codec.specs.Crc.{register, crc_of}
use Rattle.frame_codec.proofs.CrcLemmas.{word_more, byte_more}
use Rattle.frame_codec.proofs.checksum.crc.Goals as goal

pub words-preserved : goal.words-preserved
words-preserved c =
    word_more c.words.register c.words.word-index c.from_le_bytes.result c.after_word-register.result c.args.bytes.now
    (omega (arith, c.words-test.true, c.as_chunks.ensures.front_len)) (λ k. (c.type_inv.bytes k).fits)
    (c.from_le_bytes.ensures ∙ ap (λ (words : List (List ℕ)). from_le_bytes w64 (get_or words c.words.word-index [])) c.as_chunks.ensures.front)
    (c.after_word-register.ensures ∙ ap (λ n. shifted_bytes 8 (bit_xor c.from_le_bytes.result n)) c.from.ensures)
    ∙ c.words.invariant

pub rest-init : goal.rest-init
rest-init c =
    let e : length c.args.bytes.now / 8 * 8 ≡ 8 * c.words.word-index = omega (arith, c.words-test.false, c.words.auto.word-index-end, c.as_chunks.ensures.front_len) in
    ap (register c.words.register) (c.as_chunks.ensures.back ∙ ap (λ n. drop n c.args.bytes.now) e) ∙ c.words.invariant

pub rest-preserved : goal.rest-preserved
rest-preserved c =
    byte_more c.rest.register c.rest.byte-index c.after_byte-register.result c.as_chunks.result.1.now c.rest-test.true c.after_byte-register.ensures
    ∙ c.rest.invariant

pub returns : goal.returns
unfolding crc_of
returns c =
    ap (λ n. bit_xor n (2 ^ 32 - 1))
    (sym (at_drop_all (register c.rest.register) c.as_chunks.result.1.now c.rest.byte-index c.rest-test.false) ∙ c.rest.invariant)
