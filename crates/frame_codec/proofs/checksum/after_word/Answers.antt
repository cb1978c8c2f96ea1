-- One look-up more, from the lowest byte up.
use Rattle.std.proofs.Common.{◌≡◌, ◌/◌, ℕ, bit_xor, bit_and, refl, sym, ◌∙◌, ap, arith}
use Rattle.frame_codec.specs.Tables.{shifted_bytes}
use Rattle.frame_codec.proofs.CrcLemmas.{first_looked_up, next_looked_up}
use Rattle.frame_codec.proofs.checksum.after_word.Goals as goal

sum_of : (word a b c d e f g h : ℕ)
    → a ≡ shifted_bytes 8 (bit_and word 255)
    → b ≡ shifted_bytes 7 (bit_and (word / 256) 255)
    → c ≡ shifted_bytes 6 (bit_and (word / 65536) 255)
    → d ≡ shifted_bytes 5 (bit_and (word / 16777216) 255)
    → e ≡ shifted_bytes 4 (bit_and (word / 4294967296) 255)
    → f ≡ shifted_bytes 3 (bit_and (word / 1099511627776) 255)
    → g ≡ shifted_bytes 2 (bit_and (word / 281474976710656) 255)
    → h ≡ shifted_bytes 1 (word / 72057594037927936)
    → bit_xor (bit_xor (bit_xor (bit_xor (bit_xor (bit_xor (bit_xor a b) c) d) e) f) g) h ≡ shifted_bytes 8 word
sum_of word a b c d e f g h is_a is_b is_c is_d is_e is_f is_g is_h =
    let whole : ℕ = shifted_bytes 8 word in
    let sum_b : ℕ = bit_xor a b in
    let sum_c : ℕ = bit_xor sum_b c in
    let sum_d : ℕ = bit_xor sum_c d in
    let sum_e : ℕ = bit_xor sum_d e in
    let sum_f : ℕ = bit_xor sum_e f in
    let sum_g : ℕ = bit_xor sum_f g in
    let to_a = first_looked_up 7 word (word / 256) a refl is_a in
    let to_b = next_looked_up whole a 6 (word / 256) (word / 65536) b to_a (omega arith) is_b in
    let to_c = next_looked_up whole sum_b 5 (word / 65536) (word / 16777216) c to_b (omega arith) is_c in
    let to_d = next_looked_up whole sum_c 4 (word / 16777216) (word / 4294967296) d to_c (omega arith) is_d in
    let to_e = next_looked_up whole sum_d 3 (word / 4294967296) (word / 1099511627776) e to_d (omega arith) is_e in
    let to_f = next_looked_up whole sum_e 2 (word / 1099511627776) (word / 281474976710656) f to_e (omega arith) is_f in
    let to_g = next_looked_up whole sum_f 1 (word / 281474976710656) (word / 72057594037927936) g to_f (omega arith) is_g in
    ap (bit_xor sum_g) is_h ∙ sym to_g

pub returns : goal.returns
returns c =
    sum_of c.args.word c.entry.result c.entry-2.result c.entry-3.result c.entry-4.result c.entry-5.result c.entry-6.result c.entry-7.result c.entry-8.result
    c.entry.ensures.value c.entry-2.ensures.value c.entry-3.ensures.value c.entry-4.ensures.value
    c.entry-5.ensures.value c.entry-6.ensures.value c.entry-7.ensures.value c.entry-8.ensures.value
