-- The checksum's four bytes stand behind what was there.
use Rattle.std.proofs.Common.{◌++◌, ℕ, List, drop, ◌∙◌, ap}
use Rattle.std.proofs.lemmas.List.{take_rest}
use Rattle.frame_codec.specs.Bytes.{le32}
use Rattle.frame_codec.specs.Crc.{crc_of}
use Rattle.frame_codec.proofs.LayoutLemmas.{le32-bytes}
use Rattle.frame_codec.proofs.write.close_frame.Goals as goal

pub returns-clause-ok : goal.returns-clause-ok
returns-clause-ok c =
    c.in_ok-extend_from_slice.ensures.items
    ∙ ap (λ (bytes : List ℕ). c.args.out.now.items ++ bytes) (c.to_le_bytes.ensures ∙ le32-bytes c.crc-sum.result)
    ∙ ap (λ (n : ℕ). c.args.out.now.items ++ le32 n)
    (c.crc-sum.ensures ∙ ap (crc_of c.args.prev) (take_rest c.deref.result.now c.args.start) ∙ ap (λ (bytes : List ℕ). crc_of c.args.prev (drop c.args.start bytes)) c.deref.ensures.value)
