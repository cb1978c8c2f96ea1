use Rattle.std.proofs.Common.{◌∙◌, length, ap, sym}
use Rattle.std.specs.Int.{w64, cast_unsigned}
use Rattle.row_format.specs.Spelling.{value_spelling}
use Rattle.frame_codec.proofs.FrameLemmas.{length-le64}
use Rattle.live_tables.specs.Bytes.{capped}
use Rattle.live_tables.proofs.bytes.value_len.Goals as goal

pub returns-in-Int : goal.returns-in-Int
returns-in-Int c =
    sym (ap (λ v. capped (length (value_spelling v))) c.in-Int.is ∙ ap capped (length-le64 (cast_unsigned w64 c.in-Int.field-0)))
