-- Written field by field.
use Rattle.frame_codec.proofs.LayoutLemmas.{header_written}
use Rattle.frame_codec.specs.Bytes.{le32}
use Rattle.frame_codec.proofs.header.header.Goals as goal

pub returns : goal.returns
unfolding le32
returns c = header_written c.args.kind c.args.size c.args.end c.to_le_bytes.result c.to_le_bytes-2.result c.to_le_bytes.ensures c.to_le_bytes-2.ensures
