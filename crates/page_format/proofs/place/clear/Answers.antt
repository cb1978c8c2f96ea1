use Rattle.std.proofs.Common.{arith}
use Rattle.page_format.proofs.AddLemmas.{row_removed}
use Rattle.page_format.proofs.place.clear.Goals as goal

pub returns : goal.returns
returns c = record { slots = row_removed c.args.slot _ c.args.bytes.now _ c.requires.laid c.requires.there (omega arith) c.put_two.ensures }
