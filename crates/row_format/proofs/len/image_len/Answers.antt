use Rattle.std.proofs.Common.{arith}
use Rattle.row_format.proofs.ImageLemmas.{has_image}
use Rattle.row_format.proofs.LenLemmas.{image_within}
use Rattle.row_format.proofs.len.image_len.Goals as goal

pub row_len-requires : goal.row_len-requires
row_len-requires c = has_image c.args.schema.now c.args.row.now c.requires.schema c.requires.row

pub returns-clause-within : goal.returns-clause-within
returns-clause-within c = omega (arith, c.row_len.ensures.value, image_within c.args.schema.now c.args.row.now c.requires.schema c.requires.row)
