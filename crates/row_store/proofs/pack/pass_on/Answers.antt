use Rattle.row_store.proofs.BlockLemmas.{passes_on}
use Rattle.row_store.proofs.pack.pass_on.Goals as goal

pub returns : goal.returns
returns c = record { passes = passes_on c.args.blocks.now c.args.k c.pop_back-number.result c.pop_back-number.new.self c.push_front.new.self c.index-blocks-k.result c.index-blocks-k-2.result c.requires.there c.pop_back-number.ensures c.push_front.ensures }
