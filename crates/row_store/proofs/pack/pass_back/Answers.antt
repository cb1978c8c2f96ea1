use Rattle.row_store.proofs.BlockLemmas.{passes_back}
use Rattle.row_store.proofs.pack.pass_back.Goals as goal

pub returns : goal.returns
returns c = record { passes = passes_back c.args.blocks.now c.args.k c.pop_front-number.result c.pop_front-number.new.self c.push_back.new.self c.index-blocks-k.result c.index-blocks-k-2.result c.requires.there c.pop_front-number.ensures c.push_back.ensures }
