-- Byte by byte.
use Rattle.redo_journal.proofs.SpellLemmas.{pair_written}
use Rattle.redo_journal.proofs.spell.pair_bytes.Goals as goal

pub returns : goal.returns
returns c = pair_written c.args.a c.args.b c.number_bytes.result c.number_bytes-2.result c.number_bytes.ensures c.number_bytes-2.ensures
