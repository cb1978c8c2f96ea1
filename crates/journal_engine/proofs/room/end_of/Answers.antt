use Rattle.std.proofs.Common.{◌∙◌}
use Rattle.journal_engine.proofs.RoomLemmas.{end_told}
use Rattle.journal_engine.proofs.room.end_of.Goals as goal

pub returns : goal.returns
returns c records is = c.max.ensures ∙ end_told c.args.journal.now c.len.result records (c.len.ensures.area records) c.len.ensures.before is
