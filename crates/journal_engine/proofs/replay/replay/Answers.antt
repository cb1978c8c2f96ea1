use Rattle.std.proofs.Common.{arith}
use Rattle.std.proofs.lemmas.Grind.{common_steps}
use Rattle.framed_file.specs.Framed.{header_len}
use Rattle.redo_journal.specs.Replays.{start, after_records}
use Rattle.journal_engine.specs.Replaying.{HasRead}
use Rattle.journal_engine.proofs.RecordingLemmas.{read_well}
use Rattle.journal_engine.proofs.replay.replay.Goals as goal

pub returns-clause-well : goal.returns-clause-well
returns-clause-well c =
    let read : HasRead (after_records c.args.records.items start) c.loop-it.live.state = grind (arith, common_steps) in
    read_well header_len c.args.records.items c.loop-it.live.state c.requires read
