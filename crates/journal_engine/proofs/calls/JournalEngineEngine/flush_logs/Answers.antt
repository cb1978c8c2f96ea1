-- flush_logs
use Rattle.engine_api.specs.States.{synced_state}
use Rattle.journal_engine.specs.Engine.{Journaled}
use Rattle.journal_engine.proofs.TurnLemmas.{turns_flush, flush_answers, flush_settles}
use Rattle.journal_engine.proofs.EndLemmas.{turns_told, held_told}
use Rattle.std.proofs.Common.{subst, [], IsTrue, OnOk}
use Rattle.std.specs.Prelude.{All}
use Rattle.disk_model.specs.File.{IsSettled}
use Rattle.engine_api.specs.Reads.{files_in}
use Rattle.engine_api.specs.Calls.{AnswersOnly}
use Rattle.journal_engine.specs.Engine.{files_of}
use Rattle.journal_engine.proofs.calls.JournalEngineEngine.flush_logs.Goals as goal

pub returns-clause-turns : goal.returns-clause-turns
returns-clause-turns g c =
    let it = c.self.inside in
    let e : Journaled = record { name = it.name; soname = it.soname; first_file = it.first_file; journal = it.journal; live = it.live.state } in
    let d = (goal.Storage-dyn g c.args.volume.now).disk c.args.volume.now.1 in
    turns_told e c.args.self.now c.self.view_is c.flush.result synced_state _ _ _ _
    (turns_flush e c.flush.result c.flush.new.journal c.flush.new.live.state d _ c.self.invariant (held_told e c.args.self.now c.self.view_is d c.requires.holds) c.flush.ensures)

pub returns-clause-answers : goal.returns-clause-answers
returns-clause-answers g c =
    let it = c.self.inside in
    let e : Journaled = record { name = it.name; soname = it.soname; first_file = it.first_file; journal = it.journal; live = it.live.state } in
    let d = (goal.Storage-dyn g c.args.volume.now).disk c.args.volume.now.1 in
    subst (λ (v : Journaled). AnswersOnly [] (files_of v.first_file) d.told c.flush.result) c.self.view_is
    (flush_answers e c.flush.result c.flush.new.journal c.flush.new.live.state d _ (held_told e c.args.self.now c.self.view_is d c.requires.holds) c.flush.ensures)

pub returns-clause-settled : goal.returns-clause-settled
returns-clause-settled g c =
    let it = c.self.inside in
    let e : Journaled = record { name = it.name; soname = it.soname; first_file = it.first_file; journal = it.journal; live = it.live.state } in
    let d = (goal.Storage-dyn g c.args.volume.now).disk c.args.volume.now.1 in
    let after = (goal.Storage-dyn g c.args.volume.now).disk c.flush.new.volume in
    subst (λ (v : Journaled). IsTrue d.told → OnOk c.flush.result (All IsSettled (files_in (files_of v.first_file) after))) c.self.view_is
    (flush_settles e c.flush.result c.flush.new.journal c.flush.new.live.state d after c.self.invariant (held_told e c.args.self.now c.self.view_is d c.requires.holds) c.flush.ensures)
