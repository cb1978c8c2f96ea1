-- write_row
use Rattle.std.proofs.Common.{sym, subst, [], ◌∷◌}
use Rattle.engine_api.specs.declared.fault.Code.TheVariants.{Duplicate, Full}
use Rattle.engine_api.specs.Live.{live_schema, IsRowFor, wrote_state}
use Rattle.journal_engine.specs.Engine.{Journaled, files_of}
use Rattle.journal_engine.proofs.SpeltLemmas.{spelt_row}
use Rattle.journal_engine.proofs.CallLemmas.{well_next, well_added, wrote_gist, wrote_kept, added_gist, added_kept, not_added, blames_none, answers_also}
use Rattle.journal_engine.proofs.TurnLemmas.{turns_quiet}
use Rattle.journal_engine.proofs.EndLemmas.{turns_told, held_told}
use Rattle.journal_engine.proofs.calls.JournalEngineEngine.write_row.Goals as goal

pub invariant_of-self : goal.invariant_of-self
invariant_of-self g c =
    let it = c.self.inside in
    let table = c.args.table.now in
    let row = c.args.row.now in
    let is_row = subst (λ (v : Journaled). IsRowFor (live_schema table v.live) row) (sym c.self.view_is) c.requires.row in
    let spelt = spelt_row c.args.txn table row it.live.state c.named.ensures is_row c.self.invariant.spelt in
    well_added it.first_file it.journal it.live.state (wrote_state c.args.txn table row it.live.state) c.insert.new.self.state c.insert.result c.insert.ensures.adds c.self.invariant
    (well_next it.first_file it.journal it.live.state (wrote_state c.args.txn table row it.live.state) (wrote_gist c.args.txn table row it.live.state) (wrote_kept c.args.txn table row it.live.state) spelt c.self.invariant)

pub returns-clause-turns : goal.returns-clause-turns
returns-clause-turns g c =
    let it = c.self.inside in
    let table = c.args.table.now in
    let row = c.args.row.now in
    let e : Journaled = record { name = it.name; soname = it.soname; first_file = it.first_file; journal = it.journal; live = it.live.state } in
    let d = (goal.Storage-dyn g c.args.volume.now).disk c.args.volume.now.1 in
    let next = wrote_state c.args.txn table row in
    let new = c.insert.new.self.state in
    let adds = c.insert.ensures.adds in
    turns_told e c.args.self.now c.self.view_is c.insert.result next _ _ _ _
    (turns_quiet e c.insert.result (next it.live.state) new d adds.ok (not_added it.live.state (next it.live.state) new c.insert.result adds) (blames_none (Duplicate ∷ Full ∷ []) c.insert.result c.insert.ensures.answers)
    c.self.invariant.alone (added_kept it.live.state (next it.live.state) new c.insert.result adds (wrote_kept c.args.txn table row it.live.state)) (added_gist it.live.state (next it.live.state) new c.insert.result adds (wrote_gist c.args.txn table row it.live.state))
    c.self.invariant.stands (held_told e c.args.self.now c.self.view_is d c.requires.holds))

pub returns-clause-answers : goal.returns-clause-answers
returns-clause-answers g c = answers_also (Duplicate ∷ Full ∷ []) (files_of c.args.self.now.first_file) ((goal.Storage-dyn g c.args.volume.now).disk c.args.volume.now.1).told c.insert.result c.insert.ensures.answers
