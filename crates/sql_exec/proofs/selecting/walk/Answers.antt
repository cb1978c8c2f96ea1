use Rattle.std.proofs.Common.{◌∙◌, sym, refl}
use Rattle.disk_model.specs.Object.{object}
use Rattle.engine_api.specs.Live.{live_rows}
use Rattle.sql_effect.specs.Select.{search_refusal}
use Rattle.sql_exec.proofs.FaultLemmas.{call_may, may_as, refusal_may}
use Rattle.sql_exec.proofs.RunLemmas.{run_fails, run_more, run_on, run_refused, same_on}
use Rattle.sql_exec.proofs.SearchLemmas.{at_scan, end_granted, end_answer, found_on, fewer_left, refused_at, searches_not}
use Rattle.sql_exec.proofs.selecting.walk.Goals as goal

pub returns-in_err-row-clause-carries : goal.returns-in_err-row-clause-carries
returns-in_err-row-clause-carries g c =
    run_fails _ _ _ _ _ _ c.from_residual.result c.in_err-row.field-0.0 _ _ _ _ _ _ _ _ c.rows.invariant.runs c.rows.invariant.same c.in_err-row.ensures.carries refl c.from_residual.ensures.1

pub returns-in_default-clause-carries : goal.returns-in_default-clause-carries
returns-in_default-clause-carries g c =
    run_more _ _ _ _ _ _ c.rows.found _ _ _ _ _ _ _ _ c.rows.invariant.runs c.rows.invariant.same c.in_ok-row.ensures.carries

pub returns-in_default-clause-searches : goal.returns-in_default-clause-searches
returns-in_default-clause-searches g c =
    let end = sym (at_scan c.in_ok-row.field-0 _ _ _ _ _ c.in_ok-row.ensures.row c.rows.invariant.table c.rows.invariant.runs.ok) ∙ c.in_default.is in
    record { granted = end_granted _ _ _ _ _ _ c.rows.invariant.found end; answer = end_answer _ _ _ _ _ _ c.rows.invariant.found end; err = tt }

pub rows-smaller : goal.rows-smaller
rows-smaller g c =
    fewer_left _ _ _ c.in_ok-row.field-0 c.in-Some.row
    (at_scan c.in_ok-row.field-0 _ _ _ _ _ c.in_ok-row.ensures.row c.rows.invariant.table c.rows.invariant.runs.ok) c.in-Some.is c.in_ok-row.ensures.moved

pub rows-preserved : goal.rows-preserved
rows-preserved g c = record {
  same = same_on _ _ _ _ _ _ c.rows.invariant.same c.in_ok-row.ensures.same;
  runs = run_more _ _ _ _ _ _ tt _ _ _ _ _ _ _ _ c.rows.invariant.runs c.rows.invariant.same c.in_ok-row.ensures.carries;
  table = c.in_ok-row.ensures.table ∙ c.rows.invariant.table;
  found =
      found_on _ _ _ _ _ _ _ _ c.in_ok-row.field-0 c.in-Some.row c.rows.invariant.found
      (at_scan c.in_ok-row.field-0 _ _ _ _ _ c.in_ok-row.ensures.row c.rows.invariant.table c.rows.invariant.runs.ok)
      c.in-Some.is c.in_ok-row.ensures.moved c.in_ok-add_chosen.ensures.granted c.in_ok-add_chosen.ensures.ok;
}

pub returns-in_err-add_chosen-clause-carries : goal.returns-in_err-add_chosen-clause-carries
returns-in_err-add_chosen-clause-carries g c =
    run_refused _ _ _ c.from_residual-in_err-add_chosen.result c.in_err-add_chosen.field-0.0 _ _ _ _ _ _
    (run_on _ _ _ _ _ _ _ _ _ _ _ _ _ _ c.rows.invariant.runs c.rows.invariant.same c.in_ok-row.ensures.carries)
    c.in_err-add_chosen.ensures.err c.from_residual-in_err-add_chosen.ensures.1

pub returns-in_err-row-clause-searches : goal.returns-in_err-row-clause-searches
returns-in_err-row-clause-searches g c =
    let was = goal.Engine-dyn g (object c.args.engine.now) in
    let is = goal.Engine-dyn g (object c.rows.engine) in
    let asked = c.args.asked.now in
    let rows = live_rows asked.table.now (was.state c.args.engine.now.value) in
    let told = ((goal.Storage-dyn g c.args.volume.now).disk c.args.volume.now.1).told in
    let told_mid = ((goal.Storage-dyn g c.rows.volume.now).disk c.rows.volume.now.1).told in
    let refusal = search_refusal asked.columns.now asked.cond.now rows in
    let fault = c.in_err-row.field-0.0 in
    searches_not asked.columns.now asked.names.now asked.cond.now rows (was.kind c.args.engine.now.value).files told c.from_residual.result fault c.from_residual.ensures.1
    (may_as (was.kind c.args.engine.now.value) (is.kind c.rows.engine.value) told told_mid refusal fault c.rows.invariant.same.kind c.rows.invariant.runs.cause.told
    (call_may refusal (is.kind c.rows.engine.value).files told_mid fault c.in_err-row.ensures.answers))

pub returns-in_err-add_chosen-clause-searches : goal.returns-in_err-add_chosen-clause-searches
returns-in_err-add_chosen-clause-searches g c =
    let eng = goal.Engine-dyn g (object c.args.engine.now) in
    let asked = c.args.asked.now in
    let rows = live_rows asked.table.now (eng.state c.args.engine.now.value) in
    let disk = (goal.Storage-dyn g c.args.volume.now).disk c.args.volume.now.1 in
    searches_not asked.columns.now asked.names.now asked.cond.now rows (eng.kind c.args.engine.now.value).files disk.told c.from_residual-in_err-add_chosen.result c.in_err-add_chosen.field-0.0 c.from_residual-in_err-add_chosen.ensures.1
    (refusal_may (search_refusal asked.columns.now asked.cond.now rows) (eng.kind c.args.engine.now.value).files disk.told c.in_err-add_chosen.field-0.0
    (refused_at asked.columns.now asked.cond.now rows c.rows.cursor.position c.in-Some.row c.in_err-add_chosen.field-0.0
    (sym (at_scan c.in_ok-row.field-0 _ _ _ _ _ c.in_ok-row.ensures.row c.rows.invariant.table c.rows.invariant.runs.ok) ∙ c.in-Some.is)
    c.in_err-add_chosen.ensures.err))
