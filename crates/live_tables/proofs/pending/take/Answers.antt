use Rattle.std.proofs.Common.{◌∙◌, position, sym, ap}
use Rattle.engine_api.specs.States.{is_by}
use Rattle.live_tables.proofs.OpenLemmas.{found_nowhere, found_there, without_nothing, without_place}
use Rattle.live_tables.proofs.pending.take.Goals as goal

pub returns-in_err-i-clause-found : goal.returns-in_err-i-clause-found
returns-in_err-i-clause-found c =
    let is = c.in_err-i.ensures ∙ ap (position (is_by c.args.txn)) c.deref.ensures.value in
    c.from_residual.ensures ∙ sym (found_nowhere (is_by c.args.txn) c.args.pending.now.items is)

pub returns-in_err-i-clause-rest : goal.returns-in_err-i-clause-rest
returns-in_err-i-clause-rest c =
    let is = c.in_err-i.ensures ∙ ap (position (is_by c.args.txn)) c.deref.ensures.value in
    sym (without_nothing c.args.txn c.args.pending.now.items (found_nowhere (is_by c.args.txn) c.args.pending.now.items is))

pub returns-clause-found : goal.returns-clause-found
returns-clause-found c =
    let is = c.in_ok-i.ensures ∙ ap (position (is_by c.args.txn)) c.deref.ensures.value in
    sym (found_there (is_by c.args.txn) c.args.pending.now.items c.in_ok-i.i c.remove.result is c.remove.ensures.value)

pub returns-clause-rest : goal.returns-clause-rest
returns-clause-rest c =
    let is = c.in_ok-i.ensures ∙ ap (position (is_by c.args.txn)) c.deref.ensures.value in
    c.remove.ensures.items ∙ without_place c.args.txn c.args.pending.now.items c.in_ok-i.i c.remove.result c.requires is
