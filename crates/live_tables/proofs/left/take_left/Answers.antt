use Rattle.std.proofs.Common.{◌∙◌, sym, ap, position}
use Rattle.log_tables.specs.Gists.{has_xid}
use Rattle.live_tables.proofs.OpenLemmas.{found_nowhere, found_there}
use Rattle.live_tables.proofs.LeftLemmas.{without_none, without_one}
use Rattle.live_tables.proofs.left.take_left.Goals as goal

pub returns-in_err-i-clause-found : goal.returns-in_err-i-clause-found
returns-in_err-i-clause-found c =
    let is = c.in_err-i.ensures ∙ ap (position (has_xid c.args.xid)) c.deref.ensures.value in
    c.from_residual.ensures ∙ sym (found_nowhere (has_xid c.args.xid) c.args.left.now.items is)

pub returns-in_err-i-clause-rest : goal.returns-in_err-i-clause-rest
returns-in_err-i-clause-rest c =
    let is = c.in_err-i.ensures ∙ ap (position (has_xid c.args.xid)) c.deref.ensures.value in
    sym (without_none c.args.xid c.args.left.now.items (found_nowhere (has_xid c.args.xid) c.args.left.now.items is))

pub returns-clause-found : goal.returns-clause-found
returns-clause-found c =
    let is = c.in_ok-i.ensures ∙ ap (position (has_xid c.args.xid)) c.deref.ensures.value in
    sym (found_there (has_xid c.args.xid) c.args.left.now.items c.in_ok-i.i c.remove.result is c.remove.ensures.value)

pub returns-clause-rest : goal.returns-clause-rest
returns-clause-rest c =
    let is = c.in_ok-i.ensures ∙ ap (position (has_xid c.args.xid)) c.deref.ensures.value in
    c.remove.ensures.items ∙ without_one c.args.xid c.args.left.now.items c.in_ok-i.i c.remove.result c.requires is
