use Rattle.std.proofs.Common.{◌∙◌, sym, ap}
use Rattle.binlog_events.specs.declared.walk.Told.{Told}
use Rattle.binlog_events.specs.Walking.{item_of, behind, last_map}
use Rattle.binlog_events.proofs.ItemFrontLemmas.{last_map-push}
use Rattle.binlog_events.proofs.walk.keep.Goals as goal

pub returns-in_ok-push-in-Made-clause-before : goal.returns-in_ok-push-in-Made-clause-before
returns-in_ok-push-in-Made-clause-before c =
    ap behind (ap last_map c.in_ok-push-in-Made.ensures.items ∙ last_map-push c.args.changes.now.items c.in-Made.change)
    ∙ sym (ap (λ (t : Told). (item_of t).before) c.in-Made.is)
