use Rattle.std.proofs.Common.{◌∙◌, sym}
use Rattle.binlog_events.proofs.WalkLemmas.{query_item_is}
use Rattle.binlog_events.proofs.walk.take_query_item.Goals as goal

pub returns : goal.returns
returns c last =
    query_item_is c.args.waiting last c.args.bytes.now c.in_ok-change.change c.in_ok-change.rest.now
    (sym c.is_some.ensures ∙ c.if-is_some.false) c.in_ok-change.ensures.value c.in_ok-change.ensures.map
