use Rattle.live_tables.proofs.ShrinkLemmas.{within_counted}
use Rattle.live_tables.proofs.gone.is_within.Goals as goal

pub returns-then-counted-le-LIVE_LIMIT : goal.returns-then-counted-le-LIVE_LIMIT
returns-then-counted-le-LIVE_LIMIT c = within_counted c.args.pending.now c.args.change.now c.args.tables.now c.args.counted c.requires c.if-counted-le-LIVE_LIMIT.true
