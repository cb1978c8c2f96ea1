use Rattle.binlog_events.proofs.WriteLemmas.{chains_none}
use Rattle.binlog_events.proofs.log.put_map_event.Goals as goal

pub returns-in-None : goal.returns-in-None
returns-in-None c = record { chains = rw c.in-None.is (chains_none c.args.start c.args.out.now.items) }
