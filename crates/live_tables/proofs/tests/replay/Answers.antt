use Rattle.live_tables.proofs.ReplayLemmas.{idle_again}
use Rattle.live_tables.proofs.tests.replay.Goals as goal

pub returns : goal.returns
returns g c =
    idle_again _ c.args.tables.now.state c.load_prepared.new.self.state c.commit_left.new.self.state c.args.number c.requires c.in_ok-load_prepared.ensures.ok c.commit_left.ensures.state
