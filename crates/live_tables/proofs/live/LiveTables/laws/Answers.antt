use Rattle.std.proofs.Common.{ap}
use Rattle.live_tables.specs.Live.{Live}
use Rattle.live_tables.proofs.StateLemmas.{kept_alone, own_apply, stands_prepared}
use Rattle.live_tables.proofs.live.LiveTables.laws.Goals as goal

pub returns : goal.returns
returns c =
    let it = c.self.inside in
    let is = ap (λ (l : Live). l.state) c.self.view_is in record {
      kept = kept_alone it.tables.items it.done.items it.left.items it.pending.items it.last c.args.self.now.state is;
      applies = own_apply it.tables.items it.done.items it.left.items it.pending.items it.last c.args.self.now.state is c.self.invariant.0;
      prepared = stands_prepared it.tables.items it.done.items it.left.items it.pending.items it.last c.args.self.now.state is c.self.invariant.0;
    }
