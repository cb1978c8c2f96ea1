use Rattle.std.proofs.Common.{ap}
use Rattle.std.specs.Result.{is_err}
use Rattle.journal_engine.proofs.WriteLemmas.{wrote_synced, wrote_failed}
use Rattle.journal_engine.proofs.write.write.Goals as goal

pub returns-in-Ok-sync : goal.returns-in-Ok-sync
returns-in-Ok-sync g c = record {
  writes = wrote_synced _ _ _ _ _ _ _ _ _ (record {
    first = c.append.ensures.first;
    more = c.in-Ok.ensures.journal;
    keeps = c.in-Ok.ensures.ok;
    loses = c.append.ensures.any_moment;
    told = c.append.ensures.device.told;
    later = c.append.ensures.device.later;
    no_fewer = c.append.ensures.device.no_fewer;
  }) c.sync.ensures.same c.in-Ok-sync.ensures.ok c.sync.ensures.any_moment c.sync.ensures.device;
}

pub returns-in-Err : goal.returns-in-Err
returns-in-Err g c = record {
  writes = wrote_failed _ _ _ _ _ _ _ _ (record {
    first = c.append.ensures.first;
    more = c.in-Ok.ensures.journal;
    keeps = c.in-Ok.ensures.ok;
    loses = c.append.ensures.any_moment;
    told = c.append.ensures.device.told;
    later = c.append.ensures.device.later;
    no_fewer = c.append.ensures.device.no_fewer;
  }) c.sync.ensures.same c.sync.ensures.any_moment c.sync.ensures.device (ap is_err c.in-Err.is);
}
