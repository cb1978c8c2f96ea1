use Rattle.std.proofs.Common.{refl}
use Rattle.disk_model.proofs.Replay.{holds_either}
use Rattle.disk_model.proofs.memory.MemoryStorage.try_sync.Goals as goal

pub invariant_of-self : goal.invariant_of-self
invariant_of-self c =
    let it = c.args.self.now in
    let holds = holds_either _ _ _ _ _ _ _ (record { numbered = it.numbered; replays = it.replays; within = it.within }) c.push.ensures.items refl refl refl in
    record { numbered = holds.numbered; few = it.few; replays = holds.replays; within = holds.within }
