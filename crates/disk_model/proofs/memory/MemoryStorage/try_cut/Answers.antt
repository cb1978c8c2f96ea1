use Rattle.std.proofs.Common.{refl}
use Rattle.disk_model.proofs.Replay.{holds_more}
use Rattle.disk_model.proofs.memory.MemoryStorage.try_cut.Goals as goal

pub invariant_of-self-2 : goal.invariant_of-self-2
invariant_of-self-2 c =
    let it = c.args.self.now in
    let holds = holds_more _ _ _ _ _ _ _ (record { numbered = it.numbered; replays = it.replays; within = it.within }) c.in_ok-push.ensures.items refl refl c.cut.ensures in
    record { numbered = holds.numbered; few = it.few; replays = holds.replays; within = holds.within }
