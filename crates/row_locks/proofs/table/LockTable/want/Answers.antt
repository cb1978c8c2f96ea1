use Rattle.std.proofs.Common.{◌∙◌, sym, ap}
use Rattle.row_locks.specs.Queues.{Locks, among, owners, holder_of}
use Rattle.row_locks.proofs.SoundLemmas.{free_of_holder}
use Rattle.row_locks.proofs.table.LockTable.want.Goals as goal

pub grant-requires : goal.grant-requires
grant-requires c =
    let locks : Locks = record { granted = c.self.inside.granted.items; waits = c.self.inside.waits.items } in
    sym (ap (λ (l : Locks). among c.args.owner (owners l.waits)) c.self.view_is)
    ∙ free_of_holder locks c.args.owner c.self.invariant.0 (ap (λ (l : Locks). holder_of l c.args.owner) c.self.view_is ∙ c.requires)

pub wait-requires-clause-idle : goal.wait-requires-clause-idle
wait-requires-clause-idle c =
    let locks : Locks = record { granted = c.self.inside.granted.items; waits = c.self.inside.waits.items } in
    sym (ap (λ (l : Locks). among c.args.owner (owners l.waits)) c.self.view_is)
    ∙ free_of_holder locks c.args.owner c.self.invariant.0 (ap (λ (l : Locks). holder_of l c.args.owner) c.self.view_is ∙ c.requires)
