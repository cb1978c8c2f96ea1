use Rattle.std.proofs.Common.{◌≡◌, drop}
use Rattle.disk_model.specs.Choosing.{is_synced}
use Rattle.disk_model.proofs.images.is_synced_by.Given as goal

abbrev pub invariant-loop-call : goal.invariant-loop-call
invariant-loop-call l = is_synced l.file (drop l.call-index l.calls) ≡ is_synced l.file l.calls
