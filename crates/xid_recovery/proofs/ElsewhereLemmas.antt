-- An engine whose files are as they were.
use Rattle.std.proofs.Common.{◌≡◌, List, subst}
use Rattle.disk_model.specs.Disk.{Disk}
use Rattle.row_format.specs.declared.change.Transaction.{Transaction}
use Rattle.engine_api.specs.States.{Kind}
use Rattle.engine_api.specs.Reads.{Reading, AreAtStart, files_in}
use Rattle.xid_recovery.specs.Recovers.{IsRecoverableIn}

pub elsewhere : (kind : Kind) (reading : Reading) (log : List Transaction) (old new : Disk) → files_in kind.files new ≡ files_in kind.files old → IsRecoverableIn kind reading log old → IsRecoverableIn kind reading log new
elsewhere kind reading log old new same from = record { images = λ images at. from.images images (subst (λ files. AreAtStart reading 0 files images) same at) }
