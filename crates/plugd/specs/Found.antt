-- What an opening has found in a log. (This project.)
use Rattle.std.specs.Prelude.{List, All}
use Rattle.row_format.specs.declared.change.Transaction.{Transaction}
use Rattle.row_format.specs.Changes.{AreFitChanges}
use Rattle.dictionary.specs.Dictionary.{Tells, changes_of}
use Rattle.xid_recovery.specs.Pairs.{ArePairsOf}
use Rattle.plugd.specs.declared.found.Found.{Found}
use Rattle.plugd.specs.Xids.{xids_of}
use Rattle.plugd.specs.XidSet.{Knows}

-- these transactions were found, which can be spelt: their xids, each with its number, and a dictionary of all their changes
pub record IsFound (log : List Transaction) (found : Found) : Type 0 where
  pub fit : All (λ it. AreFitChanges it.changes) log
  pub knows : Knows found.xids (xids_of log)
  pub pairs : ArePairsOf log found.pairs.items
  pub dictionary : Tells (changes_of log) found.dictionary
