-- The fold of a log, one transaction at a time.
use Rattle.std.proofs.Common.{◌≡◌, ℕ, zero, suc, List, [], ◌∷◌, ◌++◌, Some, None, refl, ap, take}
use Rattle.std.specs.Prelude.{slice_get}
use Rattle.row_format.specs.declared.change.Change.{Change}
use Rattle.row_format.specs.declared.change.Transaction.{Transaction}
use Rattle.log_tables.specs.Tables.{Table, IsDictionary}
use Rattle.log_tables.proofs.PartLemmas.{IsDictionary-after_change}
use Rattle.log_tables.specs.Changes.{after_change, after_changes, after_all, tables_after, installed_changes, installed_all, installed_after}

pub after_changes-append : (cs ds : List Change) (ts : List Table) → after_changes (cs ++ ds) ts ≡ after_changes ds (after_changes cs ts)
after_changes-append [] ds ts = refl
after_changes-append (c ∷ cs) ds ts = after_changes-append cs ds (after_change c ts)

pub after_all-append : (log more : List Transaction) (ts : List Table) → after_all (log ++ more) ts ≡ after_all more (after_all log ts)
after_all-append [] more ts = refl
after_all-append (t ∷ log) more ts = after_all-append log more (after_changes t.changes ts)

-- One more transaction: its changes, on the tables of the log before.
pub tables_after-append : (log : List Transaction) (it : Transaction) → tables_after (log ++ it ∷ []) ≡ after_changes it.changes (tables_after log)
tables_after-append log it = after_all-append log (it ∷ []) []

pub installed_all-append : (log more : List Transaction) (names : List (List ℕ)) → installed_all (log ++ more) names ≡ installed_all more (installed_all log names)
installed_all-append [] more names = refl
installed_all-append (t ∷ log) more names = installed_all-append log more (installed_changes t.changes names)

pub installed_after-append : (log : List Transaction) (it : Transaction) → installed_after (log ++ it ∷ []) ≡ installed_changes it.changes (installed_after log)
installed_after-append log it = installed_all-append log (it ∷ []) _

IsDictionary-after_changes : (cs : List Change) (ts : List Table) → IsDictionary ts → IsDictionary (after_changes cs ts)
IsDictionary-after_changes [] ts d = d
IsDictionary-after_changes (c ∷ cs) ts d = IsDictionary-after_changes cs (after_change c ts) (IsDictionary-after_change c ts d)

IsDictionary-after_all : (log : List Transaction) (ts : List Table) → IsDictionary ts → IsDictionary (after_all log ts)
IsDictionary-after_all [] ts d = d
IsDictionary-after_all (t ∷ log) ts d = IsDictionary-after_all log (after_changes t.changes ts) (IsDictionary-after_changes t.changes ts d)

-- The fold of a log has no name twice.
pub IsDictionary-tables_after : (log : List Transaction) → IsDictionary (tables_after log)
IsDictionary-tables_after log = IsDictionary-after_all log [] tt
