-- What a crash-safe engine's files stand for, and what prepare, commit and rollback make of it. (This project.)
use Rattle.std.specs.Prelude.{ℕ, ◌==◌, List, [], ◌∷◌, ◌++◌, Option, Bool, not, filter, find, is_some}
use Rattle.log_tables.specs.declared.gist.Prepared.{Prepared}
pub use Rattle.log_tables.specs.declared.gist.Gist.{Gist}
use Rattle.log_tables.specs.Changes.{after_changes}

-- an engine with no tables, nothing prepared and no commit
abbrev pub empty_gist : Gist
empty_gist = record { tables = []; prepared = []; last = 0 }

-- the transaction has this xid
abbrev pub has_xid : ℕ → Prepared → Bool
has_xid xid it = it.xid == xid

-- the first prepared transaction with this xid, if there is one
abbrev pub prepared_with : ℕ → List Prepared → Option Prepared
prepared_with xid prepared = find (has_xid xid) prepared

-- some prepared transaction has this xid
abbrev pub is_prepared : ℕ → List Prepared → Bool
is_prepared xid prepared = is_some (prepared_with xid prepared)

-- the prepared transactions with another xid
abbrev pub without_xid : ℕ → List Prepared → List Prepared
without_xid xid prepared = filter (λ it. not (has_xid xid it)) prepared

-- the engine prepared one more transaction
abbrev pub after_prepare : Prepared → Gist → Gist
after_prepare it gist = record { tables = gist.tables; prepared = gist.prepared ++ it ∷ []; last = gist.last }

-- the engine committed this prepared transaction as this number of the log
abbrev pub after_commit : Prepared → ℕ → Gist → Gist
after_commit it number gist = record { tables = after_changes it.changes gist.tables; prepared = without_xid it.xid gist.prepared; last = number }

-- the engine rolled back what it had prepared with this xid
abbrev pub after_rollback : ℕ → Gist → Gist
after_rollback xid gist = record { tables = gist.tables; prepared = without_xid xid gist.prepared; last = gist.last }
