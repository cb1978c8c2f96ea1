-- What the transactions have pending and what an earlier run left prepared, as they are kept. (This project.)
use Rattle.std.specs.Prelude.{◌≡◌, List, [], ◌∷◌, Option, None, false, flat_map, filter_map, option_map}
use Rattle.row_format.specs.declared.change.Change.{Change}
use Rattle.log_tables.specs.declared.gist.Prepared.{Prepared}
use Rattle.log_tables.specs.Gists.{is_prepared}
use Rattle.engine_api.specs.States.{Pending, pending_of, changes_in}
use Rattle.live_tables.specs.Folds.{Apart}

-- no transaction stands in the list twice
abbrev pub AreDistinct : List Pending → Type 0
AreDistinct [] = Unit {0}
AreDistinct (it ∷ rest) = (pending_of it.txn rest ≡ None) × AreDistinct rest

-- no change of one of these transactions meets one of another
abbrev pub AllApart : List Pending → Type 0
AllApart [] = Unit {0}
AllApart (it ∷ rest) = Apart it.changes (changes_in rest) × AllApart rest

-- the changes of all that is prepared
abbrev pub changes_left : List Prepared → List Change
changes_left left = flat_map (λ it. it.changes) left

-- what a transaction has prepared in this run, if it has
abbrev pub share_of : Pending → Option Prepared
share_of it = option_map (λ xid. record { xid = xid; changes = it.changes }) it.under

-- what the transactions have prepared in this run
abbrev pub shares : List Pending → List Prepared
shares pending = filter_map share_of pending

-- no xid is prepared twice
abbrev pub HaveOwnXids : List Prepared → Type 0
HaveOwnXids [] = Unit {0}
HaveOwnXids (it ∷ rest) = (is_prepared it.xid rest ≡ false) × HaveOwnXids rest
