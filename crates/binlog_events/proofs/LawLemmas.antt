-- One spelling of a list, and none a proper first part of another.
use Rattle.std.proofs.Common.{◌≡◌, ℕ, List, ◌++◌}
use Rattle.row_format.specs.declared.change.Change.{Change}
use Rattle.binlog_events.specs.Items.{list_spelling, AreListed}
use Rattle.binlog_events.specs.Walking.{list_at}
use Rattle.row_format.proofs.LawLemmas.{read_once}
use Rattle.binlog_events.proofs.ListLemmas.{list_again}

pub one_list : (c d : List Change) (x y : List ℕ) → AreListed c → AreListed d → list_spelling c ++ x ≡ list_spelling d ++ y → (c ≡ d) × (x ≡ y)
one_list c d x y fits_c fits_d is = read_once list_at list_spelling c d x y (list_again c x fits_c) (list_again d y fits_d) is
