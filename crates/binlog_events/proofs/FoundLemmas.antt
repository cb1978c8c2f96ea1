-- What the public reader of a list says: what stands at the front and how many bytes it has, or that nothing stands there.
use Rattle.std.proofs.Common.{◌≡◌, ℕ, ◌-◌, ◌≤◌, List, length, Some, None}
use Rattle.row_format.specs.declared.change.Change.{Change}
use Rattle.row_format.specs.Spelling.{Begins}
use Rattle.binlog_events.specs.Items.{list_spelling, AreListed, NoList}
use Rattle.binlog_events.specs.Walking.{list_at}
use Rattle.row_format.proofs.PieceLemmas.{IsBytes}
use Rattle.row_format.proofs.FoundLemmas.{took_within, begins, nothing_read}
use Rattle.binlog_events.proofs.ListLemmas.{list_takes, list_again}

pub list_within : (bytes : List ℕ) (changes : List Change) (rest : List ℕ) → IsBytes bytes → list_at bytes ≡ Some (changes, rest) → length rest ≤ length bytes
list_within bytes changes rest fits is = took_within bytes (list_spelling changes) rest (list_takes bytes (changes, rest) fits is).0

pub list_found : (bytes : List ℕ) (changes : List Change) (rest : List ℕ) (count : ℕ) → IsBytes bytes → list_at bytes ≡ Some (changes, rest) → count ≡ length bytes - length rest
    → AreListed changes × Begins bytes (list_spelling changes) count
list_found bytes changes rest count fits is at =
    let took = list_takes bytes (changes, rest) fits is in
    (took.1, begins bytes (list_spelling changes) rest count took.0 at)

pub no_list : (bytes : List ℕ) → list_at bytes ≡ None → NoList bytes
no_list bytes none changes rest is takes = nothing_read list_at bytes (list_spelling changes) rest (changes, rest) none takes (list_again changes rest is)
