-- A transaction has bytes of its own, and more for each change.
use Rattle.std.proofs.Common.{◌≡◌, ◌<◌, ◌≤◌, ◌+◌, ◌-◌, ◌==◌, ℕ, List, [], ◌∷◌, length, Bool, true, false, None, Some, arith, ap}
use Rattle.std.specs.Prelude.{sum_by, cond}
use Rattle.std.proofs.lemmas.Bool.{lt-leb}
use Rattle.std.proofs.lemmas.List.Sums.{sum_by-cons}
use Rattle.sql_value.specs.declared.refusal.Refusal.TheVariants.{TransactionTooLarge}
use Rattle.row_format.specs.declared.change.Change.{Change}
use Rattle.frame_codec.specs.Frame.{Event, size_of}
use Rattle.binlog_events.specs.Changes.{change_events}
use Rattle.binlog_events.proofs.LenLemmas.{transaction_size, changes_fewer}
use Rattle.sql_plan.specs.Plans.{unless}
use Rattle.sql_effect.specs.Sizes.{logged_bytes, bytes_with, transaction_limit, size_refusal}

events_fewer : (events : List Event) → length events ≤ sum_by size_of events
events_fewer [] = omega arith
events_fewer (it ∷ rest) = omega (arith, sum_by-cons size_of it rest, events_fewer rest)

-- 55 bytes for begin and end, and at least one for each change
pub more_bytes : (changes : List Change) → 55 + length changes ≤ logged_bytes changes
more_bytes changes = omega (arith, transaction_size 0 changes, changes_fewer None changes, events_fewer (change_events None changes))

more_with : (b : Bool) (before logged n : ℕ) → 55 + n ≤ logged → n ≤ cond b logged (before + logged - 55)
more_with true before logged n more = omega arith
more_with false before logged n more = omega arith

-- more changes than bytes are allowed
pub many_changes : (before : ℕ) (changes : List Change) → 1048576 < length changes → size_refusal before changes ≡ Some TransactionTooLarge
many_changes before changes many =
    let more : length changes ≤ bytes_with before changes = more_with (before == 0) before (logged_bytes changes) (length changes) (more_bytes changes) in
    ap (λ b. unless b TransactionTooLarge) (lt-leb (bytes_with before changes) transaction_limit (omega arith))
