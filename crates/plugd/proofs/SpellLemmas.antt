-- What is spelt of a transaction, and how long it is.
use Rattle.std.proofs.Common.{◌≡◌, ℕ, ◌+◌, ◌^◌, ◌<◌, ◌≤◌, List, [], ◌∷◌, ◌++◌, length, sym, ◌∙◌, ap, arith}
use Rattle.std.specs.Prelude.{sum_by}
use Rattle.std.proofs.lemmas.List.Sums.{sum_by-cons}
use Rattle.frame_codec.specs.Frame.{Event, size_of}
use Rattle.frame_codec.specs.Chain.{chain_of, end_of}
use Rattle.row_format.specs.declared.change.Change.{Change}
use Rattle.row_format.specs.declared.change.Transaction.{Transaction}
use Rattle.row_format.specs.Changes.{AreFitChanges}
use Rattle.binlog_events.specs.Transaction.{events_of}
use Rattle.binlog_events.proofs.LenLemmas.{transaction_size}
use Rattle.binlog_file.specs.declared.binlog.Binlog.{Binlog}
use Rattle.binlog_file.specs.Binlog.{Carries}
use Rattle.binlog_file.proofs.LoggedLemmas.{all_events_one}
use Rattle.binlog_file.proofs.CallLemmas.{carried_size}
use Rattle.plugd.specs.Play.{logged_size}

-- changes, as a transaction
abbrev pub of_changes : ℕ → List Change → Transaction
of_changes xid changes = record { xid = xid; changes = changes }

-- where frames end: so many bytes behind their start
ends_behind : (at : ℕ) (events : List Event) → end_of at events ≡ at + sum_by size_of events
ends_behind at [] = omega arith
ends_behind at (event ∷ events) = omega (arith, ends_behind (at + size_of event) events, sum_by-cons size_of event events)

-- where those of a transaction end
pub events_end : (at xid : ℕ) (changes : List Change) (size : ℕ) → ((x : ℕ) → size ≡ sum_by size_of (events_of (of_changes x changes)))
    → (end_of at (events_of (of_changes xid changes)) ≡ at + size) × (size ≡ logged_size changes)
events_end at xid changes size is = (omega (arith, ends_behind at (events_of (of_changes xid changes)), is xid), is 0)

-- the bytes that were spelt are those of the transaction
pub spelt : (log : Binlog) (at prev xid size : ℕ) (changes : List Change) (spelling cleared : List ℕ) → at ≡ log.len → prev ≡ log.crc → xid < 2 ^ 64 → 0 < length changes → AreFitChanges changes
    → ((x : ℕ) → size ≡ sum_by size_of (events_of (of_changes x changes))) → log.len + size ≤ 2147483647 → cleared ≡ []
    → spelling ≡ cleared ++ chain_of prev at (events_of (of_changes xid changes)) → Carries log spelling (of_changes xid changes ∷ [])
spelt log at prev xid size changes spelling cleared at_is prev_is small some fit sized room none is = record {
  fit = (record { xid = small; some = some; changes = fit }, tt);
  spelt = is ∙ ap (λ (c : List ℕ). c ++ chain_of prev at (events_of (of_changes xid changes))) none
      ∙ ap (λ (a : ℕ). chain_of prev a (events_of (of_changes xid changes))) at_is ∙ ap (λ (p : ℕ). chain_of p log.len (events_of (of_changes xid changes))) prev_is
      ∙ ap (chain_of log.crc log.len) (sym (all_events_one (of_changes xid changes)));
  ends = let one = ap (end_of log.len) (all_events_one (of_changes xid changes)) in let end = events_end log.len xid changes size sized in omega (arith, one, end.0, room);
}

-- and so many
pub spelt_size : (log : Binlog) (xid : ℕ) (changes : List Change) (spelling : List ℕ) → Carries log spelling (of_changes xid changes ∷ []) → log.len + length spelling ≡ log.len + logged_size changes
spelt_size log xid changes spelling carries =
    let some = transaction_size xid changes in
    let none = transaction_size 0 changes in
    omega (arith, carried_size log spelling (of_changes xid changes ∷ []) carries, ap (end_of log.len) (all_events_one (of_changes xid changes)), ends_behind log.len (events_of (of_changes xid changes)), some, none)
