-- One transaction behind a log, for the tests.
use Rattle.std.proofs.Common.{◌≡◌, ℕ, ◌+◌, ◌-◌, ◌≤◌, List, [], ◌∷◌, ◌++◌, length, IsTrue, refl, sym, ◌∙◌, ap, subst, arith}
use Rattle.std.specs.Prelude.{sum_by}
use Rattle.std.proofs.lemmas.List.Sums.{sum_by-cons}
use Rattle.disk_model.specs.Disk.{Disk, now}
use Rattle.frame_codec.specs.Frame.{Event, size_of, limit}
use Rattle.frame_codec.specs.Chain.{chain_of, end_of, EndsWithin}
use Rattle.row_format.specs.declared.change.Transaction.{Transaction}
use Rattle.binlog_events.specs.Transaction.{events_of, IsFit}
use Rattle.binlog_file.specs.declared.binlog.Binlog.{Binlog}
use Rattle.binlog_file.specs.Binlog.{IsLog, IsOpen, Carries}
use Rattle.binlog_file.proofs.LoggedLemmas.{all_events_one}

-- events end behind their bytes
pub end_is_sum : (at : ℕ) (events : List Event) → end_of at events ≡ at + sum_by size_of events
end_is_sum at [] = omega arith
end_is_sum at (event ∷ events) = omega (arith, end_is_sum (at + size_of event) events, sum_by-cons size_of event events)

-- where there is room for so many bytes, the transaction ends within the limit
pub has_room : (log : Binlog) (t : Transaction) (room len : ℕ) → room ≡ 2147483647 - log.len → log.len ≤ limit → len ≤ room → len ≡ sum_by size_of (events_of t) → EndsWithin log.len (events_of t)
has_room log t room len room_is within fits len_is = omega (arith, room_is, within, fits, len_is, end_is_sum log.len (events_of t))

-- the bytes of one transaction, chained to the end of the log, are what an append takes
pub one_carried : (log : Binlog) (t : Transaction) (bytes : List ℕ) → IsFit t → EndsWithin log.len (events_of t) → bytes ≡ chain_of log.crc log.len (events_of t) → Carries log bytes (t ∷ [])
one_carried log t bytes fit ends is = record {
  fit = (fit, tt);
  spelt = is ∙ ap (λ (l : List Event). chain_of log.crc log.len l) (sym (all_events_one t));
  ends = subst (λ (l : List Event). EndsWithin log.len l) (sym (all_events_one t)) ends;
}

-- a log to which one transaction was appended is open
pub still_open : (old new : Disk) (log log' : Binlog) (t : Transaction) (bytes : List ℕ) → new.told ≡ old.told → IsOpen log old → Carries log bytes (t ∷ [])
    → ((list more : List Transaction) → IsTrue old.told → 1 ≡ length more → Carries log bytes more → IsLog log list (now old 0) → IsLog log' (list ++ more) (now new 0)) → IsOpen log' new
still_open old new log log' t bytes told is_open carries ok = record {
  stands = λ is.
      let was = is_open.stands (subst IsTrue told is) in
      (was.0 ++ t ∷ [], ok was.0 (t ∷ []) (subst IsTrue told is) refl carries was.1);
}
