-- One transaction into the log, and its acknowledgement.
use Rattle.std.proofs.Common.{◌≡◌, ℕ, ◌<◌, ◌≤◌, List, [], ◌∷◌, ◌++◌, length, take, Result, Ok, Err, OnErr, is_ok, cond, sym, ◌∙◌, ap, subst, arith}
use Rattle.std.proofs.lemmas.List.{take_all, take-append-le}
use Rattle.disk_model.specs.Disk.{Disk, now, Keeps, Only}
use Rattle.disk_model.proofs.Moments.{both, weaker}
use Rattle.binlog_file.specs.declared.binlog.Binlog.{Binlog}
use Rattle.row_format.specs.declared.change.Transaction.{Transaction}
use Rattle.binlog_file.specs.Logged.{Holds}
use Rattle.binlog_file.specs.Binlog.{durable_of, Carries}
use Rattle.plugd.specs.LogOne.{IsDurable}

-- all that was appended before is durable
pub durable_low : (log : Binlog) (list : List Transaction) (d : Disk) → IsDurable log list d → take (durable_of log) list ≡ list
durable_low log list d is = take_all (durable_of log) list (let f = (is.is_log).flushed in omega (arith, is.durable, f))

pub first_moments : (old new : Disk) (log : Binlog) (list : List Transaction) (t : Transaction) → IsDurable log list old
    → Keeps old new (Only 0 (now old) (Holds (take (durable_of log) list) (list ++ t ∷ []))) → Keeps old new (Only 0 (now old) (Holds list (list ++ t ∷ [])))
first_moments old new log list t is run = subst (λ (l : List Transaction). Keeps old new (Only 0 (now old) (Holds l (list ++ t ∷ [])))) (durable_low log list old is) run

pub both_moments : (old mid new : Disk) (log log₂ : Binlog) (list : List Transaction) (t : Transaction) → IsDurable log list old → durable_of log₂ ≡ durable_of log
    → Keeps old mid (Only 0 (now old) (Holds (take (durable_of log) list) (list ++ t ∷ [])))
    → Keeps mid new (Only 0 (now mid) (Holds (take (durable_of log₂) (list ++ t ∷ [])) (list ++ t ∷ []))) → Keeps old new (Only 0 (now old) (Holds list (list ++ t ∷ [])))
both_moments old mid new log log₂ list t is same first second =
    let P = Only 0 (now old) (Holds list (list ++ t ∷ [])) in
    let begun = first_moments old mid log list t is first in
    let few : durable_of log ≤ length list = (is.is_log).durable in
    let low : take (durable_of log₂) (list ++ t ∷ []) ≡ list =
    ap (λ (n : ℕ). take n (list ++ t ∷ [])) same ∙ take-append-le (durable_of log) list (t ∷ []) few ∙ durable_low log list old is in
    both old mid new P begun
    (weaker mid new (Only 0 (now mid) (Holds (take (durable_of log₂) (list ++ t ∷ [])) (list ++ t ∷ []))) P
    (λ files p. (
      λ f not. p.0 f not ∙ (begun.each mid.calls begun.later (omega arith)).0 f not,
      subst (λ (l : List Transaction). Holds l (list ++ t ∷ []) (files 0)) low p.1,
    )) second)

-- a push where there was room
pub pushed : {T A : Type 0} {E : Type 0} (r : Result A E) (new one : List T) (old : List T) (len cap : ℕ) → OnErr r (cap ≤ len) → len < cap → new ≡ cond (is_ok r) (old ++ one) old → new ≡ old ++ one
pushed (Ok v) new one old len cap full room is = is
pushed (Err e) new one old len cap full room is = absurd (omega (arith, full, room))

-- the same bytes
pub carried_by : (log : Binlog) (xs ys : List ℕ) (list : List Transaction) → xs ≡ ys → Carries log ys list → Carries log xs list
carried_by log xs ys list same carries = subst (λ (l : List ℕ). Carries log l list) (sym same) carries
