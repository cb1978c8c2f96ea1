-- What a source and a sink in memory are, and what one call of each does, to the byte. (This project.)
use Rattle.std.specs.Prelude.{◌≡◌, ◌+◌, ◌==◌, ◌++◌, ◌⊎◌, ℕ, Bool, List, Result, IsErr, OnOk, OnErr, IfOk, IsTrue, is_err, min, length, take, drop, cond}
use Rattle.std.specs.List.{list_any}
use Rattle.fault_counts.specs.Rose.{last}
use Rattle.outer_io.specs.declared.ends.Failed.{Failed}

-- a source in memory: what is left, how much one read gives at most, which reads fail, and how many there were and failed
pub record Reading : Type 0 where
  pub left : List ℕ
  pub piece : ℕ
  pub failing : List ℕ
  pub calls : ℕ
  pub faults : ℕ

-- a sink in memory: what it holds, which writes fail, how many there were and failed, and how many of them found no memory
pub record Writing : Type 0 where
  pub held : List ℕ
  pub failing : List ℕ
  pub calls : ℕ
  pub faults : ℕ
  pub starved : ℕ

-- the count after one more, which stands still at the last value
abbrev pub counted : ℕ → ℕ
counted n = min (n + 1) last

-- whether the call of this number is to fail
abbrev pub is_to_fail : List ℕ → ℕ → Bool
is_to_fail failing number = list_any (λ y. y == number) failing

-- One read: it fails exactly where its number is to fail, and then gives nothing. Every other read gives the next bytes in
-- order, as many as the least of a piece, the buffer's length and what is left.
pub record Reads (result : Result ℕ Failed) (buf_old buf_new : List ℕ) (old new : Reading) : Type 0 where
  pub fails : is_err result ≡ is_to_fail old.failing new.calls
  pub count : IfOk result (λ n. n ≡ min old.piece (min (length buf_old) (length old.left)))
  pub bytes : IfOk result (λ n. buf_new ≡ take n old.left ++ drop n buf_old)
  pub left : IfOk result (λ n. new.left ≡ drop n old.left)
  pub nothing : OnErr result (new.left ≡ old.left)
  pub untouched : OnErr result (buf_new ≡ buf_old)
  pub piece : new.piece ≡ old.piece
  pub failing : new.failing ≡ old.failing
  pub calls : new.calls ≡ counted old.calls
  pub faults : new.faults ≡ cond (is_err result) (counted old.faults) old.faults

-- One write: it fails exactly where its number is to fail, or where it found no memory and the count of that rose. Every
-- other write takes all bytes.
pub record Writes (result : Result ℕ Failed) (bytes : List ℕ) (old new : Writing) : Type 0 where
  pub fails : IsTrue (is_to_fail old.failing new.calls) → IsErr result
  pub cause : IsErr result → IsTrue (is_to_fail old.failing new.calls) ⊎ (new.starved ≡ counted old.starved)
  pub fed : OnOk result (new.starved ≡ old.starved)
  pub fed_still : IsTrue (is_to_fail old.failing new.calls) → new.starved ≡ old.starved
  pub count : IfOk result (λ n. n ≡ length bytes)
  pub held : OnOk result (new.held ≡ old.held ++ bytes)
  pub nothing : OnErr result (new.held ≡ old.held)
  pub failing : new.failing ≡ old.failing
  pub calls : new.calls ≡ counted old.calls
  pub faults : new.faults ≡ cond (is_err result) (counted old.faults) old.faults
