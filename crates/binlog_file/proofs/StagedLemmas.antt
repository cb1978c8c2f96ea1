-- An opening's change of the log file: sync, one step, sync.
use Rattle.std.proofs.Common.{◌≡◌, ℕ, ◌<◌, ◌≤◌, Bool, true, false, List, ◌∷◌, ◌++◌, length, take, drop, Result, Ok, Err, OnOk, IsErr, IsTrue, refl, sym, ◌∙◌, ap, subst, arith, length-append, take-append-drop}
use Rattle.std.proofs.lemmas.List.{take_all, take_at, drop_all, append-nil}
use Rattle.std.specs.Bool.{Decides}
use Rattle.disk_model.specs.declared.storage.Failed.{Failed}
use Rattle.disk_model.specs.File.{File, Step, Wrote, CutTo, after_step, Writes, Cuts, Syncs}
use Rattle.disk_model.specs.Start.{settled}
use Rattle.disk_model.specs.Disk.{Disk, now, contents, Called, Fills}
use Rattle.disk_model.specs.Staged.{IsOnWay, Changes}
use Rattle.disk_model.proofs.Moments.{still_told, done_ok}
use Rattle.disk_model.proofs.StagedLemmas.{way_synced, settled_first, way_stepped, Stepped, changes_last, err_ok, rose_on}
use Rattle.framed_file.specs.Framed.{IsPrefix}
use Rattle.binlog_file.specs.Logged.{log_header}
use Rattle.binlog_file.proofs.LoggedLemmas.{length-log_header, header_bytes, log_header_is}

-- The exits of a change.

pub changes_first : (step : Step) (start new : Disk) (e : Failed) (result : Result Unit Failed) → IsErr result → Called {T = Unit} 0 (Syncs (Err e)) (Err e) start new → Changes 0 step result start new
changes_first step start new e result is_err called = record {
  way = way_synced 0 step start new (Err e) called;
  cause = λ is. called.cause refl;
  ok = λ told. err_ok result _ is_err;
}

-- a step after the first sync notes itself
abbrev Notes : Step → (File → File → Type 0) → Type 0
Notes step S = (was file : File) → S was file → (file.synced ≡ was.synced) × (file.steps ≡ step ∷ was.steps)

module _ (step : Step) (start mid : Disk) (v : Unit) (first : Called {T = Unit} 0 (Syncs (Ok v)) (Ok v) start mid) where
  step_way : (new : Disk) (S : File → File → Type 0) (result : Result Unit Failed) → Notes step S → Called 0 S result mid new → IsOnWay 0 step start new
  step_way new S result notes called =
      way_stepped 0 step start mid new S result (way_synced 0 step start mid (Ok v) first) (λ told. settled_first 0 step start mid v told first) called notes

  step_failed : (new : Disk) (S : File → File → Type 0) (e : Failed) (result : Result Unit Failed) → Notes step S → IsErr result → Called {T = Unit} 0 S (Err e) mid new → Changes 0 step result start new
  step_failed new S e result notes is_err called = record {
    way = step_way new S (Err e) notes called;
    cause = λ is. rose_on start.faults mid.faults new.faults first.no_fewer (called.cause refl);
    ok = λ told. err_ok result _ is_err;
  }

  step_synced : (old new : Disk) (S : File → File → Type 0) (w : Unit) (result : Result Unit Failed) → Notes step S → ((was file : File) → S was file → file.bytes ≡ after_step step was.bytes)
      → Called {T = Unit} 0 S (Ok w) mid old → Called 0 (Syncs result) result old new → Changes 0 step result start new
  step_synced old new S w result notes whole second called = changes_last 0 step start old new result (step_way old S (Ok w) notes second) stepped called
    where
      stepped : Stepped 0 step start old
      stepped told =
          let did = done_ok mid old 0 S w (still_told start mid 0 (Syncs (Ok v)) (Ok v) told first) second in
          let is = settled_first 0 step start mid v told first in
          let noted = notes (now mid 0) (now old 0) did in (
            whole (now mid 0) (now old 0) did ∙ ap (λ (f : File). after_step step f.bytes) is,
            noted.0 ∙ ap (λ (f : File). f.synced) is,
            noted.1 ∙ ap (λ (f : File). step ∷ f.steps) is,
          )

cut_notes : (len : ℕ) (result : Result Unit Failed) → Notes (CutTo len) (Cuts len result)
cut_notes len result was file did = (did.synced, did.steps)

write_notes : (bytes : List ℕ) (result : Result Unit Failed) → Notes (Wrote 0 bytes) (Writes 0 bytes result)
write_notes bytes result was file did = (did.synced, did.steps)

pub changes_cut : (start mid new : Disk) (len : ℕ) (v : Unit) (e : Failed) (result : Result Unit Failed) → IsErr result → Called {T = Unit} 0 (Syncs (Ok v)) (Ok v) start mid
    → Called {T = Unit} 0 (Cuts len (Err e)) (Err e) mid new → Changes 0 (CutTo len) result start new
changes_cut start mid new len v e result is_err first called = step_failed (CutTo len) start mid v first new (Cuts len (Err e)) e result (cut_notes len (Err e)) is_err called

pub changes_write : (start mid new : Disk) (bytes : List ℕ) (v : Unit) (e : Failed) (result : Result Unit Failed) → IsErr result → Called {T = Unit} 0 (Syncs (Ok v)) (Ok v) start mid
    → Called {T = Unit} 0 (Writes 0 bytes (Err e)) (Err e) mid new → Changes 0 (Wrote 0 bytes) result start new
changes_write start mid new bytes v e result is_err first called = step_failed (Wrote 0 bytes) start mid v first new (Writes 0 bytes (Err e)) e result (write_notes bytes (Err e)) is_err called

pub changes_cut_end : (start mid old new : Disk) (len : ℕ) (v w : Unit) (result : Result Unit Failed) → Called {T = Unit} 0 (Syncs (Ok v)) (Ok v) start mid
    → Called {T = Unit} 0 (Cuts len (Ok w)) (Ok w) mid old → Called 0 (Syncs result) result old new → Changes 0 (CutTo len) result start new
changes_cut_end start mid old new len v w result first second called =
    step_synced (CutTo len) start mid v first old new (Cuts len (Ok w)) w result (cut_notes len (Ok w)) (λ was file did. did.ok) second called

pub changes_write_end : (start mid old new : Disk) (bytes : List ℕ) (v w : Unit) (result : Result Unit Failed) → Called {T = Unit} 0 (Syncs (Ok v)) (Ok v) start mid
    → Called {T = Unit} 0 (Writes 0 bytes (Ok w)) (Ok w) mid old → Called 0 (Syncs result) result old new → Changes 0 (Wrote 0 bytes) result start new
changes_write_end start mid old new bytes v w result first second called =
    step_synced (Wrote 0 bytes) start mid v first old new (Writes 0 bytes (Ok w)) w result (write_notes bytes (Ok w)) (λ was file did. did.ok) second called

-- nothing stands behind the length: a sync alone
pub changes_none : (start new : Disk) (len size : ℕ) (result : Result Unit Failed) → size ≤ len → (IsTrue start.told → size ≡ length (contents start 0)) → Called 0 (Syncs result) result start new
    → Changes 0 (CutTo len) result start new
changes_none start new len size result le size_is called = record {
  way = way_synced 0 (CutTo len) start new result called;
  cause = called.cause;
  ok = λ told. ends result called told;
}
  where
    ends : (r : Result Unit Failed) → Called 0 (Syncs r) r start new → IsTrue start.told → OnOk r (now new 0 ≡ settled (take len (contents start 0)))
    ends (Ok v) made told = settled_first 0 (CutTo len) start new v told made ∙ ap (λ (l : List ℕ). settled l) (sym (take_all len (contents start 0) (omega (arith, size_is told, le))))
    ends (Err e) made told = tt

-- the header as the code has it
pub changes_header : (result : Result Unit Failed) (start end : Disk) → Changes 0 (Wrote 0 header_bytes) result start end → Changes 0 (Wrote 0 log_header) result start end
changes_header result start end is = subst (λ (l : List ℕ). Changes 0 (Wrote 0 l) result start end) (sym log_header_is) is

-- what the first 32 bytes tell

pub no_header : (all old new : List ℕ) (n : ℕ) → Fills all 0 old n new → length old ≡ 32 → n < 32 → (false ≡ true → IsPrefix log_header all) × (IsPrefix log_header all → false ≡ true)
no_header all old new n fills size short = (
  λ no. cc,
  λ is. absurd (omega (arith, fills.count, size, short, ap length is.1, length-append log_header is.0, length-log_header)),
)

pub a_header : (all old new : List ℕ) (n : ℕ) (r : Bool) → Fills all 0 old n new → length old ≡ 32 → 32 ≤ n → Decides r (new ≡ header_bytes)
    → (r ≡ true → IsPrefix log_header all) × (IsPrefix log_header all → r ≡ true)
a_header all old new n r fills size long decides = (
  λ yes. (drop 32 all, sym (take-append-drop 32 all) ∙ ap (λ (l : List ℕ). l ++ drop 32 all) (sym front_is ∙ decides.0 yes ∙ sym log_header_is)),
  λ is. decides.1 (front_is ∙ ap (λ (l : List ℕ). take 32 l) is.1 ∙ take_at log_header is.0 32 length-log_header ∙ log_header_is),
)
  where
    count : n ≡ 32
    count = omega (arith, fills.count, size, long)

    front_is : new ≡ take 32 all
    front_is =
        fills.bytes_are ∙ ap (λ (k : ℕ). take k all ++ drop k old) count ∙ ap (λ (l : List ℕ). take 32 all ++ l) (drop_all 32 old (omega (arith, size))) ∙ append-nil (take 32 all)
