-- A record written and synced.
use Rattle.std.proofs.Common.{◌≡◌, ℕ, ◌≤◌, [], true, Result, Ok, Err, IsTrue, refl, sym, ap, subst, ◌∙◌, arith}
use Rattle.std.specs.Prelude.{IsErr}
use Rattle.disk_model.specs.declared.storage.Failed.{Failed}
use Rattle.disk_model.specs.File.{File}
use Rattle.disk_model.specs.Disk.{Disk, now, Keeps, HasCause}
use Rattle.disk_model.proofs.Moments.{both, weaker}
use Rattle.redo_journal.specs.declared.record.Record.{Record}
use Rattle.redo_journal.specs.declared.journal.Journal.{Journal}
use Rattle.redo_journal.specs.Journals.{Holds, OnlyBoth, first_file_of}
use Rattle.redo_journal.specs.Appending.{with_one, StandsForMore, KeepsMore, KeepsSynced, LosesNone, LosesNoneBehind}
use Rattle.engine_api.specs.declared.fault.EngineFault.{EngineFault}
use Rattle.engine_api.specs.declared.fault.EngineFault.TheVariants.{Device}
use Rattle.engine_api.specs.Calls.{MayCome}
use Rattle.journal_engine.specs.Writing.{Writes}

-- two runs on the files of a journal
pub both_hold : (a b c : Disk) (first then_first : ℕ) (P : File → File → Type 0) → then_first ≡ first → Keeps a b (OnlyBoth first (now a) P) → Keeps b c (OnlyBoth then_first (now b) P) → Keeps a c (OnlyBoth first (now a) P)
both_hold a b c first then_first P same one other =
    let before = (one.each b.calls one.later (omega arith)).0 in
    both a b c (OnlyBoth first (now a) P) one
    (weaker b c (OnlyBoth first (now b) P) (OnlyBoth first (now a) P) (λ files p. (λ f n m. p.0 f n m ∙ before f n m, p.1))
    (subst (λ (n : ℕ). Keeps b c (OnlyBoth n (now b) P)) same other))

-- the record was written
pub record Wrote (it : Record) (old mid : Journal) (a b : Disk) : Type 0 where
  pub first : first_file_of mid ≡ first_file_of old
  pub more : StandsForMore it old mid
  pub keeps : KeepsMore it old a mid b
  pub loses : LosesNoneBehind it old a b
  pub told : b.told ≡ a.told
  pub later : a.calls ≤ b.calls
  pub no_fewer : a.faults ≤ b.faults

moments : (it : Record) (old mid : Journal) (a b c : Disk) → Wrote it old mid a b → LosesNone mid b c → LosesNoneBehind it old a c
moments it old mid a b c wrote loses = λ wanted synced records told kept fits.
    let then = wrote.keeps wanted synced records told kept fits in
    both_hold a b c old.first_file mid.first_file (Holds wanted synced (with_one records it)) wrote.first (wrote.loses wanted synced records told kept fits)
    (loses wanted synced (with_one records it) (subst IsTrue (sym wrote.told) told) then)

-- and then synced
pub wrote_synced : (it : Record) (old mid new : Journal) (a b c : Disk) (result : Result Unit Failed) (v : Unit {0}) → Wrote it old mid a b → new ≡ mid → KeepsSynced mid b new c → LosesNone mid b c → HasCause IsErr result b c
    → Writes it (Ok v) old new a c
wrote_synced it old mid new a b c result v wrote same synced loses cause = record {
  first = ap first_file_of same ∙ wrote.first;
  journal = subst (λ (j : Journal). StandsForMore it old j) (sym same) wrote.more;
  kept = λ wanted begun records told kept fits. synced wanted begun (with_one records it) (subst IsTrue (sym wrote.told) told) (wrote.keeps wanted begun records told kept fits);
  moments = moments it old mid a b c wrote loses;
  refused = λ refused. absurd refused;
  short = λ short. tt;
  answers = λ fault is. absurd (let e = is in cc);
  cause = record { told = cause.told ∙ wrote.told; later = omega (arith, wrote.later, cause.later); no_fewer = omega (arith, wrote.no_fewer, cause.no_fewer); cause = λ is. absurd (let e = is in cc) };
}

-- or the sync failed
pub wrote_failed : (it : Record) (old mid new : Journal) (a b c : Disk) (result : Result Unit Failed) → Wrote it old mid a b → new ≡ mid → LosesNone mid b c → HasCause IsErr result b c → IsErr result
    → Writes it (Err Device) old new a c
wrote_failed it old mid new a b c result wrote same loses cause failed = record {
  first = ap first_file_of same ∙ wrote.first;
  journal = tt;
  kept = tt;
  moments = moments it old mid a b c wrote loses;
  refused = λ refused. absurd refused;
  short = λ short. tt;
  answers = λ fault is. may (Err Device) fault refl is;
  cause = record { told = cause.told ∙ wrote.told; later = omega (arith, wrote.later, cause.later); no_fewer = omega (arith, wrote.no_fewer, cause.no_fewer); cause = λ is. omega (arith, wrote.no_fewer, cause.cause failed) };
}
  where
    may : (r : Result (Unit {0}) EngineFault) (fault : EngineFault) → r ≡ Err Device → r ≡ Err fault → MayCome [] [] true fault
    may r fault of is = let same : Device ≡ fault = cc in subst (λ (f : EngineFault). MayCome [] [] true f) same tt
