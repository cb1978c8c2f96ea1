-- Calls that only look, one after the other.
use Rattle.std.proofs.Common.{◌≡◌, ⊎_elim, ℕ, Result, IsTrue, refl, sym, ◌∙◌, ap, subst, arith}
use Rattle.std.specs.Prelude.{IsErr}
use Rattle.std.proofs.lemmas.Bool.{cases_eq}
use Rattle.fault_counts.specs.Rose.{Rose}
use Rattle.disk_model.specs.declared.storage.Failed.{Failed}
use Rattle.disk_model.specs.File.{File, Stays}
use Rattle.disk_model.specs.Disk.{Disk, now, contents, Called, HasCause}
use Rattle.disk_model.specs.Looking.{IsUntouched, LooksOnly}
use Rattle.disk_model.proofs.Moments.{started, goes_on, both, weaker}

-- before the first call
pub looks_none : (d : Disk) → LooksOnly d d
looks_none d = record { told = refl; later = omega arith; no_fewer = omega arith; moments = λ told. started d (IsUntouched d) (λ f. refl) }

-- one call more
pub looks_more : {T : Type 0} (file : ℕ) (start old new : Disk) (result : Result T Failed) → LooksOnly start old → Called file Stays result old new → LooksOnly start new
looks_more file start old new result looks called = record {
  told = called.told ∙ looks.told;
  later = omega (arith, looks.later, called.later);
  no_fewer = omega (arith, looks.no_fewer, called.no_fewer);
  moments = λ told.
      let before = (looks.moments told).each old.calls looks.later (omega arith) in
      goes_on start old new (IsUntouched start) file Stays result (subst IsTrue (sym looks.told) told) (looks.moments told) called
      (λ others did f. ⊎_elim (λ is. subst (λ (n : ℕ). now new n ≡ now start n) (sym is) (⊎_elim (λ same. same) (λ same. same) did ∙ before file)) (λ not. others f not ∙ before f) (cases_eq f file));
}

-- what the calls so far have left
pub looked : (start d : Disk) → LooksOnly start d → IsTrue start.told → (f : ℕ) → now d f ≡ now start f
looked start d looks told = (looks.moments told).each d.calls looks.later (omega arith)

pub looked_contents : (start d : Disk) (file : ℕ) → LooksOnly start d → IsTrue start.told → contents d file ≡ contents start file
looked_contents start d file looks told = ap (λ (f : File). f.bytes) (looked start d looks told file)

-- what is told stays told
pub looks_told : (start d : Disk) → LooksOnly start d → IsTrue start.told → IsTrue d.told
looks_told start d looks told = subst IsTrue (sym looks.told) told

-- a fault since the first call
pub rose_looking : (start old new : Disk) → LooksOnly start old → Rose old.faults new.faults → Rose start.faults new.faults
rose_looking start old new looks rose = omega (arith, looks.no_fewer, rose)

-- calls that only look, behind others
pub looks_both : (start mid end : Disk) → LooksOnly start mid → LooksOnly mid end → LooksOnly start end
looks_both start mid end first second = record {
  told = second.told ∙ first.told;
  later = omega (arith, first.later, second.later);
  no_fewer = omega (arith, first.no_fewer, second.no_fewer);
  moments = λ told. both start mid end (IsUntouched start) (first.moments told)
      (weaker mid end (IsUntouched mid) (IsUntouched start) (λ files same f. same f ∙ looked start mid first told f) (second.moments (looks_told start mid first told)));
}

-- what stays of the counts, and the cause of an answer
pub looks_cause : {T E : Type 0} (IsDevice : Result T E → Type 0) (result : Result T E) (start end : Disk) → LooksOnly start end → (IsDevice result → Rose start.faults end.faults) → HasCause IsDevice result start end
looks_cause IsDevice result start end looks cause = record { told = looks.told; later = looks.later; no_fewer = looks.no_fewer; cause = cause }

-- a call that failed
pub looks_failed : {T U E : Type 0} (IsDevice : Result U E → Type 0) (answer : Result U E) (file : ℕ) (start old new : Disk) (result : Result T Failed) → LooksOnly start old → Called file Stays result old new
    → IsErr result → HasCause IsDevice answer start new
looks_failed IsDevice answer file start old new result looks called failed =
    looks_cause IsDevice answer start new (looks_more file start old new result looks called) (λ is. rose_looking start old new looks (called.cause failed))
