-- The engine of the tests has no files, which stand for the gist that it has.
use Rattle.std.proofs.Common.{◌≡◌, ℕ, List, [], ◌∷◌, Result, OnOk, refl, sym, ◌∙◌, arith}
use Rattle.disk_model.specs.File.{File}
use Rattle.disk_model.specs.Disk.{Disk}
use Rattle.log_tables.specs.declared.gist.Gist.{Gist}
use Rattle.engine_api.specs.declared.fault.EngineFault.{EngineFault}
use Rattle.engine_api.specs.States.{Kind, EngineState, begun_state}
use Rattle.engine_api.specs.Reads.{Reading, EachReads}
use Rattle.engine_api.specs.Calls.{IsDevice, Turns}
use Rattle.engine_api.proofs.TurnLemmas.{turns_still}

-- any file is a faithful image, and any images stand for this gist alone
abbrev pub reading_of : Gist → Reading
reading_of gist = record { faithful = λ place file image. Unit {0}; stands = λ images other. other ≡ gist }

-- they stand for one gist
pub one_gist : (gist : Gist) (images : List (List ℕ)) (a b : Gist) → (reading_of gist).stands images a → (reading_of gist).stands images b → a ≡ b
one_gist gist images a b is so = is ∙ sym so

-- whatever they are, they read as it
pub reads_own : (gist : Gist) (files : List File) → EachReads (reading_of gist) (gist ∷ []) files
reads_own gist files images faithful = (gist, (0, omega arith, refl), refl)

pub nothing_done : {T : Type 0} (gist : Gist) (kind : Kind) (result : Result T EngineFault) (next : EngineState) (d : Disk) → OnOk result (begun_state gist ≡ next) → (IsDevice result → ⊥)
    → Turns kind (reading_of gist) result next (begun_state gist) (begun_state gist) (λ files. Unit {0}) d d
nothing_done gist kind result next d ok no_device =
    turns_still kind (reading_of gist) result next (begun_state gist) (λ files. Unit {0}) d ok no_device
    (λ told. (tt, reads_own gist _))
