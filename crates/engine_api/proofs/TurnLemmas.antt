-- A call that makes no device call and leaves the state.
use Rattle.std.proofs.Common.{◌≡◌, ℕ, suc, inr, List, [], ◌∷◌, ◌++◌, Result, OnOk, IsTrue, refl, arith}
use Rattle.std.proofs.lemmas.List.Elements.{Contains-append_left}
use Rattle.disk_model.specs.File.{File}
use Rattle.disk_model.specs.Disk.{Disk, now, Keeps}
use Rattle.disk_model.proofs.Moments.{started}
use Rattle.engine_api.specs.declared.fault.EngineFault.{EngineFault}
use Rattle.engine_api.specs.States.{Kind, EngineState}
use Rattle.engine_api.specs.Reads.{Reading, AreFaithful, AreAtStart, EachReads, EachReadsAs, files_in, OnlyIn}
use Rattle.engine_api.specs.Calls.{IsDevice, Turns}
use Rattle.engine_api.proofs.ManyLemmas.{reads_as, same_itself}

pub turns_still : {T : Type 0} (kind : Kind) (reading : Reading) (result : Result T EngineFault) (next state : EngineState) (holds : List File → Type 0) (d : Disk)
    → OnOk result (state ≡ next) → (IsDevice result → ⊥) → (IsTrue d.told → holds (files_in kind.files d) × EachReads reading state.kept (files_in kind.files d))
    → Turns kind reading result next state state holds d d
turns_still kind reading result next state holds d ok no_device stands = record {
  ok = ok;
  refused = λ is. refl;
  cause = record { told = refl; later = omega arith; no_fewer = omega arith; cause = λ is. absurd (no_device is) };
  moments = λ told. started d (OnlyIn kind.files (now d) (EachReads reading (state.kept ++ next.kept)))
      ((λ f not. refl), reads_as reading reading state.kept (state.kept ++ next.kept) (files_in kind.files d) (same_itself reading) (λ g h. Contains-append_left state.kept next.kept g h) (stands told).1);
  files = λ told goes. stands told;
}

-- faithful images are images at the start
pub at_start : (reading : Reading) (place : ℕ) (files : List File) (images : List (List ℕ)) → AreFaithful reading place files images → AreAtStart reading place files images
at_start reading place [] [] h = tt
at_start reading place [] (image ∷ images) h = absurd h
at_start reading place (file ∷ files) [] h = absurd h
at_start reading place (file ∷ files) (image ∷ images) h = (inr h.0, at_start reading (suc place) files images h.1)

-- An opening that has done nothing: each image reads as itself.
pub begins_still : (reading : Reading) (numbers : List ℕ) (d : Disk) → Keeps d d (OnlyIn numbers (now d) (EachReadsAs reading (files_in numbers d)))
begins_still reading numbers d = started d (OnlyIn numbers (now d) (EachReadsAs reading (files_in numbers d)))
    ((λ f not. refl), λ images faithful. (images, at_start reading 0 (files_in numbers d) images faithful, λ gist h. h))
