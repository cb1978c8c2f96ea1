-- What a statement does on an engine, in one call of it or in several, and which faults it may answer. (This project.)
use Rattle.std.specs.Prelude.{◌≡◌, ℕ, List, [], ◌∷◌, ◌++◌, Bool, false, Option, Some, Result, Ok, Err, OnOk, IsErrOf, IsTrue}
use Rattle.disk_model.specs.File.{File}
use Rattle.disk_model.specs.Disk.{Disk, now, Keeps, HasCause}
use Rattle.sql_value.specs.declared.refusal.Refusal.{Refusal}
use Rattle.engine_api.specs.States.{Kind, EngineState}
use Rattle.engine_api.specs.Reads.{Reading, EachReads, files_in, OnlyIn}
use Rattle.sql_exec.specs.declared.fault.ExecFault.{ExecFault}
use Rattle.sql_exec.specs.declared.fault.ExecFault.TheVariants.{Refused, Device, NotAVolume, Memory}

-- the fault is one of the device
abbrev pub IsDevice : {T : Type 0} → Result T ExecFault → Type 0
IsDevice result = IsErrOf result Device

-- a fault that is not one of the device
abbrev pub IsRefused : {T : Type 0} → Result T ExecFault → Type 0
IsRefused (Ok value) = ⊥
IsRefused (Err Device) = ⊥
IsRefused (Err _) = Unit {0}

-- the engine goes on: any answer but a fault of the device
abbrev pub GoesOn : {T : Type 0} → Result T ExecFault → Type 0
GoesOn (Err Device) = ⊥
GoesOn _ = Unit {0}

-- A statement is carried out on an engine: after Ok the engine has the next state; after a refusal the one that it goes back to. At each moment all
-- files but the engine's are as they were, and each faithful crash image of these reads as one of the two states may. Where it goes on, its
-- files are what it takes them for.
pub record CarriesOut {T : Type 0} (kind : Kind) (reading : Reading) (result : Result T ExecFault) (next back new : EngineState) (holds : List File → Type 0) (before after : Disk) : Type 0 where
  pub ok : OnOk result (new ≡ next)
  pub refused : IsRefused result → new ≡ back
  pub cause : HasCause IsDevice result before after
  pub moments : IsTrue before.told → Keeps before after (OnlyIn kind.files (now before) (EachReads reading (back.kept ++ next.kept)))
  pub files : IsTrue before.told → GoesOn result → holds (files_in kind.files after) × EachReads reading new.kept (files_in kind.files after)

-- A statement that makes no device call: after Ok the engine has the next state; after a refusal the one that it goes back to; and what the
-- files were to it they are.
pub record CarriesAlone {T : Type 0} (result : Result T ExecFault) (next back new : EngineState) (held holds : List File → Type 0) : Type 0 where
  pub ok : OnOk result (new ≡ next)
  pub refused : IsRefused result → new ≡ back
  pub files : (files : List File) → held files → holds files

-- the fault may come: the refusal that there is; Device and Memory; and that a file is none only where contents are not told, and then the
-- first of these
abbrev pub MayFail : Option Refusal → List ℕ → Bool → ExecFault → Type 0
MayFail refusal files told (Refused it) = refusal ≡ Some it
MayFail refusal files told Device = Unit {0}
MayFail refusal [] told (NotAVolume file) = ⊥
MayFail refusal (first ∷ files) told (NotAVolume file) = (told ≡ false) × (file ≡ first)
MayFail refusal files told Memory = Unit {0}
