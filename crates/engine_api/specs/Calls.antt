-- What a call of an engine does, and which faults it may answer. (This project.)
use Rattle.std.specs.Prelude.{◌≡◌, ℕ, List, [], ◌∷◌, ◌++◌, Result, Ok, Err, OnOk, IsErrOf, IsTrue, Bool, false, Contains}
use Rattle.disk_model.specs.File.{File}
use Rattle.disk_model.specs.Disk.{Disk, now, Keeps, HasCause}
use Rattle.engine_api.specs.declared.fault.Code.{Code}
use Rattle.engine_api.specs.declared.fault.EngineFault.{EngineFault}
use Rattle.engine_api.specs.declared.fault.EngineFault.TheVariants.{Code as code, Device, NotAVolume, Memory}
use Rattle.engine_api.specs.States.{Kind, EngineState}
use Rattle.engine_api.specs.Reads.{Reading, SameReading, EachReads, files_in, OnlyIn}

-- the fault is one of the device
abbrev pub IsDevice : {T : Type 0} → Result T EngineFault → Type 0
IsDevice result = IsErrOf result Device

-- a refusal that is not one of the device: then all is as it was
abbrev pub IsRefused : {T : Type 0} → Result T EngineFault → Type 0
IsRefused (Ok value) = ⊥
IsRefused (Err Device) = ⊥
IsRefused (Err _) = Unit {0}

-- it is done, or the device failed
abbrev pub IsDoneOrDevice : {T : Type 0} → Result T EngineFault → Type 0
IsDoneOrDevice (Ok value) = Unit {0}
IsDoneOrDevice (Err Device) = Unit {0}
IsDoneOrDevice (Err _) = ⊥

-- the engine goes on: any answer but a fault of the device
abbrev pub GoesOn : {T : Type 0} → Result T EngineFault → Type 0
GoesOn (Err Device) = ⊥
GoesOn _ = Unit {0}

-- the fault may come: a code of these; Device and Memory; and that a file is none only where contents are not told, and then of the first
abbrev pub MayCome : List Code → List ℕ → Bool → EngineFault → Type 0
MayCome codes files told (code it) = Contains codes it
MayCome codes files told Device = Unit {0}
MayCome codes [] told (NotAVolume file) = ⊥
MayCome codes (first ∷ files) told (NotAVolume file) = (told ≡ false) × (file ≡ first)
MayCome codes files told Memory = Unit {0}

-- no other fault is answered
abbrev pub AnswersOnly : {T : Type 0} → List Code → List ℕ → Bool → Result T EngineFault → Type 0
AnswersOnly codes files told result = (fault : EngineFault) → result ≡ Err fault → MayCome codes files told fault

-- a call without a device: a code of these, or want of memory
abbrev pub MayComeAlone : List Code → EngineFault → Type 0
MayComeAlone codes (code it) = Contains codes it
MayComeAlone codes Memory = Unit {0}
MayComeAlone codes _ = ⊥

-- no other fault is answered
abbrev pub AnswersAlone : {T : Type 0} → List Code → Result T EngineFault → Type 0
AnswersAlone codes result = (fault : EngineFault) → result ≡ Err fault → MayComeAlone codes fault

-- the same engine: what never changes of it is as it was
pub record IsSame (kind_was kind_is : Kind) (reading_was reading_is : Reading) : Type 0 where
  pub kind : kind_is ≡ kind_was
  pub reading : SameReading reading_was reading_is

-- A call with no device call: after Ok the next state, after a refusal the one before; and what the files were to it they are.
pub record Notes {T : Type 0} (result : Result T EngineFault) (next old new : EngineState) (held holds : List File → Type 0) : Type 0 where
  pub ok : OnOk result (new ≡ next)
  pub refused : IsRefused result → new ≡ old
  pub files : (files : List File) → held files → holds files

-- A call on the device: after Ok the next state, after a refusal the one before. At each moment all files but the engine's are as they
-- were, and each faithful crash image of these reads as one of the states may. Where it goes on, its files are what it takes them for.
pub record Turns {T : Type 0} (kind : Kind) (reading : Reading) (result : Result T EngineFault) (next old new : EngineState) (holds : List File → Type 0) (before after : Disk) : Type 0 where
  pub ok : OnOk result (new ≡ next)
  pub refused : IsRefused result → new ≡ old
  pub cause : HasCause IsDevice result before after
  pub moments : IsTrue before.told → Keeps before after (OnlyIn kind.files (now before) (EachReads reading (old.kept ++ next.kept)))
  pub files : IsTrue before.told → GoesOn result → holds (files_in kind.files after) × EachReads reading new.kept (files_in kind.files after)
