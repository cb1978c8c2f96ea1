-- Which faults of an engine a statement answers.
use Rattle.std.proofs.Common.{◌≡◌, ℕ, zero, suc, List, [], ◌∷◌, Bool, refl, sym, subst, arith}
use Rattle.std.specs.Prelude.{Contains, Option, None, Result, Ok, Err}
use Rattle.sql_value.specs.declared.refusal.Refusal.{Refusal}
use Rattle.engine_api.specs.declared.fault.Code.{Code}
use Rattle.engine_api.specs.declared.fault.EngineFault.{EngineFault}
use Rattle.engine_api.specs.declared.fault.EngineFault.TheVariants as engine
use Rattle.engine_api.specs.States.{Kind}
use Rattle.engine_api.specs.Calls.{MayCome, AnswersAlone, IsRefused}
use Rattle.sql_exec.specs.declared.fault.ExecFault.{ExecFault}
use Rattle.sql_exec.specs.declared.fault.ExecFault.TheVariants.{Refused, Device, NotAVolume, Memory}
use Rattle.sql_exec.specs.Faults.{FailsFor}
use Rattle.sql_exec.specs.CarriesOut.{MayFail}

-- no code but the one that may come
pub only_code : (one it : Code) → Contains (one ∷ []) it → it ≡ one
only_code one it (zero, lt, is) = sym is
only_code one it (suc n, lt, is) = absurd (omega (arith, lt))

-- that a file is none comes as the engine says it
pub none_here : (codes : List Code) (files : List ℕ) (told : Bool) (file : ℕ) (refusal : Option Refusal) → MayCome codes files told (engine.NotAVolume file) → MayFail refusal files told (NotAVolume file)
none_here codes [] told file refusal may = absurd may
none_here codes (first ∷ files) told file refusal may = may

-- a fault of a call that tells no refusal may come of a statement
pub call_may : (refusal : Option Refusal) (files : List ℕ) (told : Bool) (fault : ExecFault) → MayFail None files told fault → MayFail refusal files told fault
call_may refusal files told (Refused it) may = cc
call_may refusal files told Device may = tt
call_may refusal [] told (NotAVolume file) may = absurd may
call_may refusal (first ∷ files) told (NotAVolume file) may = may
call_may refusal files told Memory may = tt

-- so may a refusal, or want of memory
pub refusal_may : (refusal : Option Refusal) (files : List ℕ) (told : Bool) (fault : ExecFault) → FailsFor refusal fault → MayFail refusal files told fault
refusal_may refusal files told (Refused it) is = is
refusal_may refusal files told Device is = absurd is
refusal_may refusal files told (NotAVolume file) is = absurd is
refusal_may refusal files told Memory is = tt

-- and so it may of the same engine, where contents are told as they were
pub may_as : (kind kind_mid : Kind) (told told_mid : Bool) (refusal : Option Refusal) (fault : ExecFault) → kind_mid ≡ kind → told_mid ≡ told
    → MayFail refusal kind_mid.files told_mid fault → MayFail refusal kind.files told fault
may_as kind kind_mid told told_mid refusal fault same as_told may =
    subst (λ (b : Bool). MayFail refusal kind.files b fault) as_told (subst (λ (k : Kind). MayFail refusal k.files told_mid fault) same may)

-- a fault of a call without a device is a refusal
pub alone_refused : {T : Type 0} (codes : List Code) (result : Result T EngineFault) (fault : EngineFault) → result ≡ Err fault → AnswersAlone codes result → IsRefused result
alone_refused codes (Ok value) fault is alone = cc
alone_refused codes (Err (engine.Code it)) fault is alone = tt
alone_refused codes (Err engine.Device) fault is alone = absurd (alone engine.Device refl)
alone_refused codes (Err (engine.NotAVolume file)) fault is alone = tt
alone_refused codes (Err engine.Memory) fault is alone = tt
