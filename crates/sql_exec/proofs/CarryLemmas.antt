-- A statement that is carried out in several calls, which change the state.
use Rattle.std.proofs.Common.{◌≡◌, ℕ, List, ◌++◌, map, Result, Ok, OnOk, IsTrue, refl, sym, ap, subst, ◌∙◌, inl, inr, arith}
use Rattle.std.specs.Prelude.{Err, Contains, IsErrAnd}
use Rattle.std.proofs.lemmas.List.Elements.{Contains-append_left, Contains-append_right, Contains-append_cases}
use Rattle.disk_model.specs.File.{File}
use Rattle.disk_model.specs.Disk.{Disk, now}
use Rattle.disk_model.proofs.Moments.{both, weaker}
use Rattle.log_tables.specs.declared.gist.Gist.{Gist}
use Rattle.engine_api.specs.States.{Kind, EngineState}
use Rattle.engine_api.specs.Reads.{Reading, EachReads, files_in, OnlyIn}
use Rattle.engine_api.specs.declared.fault.EngineFault.{EngineFault}
use Rattle.engine_api.specs.declared.fault.EngineFault.TheVariants as engine
use Rattle.engine_api.specs.Calls.{IsSame, IsDoneOrDevice, Turns}
use Rattle.engine_api.specs.Many.{IsAtWork, working}
use Rattle.engine_api.proofs.ManyLemmas.{reads_as, same_itself}
use Rattle.sql_exec.specs.declared.fault.ExecFault.{ExecFault}
use Rattle.sql_exec.specs.declared.fault.ExecFault.TheVariants.{Refused, Device, NotAVolume, Memory}
use Rattle.sql_exec.specs.CarriesOut.{IsDevice, IsRefused, GoesOn, CarriesOut}
use Rattle.sql_exec.proofs.RunLemmas.{rose_from}

-- One call behind others, of the engine that is the same.
pub carry_on : {T U V : Type 0} (kind kind_mid : Kind) (reading reading_mid : Reading) (value : T) (inner : Result U ExecFault) (outer : Result V ExecFault)
    (done back_first mid next_last back_last next back new : EngineState) (held holds : List File → Type 0) (a b d : Disk)
    → CarriesOut kind reading (Ok value) done back_first mid held a b → IsSame kind kind_mid reading reading_mid → CarriesOut kind_mid reading_mid inner next_last back_last new holds b d
    → OnOk outer (new ≡ next) → (IsRefused outer → new ≡ back) → (GoesOn outer → GoesOn inner) × (IsDevice outer → IsDevice inner)
    → ((g : Gist) → Contains (back_first.kept ++ done.kept) g → Contains (back.kept ++ next.kept) g)
    → ((g : Gist) → Contains (back_last.kept ++ next_last.kept) g → Contains (back.kept ++ next.kept) g)
    → CarriesOut kind reading outer next back new holds a d
carry_on kind kind_mid reading reading_mid value inner outer done back_first mid next_last back_last next back new held holds a b d first same second ok refused goes kept_first kept_last = record {
  ok = ok;
  refused = refused;
  cause = record {
    told = second.cause.told ∙ first.cause.told;
    later = omega (arith, first.cause.later, second.cause.later);
    no_fewer = omega (arith, first.cause.no_fewer, second.cause.no_fewer);
    cause = λ is. rose_from a.faults b.faults d.faults first.cause.no_fewer (second.cause.cause (goes.1 is));
  };
  moments = λ told. both a b d P (weaker a b O P (at_first told) (first.moments told)) (weaker b d Q P (at_last told) (second.moments (still_told told)));
  files = λ told on. files_now (second.files (still_told told) (goes.0 on));
}
  where
    O : (ℕ → File) → Type 0
    O files = OnlyIn kind.files (now a) (EachReads reading (back_first.kept ++ done.kept)) files

    P : (ℕ → File) → Type 0
    P files = OnlyIn kind.files (now a) (EachReads reading (back.kept ++ next.kept)) files

    Q : (ℕ → File) → Type 0
    Q files = OnlyIn kind_mid.files (now b) (EachReads reading_mid (back_last.kept ++ next_last.kept)) files

    still_told : IsTrue a.told → IsTrue b.told
    still_told told = subst IsTrue (sym first.cause.told) told

    at_first : IsTrue a.told → (files : ℕ → File) → O files → P files
    at_first told files only =
        (only.0, reads_as reading reading (back_first.kept ++ done.kept) (back.kept ++ next.kept) (map files kind.files) (same_itself reading) kept_first only.1)

    at_last : IsTrue a.told → (files : ℕ → File) → Q files → P files
    at_last told files only =
        let before = (first.moments told).each b.calls first.cause.later (omega arith) in
        let here = subst (λ (k : Kind). OnlyIn k.files (now b) (EachReads reading_mid (back_last.kept ++ next_last.kept)) files) same.kind only in (
          (λ f not. here.0 f not ∙ before.0 f not),
          reads_as reading reading_mid (back_last.kept ++ next_last.kept) (back.kept ++ next.kept) (map files kind.files) same.reading kept_last here.1,
        )

    files_now : holds (files_in kind_mid.files d) × EachReads reading_mid new.kept (files_in kind_mid.files d) → holds (files_in kind.files d) × EachReads reading new.kept (files_in kind.files d)
    files_now it = (
      subst (λ (k : Kind). holds (files_in k.files d)) same.kind it.0,
      reads_as reading reading_mid new.kept new.kept (files_in kind.files d) same.reading (λ g h. h) (subst (λ (k : Kind). EachReads reading_mid new.kept (files_in k.files d)) same.kind it.1),
    )

-- Behind what was carried out, the engine is at work.
pub work_behind : {T : Type 0} (kind kind_mid : Kind) (reading reading_mid : Reading) (value : T) (done back mid : EngineState) (holds : List File → Type 0) (a b : Disk)
    → CarriesOut kind reading (Ok value) done back mid holds a b → IsSame kind kind_mid reading reading_mid → IsTrue a.told → IsAtWork (working kind_mid reading_mid mid holds) (now b)
work_behind kind kind_mid reading reading_mid value done back mid holds a b first same told =
    let is = first.files told tt in
    record {
      holds = subst (λ (k : Kind). holds (files_in k.files b)) (sym same.kind) is.0;
      reads = subst (λ (k : Kind). EachReads reading_mid mid.kept (files_in k.files b)) (sym same.kind)
          (reads_as reading_mid reading mid.kept mid.kept (files_in kind.files b)
          (record { faithful = same.reading.faithful_back; faithful_back = same.reading.faithful; stands = same.reading.stands_back; stands_back = same.reading.stands }) (λ g h. h) is.1);
    }

-- what is told by a fault that is answered
pub fails_so : {V : Type 0} (outer : Result V ExecFault) (fault : ExecFault) (next new : EngineState) → IsErrAnd outer (λ e. e ≡ fault) → OnOk outer (new ≡ next)
fails_so (Ok value) fault next new tells = absurd tells
fails_so (Err e) fault next new tells = tt

-- four states that keep the same gists
pub keeps_same : (one two three four s : EngineState) → one.kept ≡ s.kept → two.kept ≡ s.kept → three.kept ≡ s.kept → four.kept ≡ s.kept
    → (g : Gist) → Contains (one.kept ++ two.kept) g → Contains (three.kept ++ four.kept) g
keeps_same one two three four s first second third fourth g has =
    subst (λ (l : List Gist). Contains l g)
    (ap (λ (l : List Gist). l ++ two.kept) (first ∙ sym third) ∙ ap (λ (l : List Gist). three.kept ++ l) (second ∙ sym fourth)) has

pub refused_as : (U V : Type 0) (e : ExecFault) → IsRefused {T = V} (Err e) → IsRefused {T = U} (Err e)
refused_as U V (Refused it) is = tt
refused_as U V Device is = absurd is
refused_as U V (NotAVolume file) is = tt
refused_as U V Memory is = tt

-- a refusal that is answered is that of the call
pub refused_so : (U : Type 0) {V : Type 0} (outer : Result V ExecFault) (fault : ExecFault) → IsErrAnd outer (λ e. e ≡ fault) → IsRefused outer → IsRefused {T = U} (Err fault)
refused_so U (Ok value) fault tells is = absurd tells
refused_so U {V = V} (Err e) fault tells is = subst (λ (f : ExecFault). IsRefused {T = U} (Err f)) tells (refused_as U V e is)

pub swapped : (xs ys : List Gist) (g : Gist) → Contains (xs ++ ys) g → Contains (ys ++ xs) g
swapped xs ys g has = elim (Contains-append_cases xs ys g has) [
  | inl left ↦ Contains-append_right ys xs g left
  | inr right ↦ Contains-append_left ys xs g right
]

-- What was done is taken back, and a fault is told.
pub back_done : (kind : Kind) (reading : Reading) (fault : ExecFault) (s next new : EngineState) (holds : List File → Type 0) (a b : Disk) (value : Unit {0})
    → Turns kind reading (Ok value) next s new holds a b → (fault ≡ Device → ⊥) → CarriesOut {T = Unit {0}} kind reading (Err fault) s next new holds a b
back_done kind reading fault s next new holds a b value turns other = record {
  ok = tt;
  refused = λ is. turns.ok;
  cause = record { told = turns.cause.told; later = turns.cause.later; no_fewer = turns.cause.no_fewer; cause = λ is. absurd (other (fault_is fault is)) };
  moments = λ told. weaker a b
      (OnlyIn kind.files (now a) (EachReads reading (s.kept ++ next.kept))) (OnlyIn kind.files (now a) (EachReads reading (next.kept ++ s.kept)))
      (λ files only. (only.0, reads_as reading reading (s.kept ++ next.kept) (next.kept ++ s.kept) (map files kind.files) (same_itself reading) (swapped s.kept next.kept) only.1)) (turns.moments told);
  files = λ told on. turns.files told tt;
}
  where
    fault_is : (e : ExecFault) → IsDevice {T = Unit {0}} (Err e) → e ≡ Device
    fault_is e is = cc

-- The device fails while it is taken back.
pub back_failed : (kind : Kind) (reading : Reading) (fault : EngineFault) (s next new : EngineState) (holds : List File → Type 0) (a b : Disk) (inner : Result (Unit {0}) EngineFault)
    → Turns kind reading inner next s new holds a b → inner ≡ Err fault → IsDoneOrDevice inner → CarriesOut {T = Unit {0}} kind reading (Err Device) s next new holds a b
back_failed kind reading fault s next new holds a b (Ok value) turns is done = absurd (not_err value is)
  where
    not_err : (v : Unit {0}) → Ok v ≡ Err fault → ⊥
    not_err v e = cc
back_failed kind reading fault s next new holds a b (Err engine.Device) turns is done = record {
  ok = tt;
  refused = λ is. absurd is;
  cause = record { told = turns.cause.told; later = turns.cause.later; no_fewer = turns.cause.no_fewer; cause = λ is. turns.cause.cause refl };
  moments = λ told. weaker a b
      (OnlyIn kind.files (now a) (EachReads reading (s.kept ++ next.kept))) (OnlyIn kind.files (now a) (EachReads reading (next.kept ++ s.kept)))
      (λ files only. (only.0, reads_as reading reading (s.kept ++ next.kept) (next.kept ++ s.kept) (map files kind.files) (same_itself reading) (swapped s.kept next.kept) only.1)) (turns.moments told);
  files = λ told on. absurd on;
}
back_failed kind reading fault s next new holds a b (Err (engine.Code it)) turns is done = absurd done
back_failed kind reading fault s next new holds a b (Err (engine.NotAVolume file)) turns is done = absurd done
back_failed kind reading fault s next new holds a b (Err engine.Memory) turns is done = absurd done
