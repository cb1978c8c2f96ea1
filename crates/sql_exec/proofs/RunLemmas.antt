-- How a statement that changes nothing runs, call by call.
use Rattle.std.proofs.Common.{◌≡◌, ◌≤◌, ℕ, List, ◌++◌, map, Result, Ok, OnOk, IsTrue, refl, sym, ap, subst, ◌∙◌, arith}
use Rattle.std.specs.Prelude.{Err, Option, IfErr, IsErrAnd}
use Rattle.std.proofs.lemmas.List.Elements.{Contains-append_left}
use Rattle.fault_counts.specs.Rose.{Rose}
use Rattle.disk_model.specs.File.{File}
use Rattle.disk_model.specs.Disk.{Disk, now}
use Rattle.disk_model.proofs.Moments.{started, both, weaker}
use Rattle.sql_value.specs.declared.refusal.Refusal.{Refusal}
use Rattle.engine_api.specs.declared.fault.EngineFault.{EngineFault}
use Rattle.engine_api.specs.declared.fault.EngineFault.TheVariants as engine
use Rattle.log_tables.specs.declared.gist.Gist.{Gist}
use Rattle.engine_api.specs.States.{Kind, EngineState}
use Rattle.engine_api.specs.Reads.{Reading, EachReads, files_in, OnlyIn}
use Rattle.engine_api.specs.Calls.{IsDevice as IsDeviceThere, IsSame, Turns, GoesOn as GoesOnThere}
use Rattle.engine_api.proofs.ManyLemmas.{reads_as, same_itself}
use Rattle.sql_exec.specs.declared.fault.ExecFault.{ExecFault}
use Rattle.sql_exec.specs.declared.fault.ExecFault.TheVariants.{Refused, Device, NotAVolume, Memory}
use Rattle.sql_exec.specs.Faults.{FailsFor}
use Rattle.sql_exec.specs.CarriesOut.{IsDevice, IsRefused, GoesOn, CarriesOut}

pub on_ok : {T E : Type 0} {P : Type 0} (r : Result T E) → P → OnOk r P
on_ok (Ok value) p = p
on_ok (Err fault) p = tt

-- a call goes on, or is a fault of the device
went_on : {T U : Type 0} (inner : Result T EngineFault) (outer : Result U ExecFault) → (IsDeviceThere inner → IsDevice outer) → GoesOn outer → GoesOnThere inner
went_on (Ok value) outer told goes = tt
went_on (Err (engine.Code it)) outer told goes = tt
went_on (Err (engine.NotAVolume file)) outer told goes = tt
went_on (Err engine.Memory) outer told goes = tt
went_on (Err engine.Device) (Ok value) told goes = let is = told refl in cc
went_on (Err engine.Device) (Err Device) told goes = absurd goes
went_on (Err engine.Device) (Err (Refused it)) told goes = let is = told refl in cc
went_on (Err engine.Device) (Err (NotAVolume file)) told goes = let is = told refl in cc
went_on (Err engine.Device) (Err Memory) told goes = let is = told refl in cc

-- then the state is as it was
still : {T : Type 0} {kind : Kind} {reading : Reading} (inner : Result T EngineFault) (s new : EngineState) (holds : List File → Type 0) (a b : Disk)
    → Turns kind reading inner s s new holds a b → GoesOnThere inner → new ≡ s
still (Ok value) s new holds a b turns goes = turns.ok
still (Err (engine.Code it)) s new holds a b turns goes = turns.refused tt
still (Err (engine.NotAVolume file)) s new holds a b turns goes = turns.refused tt
still (Err engine.Memory) s new holds a b turns goes = turns.refused tt
still (Err engine.Device) s new holds a b turns goes = absurd goes

goes_if_ok : {T : Type 0} (r : Result T ExecFault) {P : Type 0} → (GoesOn r → P) → OnOk r P
goes_if_ok (Ok value) f = f tt
goes_if_ok (Err fault) f = tt

goes_if_refused : {T : Type 0} (r : Result T ExecFault) → IsRefused r → GoesOn r
goes_if_refused (Ok value) is = tt
goes_if_refused (Err Device) is = absurd is
goes_if_refused (Err (Refused it)) is = tt
goes_if_refused (Err (NotAVolume file)) is = tt
goes_if_refused (Err Memory) is = tt

-- A call that leaves the state, as a statement answers it.
pub one_call : {T U : Type 0} {kind : Kind} {reading : Reading} (inner : Result T EngineFault) (outer : Result U ExecFault) (s new : EngineState) (holds : List File → Type 0) (a b : Disk)
    → Turns kind reading inner s s new holds a b → (IsDeviceThere inner → IsDevice outer) → (IsDevice outer → IsDeviceThere inner)
    → CarriesOut kind reading outer s s new holds a b
one_call inner outer s new holds a b turns there here = record {
  ok = goes_if_ok outer (λ goes. still inner s new holds a b turns (went_on inner outer there goes));
  refused = λ is. still inner s new holds a b turns (went_on inner outer there (goes_if_refused outer is));
  cause = record { told = turns.cause.told; later = turns.cause.later; no_fewer = turns.cause.no_fewer; cause = λ is. turns.cause.cause (here is) };
  moments = turns.moments;
  files = λ told goes. turns.files told (went_on inner outer there goes);
}

-- A statement that has made no device call, and leaves the state.
pub no_call : {T : Type 0} (kind : Kind) (reading : Reading) (outer : Result T ExecFault) (s new : EngineState) (held holds : List File → Type 0) (d : Disk)
    → (IsDevice outer → ⊥) → new ≡ s → ((files : List File) → held files → holds files)
    → (IsTrue d.told → held (files_in kind.files d) × EachReads reading s.kept (files_in kind.files d))
    → CarriesOut kind reading outer s s new holds d d
no_call kind reading outer s new held holds d no_device same keeps stands = record {
  ok = on_ok outer same;
  refused = λ is. same;
  cause = record { told = refl; later = omega arith; no_fewer = omega arith; cause = λ is. absurd (no_device is) };
  moments = λ told. started d (OnlyIn kind.files (now d) (EachReads reading (s.kept ++ s.kept)))
      ((λ f not. refl), reads_as reading reading s.kept (s.kept ++ s.kept) (files_in kind.files d) (same_itself reading) (λ g h. Contains-append_left s.kept s.kept g h) (stands told).1);
  files = λ told goes.
      (keeps (files_in kind.files d) (stands told).0, subst (λ (t : EngineState). EachReads reading t.kept (files_in kind.files d)) (sym same) (stands told).1);
}

-- A statement answers otherwise, but for a fault of the device.
pub told_as : {T U : Type 0} {kind : Kind} {reading : Reading} (inner : Result T ExecFault) (outer : Result U ExecFault) (s new : EngineState) (holds : List File → Type 0) (a b : Disk)
    → CarriesOut kind reading inner s s new holds a b → (GoesOn outer → GoesOn inner) → (IsDevice outer → IsDevice inner)
    → CarriesOut kind reading outer s s new holds a b
told_as inner outer s new holds a b runs goes here = record {
  ok = goes_if_ok outer (λ on. at inner runs.ok runs.refused (goes on));
  refused = λ is. at inner runs.ok runs.refused (goes (goes_if_refused outer is));
  cause = record { told = runs.cause.told; later = runs.cause.later; no_fewer = runs.cause.no_fewer; cause = λ is. runs.cause.cause (here is) };
  moments = runs.moments;
  files = λ told on. runs.files told (goes on);
}
  where
    at : {T : Type 0} (r : Result T ExecFault) → OnOk r (new ≡ s) → (IsRefused r → new ≡ s) → GoesOn r → new ≡ s
    at (Ok value) ok refused on = ok
    at (Err Device) ok refused on = absurd on
    at (Err (Refused it)) ok refused on = refused tt
    at (Err (NotAVolume file)) ok refused on = refused tt
    at (Err Memory) ok refused on = refused tt

pub rose_from : (x y z : ℕ) → x ≤ y → Rose y z → Rose x z
rose_from x y z le h = grind arith

-- One run behind another, of the engine that is the same: the second answers for both.
pub run_on : {T U : Type 0} (kind kind_mid : Kind) (reading reading_mid : Reading) (value : T) (result : Result U ExecFault) (s mid new : EngineState) (held holds : List File → Type 0) (a b d : Disk)
    → CarriesOut kind reading (Ok value) s s mid held a b → IsSame kind kind_mid reading reading_mid → CarriesOut kind_mid reading_mid result mid mid new holds b d
    → CarriesOut kind reading result s s new holds a d
run_on {T = T} {U = U} kind kind_mid reading reading_mid value result s mid new held holds a b d first same second = record {
  ok = over result (second.ok);
  refused = λ is. second.refused is ∙ first.ok;
  cause = record {
    told = second.cause.told ∙ first.cause.told;
    later = omega (arith, first.cause.later, second.cause.later);
    no_fewer = omega (arith, first.cause.no_fewer, second.cause.no_fewer);
    cause = λ is. rose_from a.faults b.faults d.faults first.cause.no_fewer (second.cause.cause is);
  };
  moments = λ told. both a b d P (first.moments told) (weaker b d Q P (at_each told) (second.moments (still_told told)));
  files = λ told goes. files_now (second.files (still_told told) goes);
}
  where
    P : (ℕ → File) → Type 0
    P files = OnlyIn kind.files (now a) (EachReads reading (s.kept ++ s.kept)) files

    Q : (ℕ → File) → Type 0
    Q files = OnlyIn kind_mid.files (now b) (EachReads reading_mid (mid.kept ++ mid.kept)) files

    over : (r : Result U ExecFault) → OnOk r (new ≡ mid) → OnOk r (new ≡ s)
    over (Ok value) is = is ∙ first.ok
    over (Err fault) is = tt

    still_told : IsTrue a.told → IsTrue b.told
    still_told told = subst IsTrue (sym first.cause.told) told

    there : (files : List File) (few : List Gist) → EachReads reading_mid few files → EachReads reading few files
    there files few reads = reads_as reading reading_mid few few files same.reading (λ g h. h) reads

    at_each : IsTrue a.told → (files : ℕ → File) → Q files → P files
    at_each told files only =
        let before = (first.moments told).each b.calls first.cause.later (omega arith) in
        let here = subst (λ (k : Kind). OnlyIn k.files (now b) (EachReads reading_mid (mid.kept ++ mid.kept)) files) same.kind only in (
          (λ f not. here.0 f not ∙ before.0 f not),
          subst (λ (t : EngineState). EachReads reading (t.kept ++ t.kept) (map files kind.files)) first.ok (there (map files kind.files) (mid.kept ++ mid.kept) here.1),
        )

    files_now : holds (files_in kind_mid.files d) × EachReads reading_mid new.kept (files_in kind_mid.files d) → holds (files_in kind.files d) × EachReads reading new.kept (files_in kind.files d)
    files_now it = (
      subst (λ (k : Kind). holds (files_in k.files d)) same.kind it.0,
      there (files_in kind.files d) new.kept (subst (λ (k : Kind). EachReads reading_mid new.kept (files_in k.files d)) same.kind it.1),
    )

-- the same engine, twice
pub same_on : (kind kind_mid kind_new : Kind) (reading reading_mid reading_new : Reading) → IsSame kind kind_mid reading reading_mid → IsSame kind_mid kind_new reading_mid reading_new
    → IsSame kind kind_new reading reading_new
same_on kind kind_mid kind_new reading reading_mid reading_new first second = record {
  kind = second.kind ∙ first.kind;
  reading = record {
    faithful = λ place file image h. first.reading.faithful place file image (second.reading.faithful place file image h);
    faithful_back = λ place file image h. second.reading.faithful_back place file image (first.reading.faithful_back place file image h);
    stands = λ images gist h. first.reading.stands images gist (second.reading.stands images gist h);
    stands_back = λ images gist h. second.reading.stands_back images gist (first.reading.stands_back images gist h);
  };
}

-- what is answered is this fault
pub if_err : {T : Type 0} (outer : Result T ExecFault) (fault : ExecFault) (P : ExecFault → Type 0) → IsErrAnd outer (λ e. e ≡ fault) → P fault → IfErr outer P
if_err (Ok value) fault P is p = absurd is
if_err (Err e) fault P is p = subst P (sym is) p

pub not_device : {V : Type 0} (value : V) → IsDevice (Ok value) → ⊥
not_device value is = cc

pub memory_no_device : (V : Type 0) → IsDevice {T = V} (Err Memory) → ⊥
memory_no_device V is = cc

pub is_device : {V : Type 0} (e : ExecFault) → IsDevice {T = V} (Err e) → e ≡ Device
is_device e is = cc

goes_as : (V T : Type 0) (f : ExecFault) → GoesOn {T = V} (Err f) → GoesOn {T = T} (Err f)
goes_as V T (Refused it) goes = tt
goes_as V T Device goes = goes
goes_as V T (NotAVolume file) goes = tt
goes_as V T Memory goes = tt

pub same_goes : {T U : Type 0} (inner : Result T ExecFault) (outer : Result U ExecFault) (fault : ExecFault) → inner ≡ Err fault → IsErrAnd outer (λ e. e ≡ fault)
    → (GoesOn outer → GoesOn inner) × (IsDevice outer → IsDevice inner)
same_goes {T = T} {U = U} inner (Ok value) fault is tells = absurd tells
same_goes {T = T} {U = U} inner (Err e) fault is tells =
    let at : inner ≡ Err e = is ∙ ap (λ (f : ExecFault). Err f) (sym tells) in (
      λ goes. subst (λ (r : Result T ExecFault). GoesOn r) (sym at) (goes_as U T e goes),
      λ device. at ∙ ap (λ (f : ExecFault). Err f) (is_device {V = U} e device),
    )

-- A call behind a run answers a fault, and so does the statement.
pub run_fails : {T U V : Type 0} (kind kind_mid : Kind) (reading reading_mid : Reading) (value : T) (inner : Result U ExecFault) (outer : Result V ExecFault) (fault : ExecFault) (s mid new : EngineState)
    (held holds : List File → Type 0) (a b d : Disk)
    → CarriesOut kind reading (Ok value) s s mid held a b → IsSame kind kind_mid reading reading_mid → CarriesOut kind_mid reading_mid inner mid mid new holds b d
    → inner ≡ Err fault → IsErrAnd outer (λ e. e ≡ fault) → CarriesOut kind reading outer s s new holds a d
run_fails kind kind_mid reading reading_mid value inner outer fault s mid new held holds a b d first same second is tells =
    let goes = same_goes inner outer fault is tells in
    told_as inner outer s new holds a d (run_on kind kind_mid reading reading_mid value inner s mid new held holds a b d first same second) goes.0 goes.1

-- A call behind a run is done, and the statement goes on.
pub run_more : {T U V : Type 0} (kind kind_mid : Kind) (reading reading_mid : Reading) (value : T) (done : U) (other : V) (s mid new : EngineState) (held holds : List File → Type 0) (a b d : Disk)
    → CarriesOut kind reading (Ok value) s s mid held a b → IsSame kind kind_mid reading reading_mid → CarriesOut kind_mid reading_mid (Ok done) mid mid new holds b d
    → CarriesOut kind reading (Ok other) s s new holds a d
run_more kind kind_mid reading reading_mid value done other s mid new held holds a b d first same second =
    told_as (Ok done) (Ok other) s new holds a d (run_on kind kind_mid reading reading_mid value (Ok done) s mid new held holds a b d first same second) (λ goes. tt) (λ is. absurd (not_device other is))

-- A statement is refused behind a run.
pub run_refused : {T V : Type 0} (kind : Kind) (reading : Reading) (value : T) (outer : Result V ExecFault) (fault : ExecFault) (refusal : Option Refusal) (s new : EngineState) (holds : List File → Type 0) (a b : Disk)
    → CarriesOut kind reading (Ok value) s s new holds a b → FailsFor refusal fault → IsErrAnd outer (λ e. e ≡ fault) → CarriesOut kind reading outer s s new holds a b
run_refused kind reading value outer fault refusal s new holds a b runs fails tells = told_as (Ok value) outer s new holds a b runs (λ goes. tt) (λ is. absurd (none outer tells is))
  where
    none : {V : Type 0} (r : Result V ExecFault) → IsErrAnd r (λ e. e ≡ fault) → IsDevice r → ⊥
    none (Ok it) is device = not_device it device
    none {V = V} (Err e) is device = subst (FailsFor refusal) (sym is ∙ is_device {V = V} e device) fails
