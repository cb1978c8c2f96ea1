-- How the engines of a list sync, one after the other.
use Rattle.std.proofs.Common.{◌≡◌, ℕ, zero, suc, ◌+◌, ◌<◌, ◌≤◌, List, [], ◌∷◌, map, set, get_or, length, take, refl, sym, ap, subst, ◌∙◌, arith, IsTrue, Bool, Result, Ok}
use Rattle.std.specs.Prelude.{Contains, All, Err, IsErrAnd}
use Rattle.std.proofs.lemmas.List.Elements.{Contains-append_left}
use Rattle.disk_model.specs.File.{File, IsSettled}
use Rattle.disk_model.specs.Disk.{Disk, now, Keeps, HasCause}
use Rattle.disk_model.proofs.Moments.{both, weaker, started}
use Rattle.fault_counts.specs.Rose.{Rose}
use Rattle.engine_api.specs.declared.fault.EngineFault.{EngineFault}
use Rattle.engine_api.specs.declared.fault.EngineFault.TheVariants.{Code as code, Device, NotAVolume, Memory}
use Rattle.engine_api.specs.States.{Kind, EngineState, synced_state}
use Rattle.engine_api.specs.Reads.{EachReads, OnlyIn}
use Rattle.engine_api.specs.Calls.{IsDevice, IsSame, Turns, MayCome, AnswersOnly}
use Rattle.engine_api.specs.Many.{Working, AllApart, IsAtWork, AllAtWork, IsFileOf, MayComeOf, AnswersOf, while_syncing, AllRead, AllMoments, SyncedUpTo, AllSettled, SoFar}
use Rattle.engine_api.proofs.ManyLemmas.{first_of, kinds_of, reads_as, same_itself, work_after, settled_after, read_while, one_more, none_yet, same_kinds, told_kinds, file_at}

read_now : {X : Type 0} (tells : X → Working) (xs : List X) (files : ℕ → File) → AllAtWork (map tells xs) files → AllRead (map tells xs) files
read_now tells [] files h = tt
read_now tells (x ∷ xs) files h =
    let it = tells x in (
      reads_as it.reading it.reading it.state.kept (while_syncing it.state) (map files it.kind.files) (same_itself it.reading) (λ g k. Contains-append_left it.state.kept (it.state.gist ∷ []) g k) h.0.reads,
      read_now tells xs files h.1,
    )

-- Before the first call.
pub begins : {X : Type 0} (tells : X → Working) (xs : List X) (d : Disk) → (IsTrue d.told → AllAtWork (map tells xs) (now d)) → SoFar (map tells xs) d 0 (map tells xs) d
begins tells xs d work = record {
  synced = none_yet tells xs;
  told = refl;
  later = omega arith;
  no_fewer = omega arith;
  settled = λ told. tt;
  at_work = work;
  moments = λ told. started d (AllMoments (map tells xs) (now d)) (record { others = λ f not. refl; read = read_now tells xs (now d) (work told) });
}

-- While the engine at a place turns, the moments go on.
pub moments_on : {X : Type 0} {T : Type 0} (tells : X → Working) (os xs : List X) (n : ℕ) (d : X) (result : Result T EngineFault) (new : EngineState) (holds : List File → Type 0) (start a b : Disk)
    → AllApart (kinds_of tells os) → SoFar (map tells os) start n (map tells xs) a → n < length xs
    → Turns (tells (get_or xs n d)).kind (tells (get_or xs n d)).reading result (synced_state (tells (get_or xs n d)).state) (tells (get_or xs n d)).state new holds a b
    → IsTrue start.told → Keeps start b (AllMoments (map tells os) (now start))
moments_on tells os xs n d result new holds start a b apart far lt turns told =
    both start a b P (far.moments told) (weaker a b (OnlyIn it.kind.files (now a) (EachReads it.reading (while_syncing it.state))) P at_each (turns.moments told_a))
  where
    it : Working
    it = tells (get_or xs n d)

    P : (ℕ → File) → Type 0
    P files = AllMoments (map tells os) (now start) files

    told_a : IsTrue a.told
    told_a = subst IsTrue (sym far.told) told

    apart_now : AllApart (kinds_of tells xs)
    apart_now = subst AllApart (sym (same_kinds tells os xs n far.synced)) apart

    mine : (f : ℕ) → Contains it.kind.files f → IsFileOf (map (λ w. w.kind) (map tells os)) f
    mine f h = subst (λ ks. IsFileOf ks f) (same_kinds tells os xs n far.synced ∙ sym (told_kinds tells os)) (file_at tells xs n d f lt h)

    at_each : (files : ℕ → File) → OnlyIn it.kind.files (now a) (EachReads it.reading (while_syncing it.state)) files → P files
    at_each files only = record {
      others = λ f not. only.0 f (λ here. not (mine f here)) ∙ ((far.moments told).each a.calls far.later (omega arith)).others f not;
      read = read_while tells os xs n d files (now a) lt apart_now only.0 far.synced (far.at_work told) only.1;
    }

-- One engine more has synced.
pub goes_on : {X : Type 0} (tells : X → Working) (os xs : List X) (n : ℕ) (y d : X) (value : Unit {0}) (start a b : Disk)
    → AllApart (kinds_of tells os) → SoFar (map tells os) start n (map tells xs) a → n < length xs
    → IsSame (tells (get_or xs n d)).kind (tells y).kind (tells (get_or xs n d)).reading (tells y).reading
    → Turns (tells (get_or xs n d)).kind (tells (get_or xs n d)).reading (Ok value) (synced_state (tells (get_or xs n d)).state) (tells (get_or xs n d)).state (tells y).state (tells y).holds a b
    → (IsTrue a.told → All IsSettled (map (now b) (tells (get_or xs n d)).kind.files)) → SoFar (map tells os) start (n + 1) (map tells (set xs n y)) b
goes_on tells os xs n y d value start a b apart far lt same turns here_settled =
    let one : suc n ≡ n + 1 = omega arith in
    record {
      synced = subst (λ k. SyncedUpTo k (map tells os) (map tells (set xs n y))) one (one_more tells os xs n y d lt far.synced same turns.ok);
      told = turns.cause.told ∙ far.told;
      later = omega (arith, far.later, turns.cause.later);
      no_fewer = omega (arith, far.no_fewer, turns.cause.no_fewer);
      settled = settled;
      at_work = work;
      moments = moments_on tells os xs n d (Ok value) (tells y).state (tells y).holds start a b apart far lt turns;
    }
  where
    it : Working
    it = tells (get_or xs n d)

    here : IsTrue a.told → IsAtWork (tells y) (now b)
    here told =
        let at : map (now b) (tells y).kind.files ≡ map (now b) it.kind.files = ap (λ (k : Kind). map (now b) k.files) same.kind in
        let now_is = turns.files told tt in
        let reads = reads_as (tells y).reading it.reading (tells y).state.kept (tells y).state.kept (map (now b) it.kind.files)
        (record { faithful = same.reading.faithful_back; faithful_back = same.reading.faithful; stands = same.reading.stands_back; stands_back = same.reading.stands }) (λ g h. h) now_is.1 in
        record { holds = subst (tells y).holds (sym at) now_is.0; reads = subst (EachReads (tells y).reading (tells y).state.kept) (sym at) reads }

    told_a : IsTrue start.told → IsTrue a.told
    told_a told = subst IsTrue (sym far.told) told

    apart_now : AllApart (kinds_of tells xs)
    apart_now = subst AllApart (sym (same_kinds tells os xs n far.synced)) apart

    others : IsTrue start.told → (f : ℕ) → (Contains it.kind.files f → ⊥) → now b f ≡ now a f
    others told = ((turns.moments (told_a told)).each b.calls turns.cause.later (omega arith)).0

    work : IsTrue start.told → AllAtWork (map tells (set xs n y)) (now b)
    work told = work_after tells xs n y d (now b) (now a) lt apart_now (others told) (far.at_work told) (here (told_a told))

    settled : IsTrue start.told → AllSettled (take (n + 1) (map (λ w. w.kind) (map tells os))) (now b)
    settled told =
        let one : suc n ≡ n + 1 = omega arith in
        let kinds : map (λ w. w.kind) (map tells os) ≡ kinds_of tells xs = told_kinds tells os ∙ sym (same_kinds tells os xs n far.synced) in
        let was = subst (λ ks. AllSettled (take n ks) (now a)) kinds (far.settled told) in
        let is = settled_after tells xs n d (now b) (now a) lt apart_now (others told) was (here_settled (told_a told)) in
        subst (λ ks. AllSettled (take (n + 1) ks) (now b)) (sym kinds) (subst (λ k. AllSettled (take k (kinds_of tells xs)) (now b)) one is)

-- A call failed: the counts go on, and the device is blamed only where its count rose.
pub fails : {T U : Type 0} (result : Result T EngineFault) (whole : Result U EngineFault) (olds news : List Working) (n : ℕ) (start a b : Disk)
    → SoFar olds start n news a → HasCause IsDevice result a b → (IsDevice whole → IsDevice result) → HasCause IsDevice whole start b
fails result whole olds news n start a b far cause blames = record {
  told = cause.told ∙ far.told;
  later = omega (arith, far.later, cause.later);
  no_fewer = omega (arith, far.no_fewer, cause.no_fewer);
  cause = λ is. rose start.faults a.faults b.faults far.no_fewer (cause.cause (blames is));
}
  where
    rose : (x y z : ℕ) → x ≤ y → Rose y z → Rose x z
    rose x y z le h = grind arith

work_at : {X : Type 0} (tells : X → Working) (xs : List X) (n : ℕ) (d : X) (files : ℕ → File) → n < length xs → AllAtWork (map tells xs) files → IsAtWork (tells (get_or xs n d)) files
work_at tells [] n d files lt h = absurd (omega (arith, lt))
work_at tells (x ∷ xs) zero d files lt h = h.0
work_at tells (x ∷ xs) (suc n) d files lt h = work_at tells xs n d files (omega (arith, lt)) h.1

-- The files of the engine whose turn it is are what it takes them for.
pub holds_now : {X : Type 0} (tells : X → Working) (olds : List Working) (xs : List X) (n : ℕ) (d : X) (start a : Disk) → n < length xs
    → SoFar olds start n (map tells xs) a → IsTrue a.told → (tells (get_or xs n d)).holds (map (now a) (tells (get_or xs n d)).kind.files)
holds_now tells olds xs n d start a lt far told = (work_at tells xs n d (now a) lt (far.at_work (subst IsTrue far.told told))).holds

-- a fault that may come of one engine may come of engines whose files have its own among them
may_come_of : (kinds : List Kind) (files : List ℕ) (told : Bool) → ((f : ℕ) → Contains files f → IsFileOf kinds f) → (fault : EngineFault)
    → MayCome [] files told fault → MayComeOf kinds told fault
may_come_of kinds files told mine (code it) h = let lt = h.1 in absurd (omega (arith, lt))
may_come_of kinds files told mine Device h = tt
may_come_of kinds [] told mine (NotAVolume file) h = absurd h
may_come_of kinds (first ∷ files) told mine (NotAVolume file) h =
    (h.0, subst (λ f. IsFileOf kinds f) (sym h.1) (mine first (first_of first files)))
may_come_of kinds files told mine Memory h = tt

same_fault : {T U : Type 0} (inner : Result T EngineFault) (outer : Result U EngineFault) (it : EngineFault) → inner ≡ Err it → IsErrAnd outer (λ e. e ≡ it)
    → (e : EngineFault) → outer ≡ Err e → inner ≡ Err e
same_fault inner (Ok value) it is same e of = absurd same
same_fault inner (Err x) it is same e of = let first = same in cc

-- What the engine at a place answers, the call answers.
pub answers_on : {X : Type 0} {T U : Type 0} (tells : X → Working) (os xs : List X) (n : ℕ) (d : X) (inner : Result T EngineFault) (outer : Result U EngineFault)
    (it : EngineFault) (start a : Disk) → SoFar (map tells os) start n (map tells xs) a → n < length xs
    → AnswersOnly [] (tells (get_or xs n d)).kind.files a.told inner → inner ≡ Err it → IsErrAnd outer (λ e. e ≡ it)
    → AnswersOf (kinds_of tells os) start.told outer
answers_on tells os xs n d inner outer it start a far lt only is same fault of =
    may_come_of (kinds_of tells os) (tells (get_or xs n d)).kind.files start.told
    (λ f h. subst (λ ks. IsFileOf ks f) (same_kinds tells os xs n far.synced) (file_at tells xs n d f lt h)) fault
    (subst (λ told. MayCome [] (tells (get_or xs n d)).kind.files told fault) far.told (only fault (same_fault inner outer it is same fault of)))
