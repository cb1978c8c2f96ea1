-- How the calls of one engine follow one another.
use Rattle.std.proofs.Common.{◌≡◌, ℕ, zero, suc, ◌≤◌, List, [], ◌∷◌, ◌++◌, Option, Some, None, Result, Ok, refl, sym, ap, subst, ◌∙◌, arith, map, IsTrue}
use Rattle.std.specs.Prelude.{Contains, Err, IsErrAnd}
use Rattle.fault_counts.specs.Rose.{Rose}
use Rattle.disk_model.specs.File.{File}
use Rattle.disk_model.specs.Disk.{Disk, now, HasCause}
use Rattle.disk_model.proofs.Moments.{both, weaker, started}
use Rattle.row_format.specs.declared.change.Transaction.{Transaction}
use Rattle.log_tables.specs.declared.gist.Gist.{Gist}
use Rattle.engine_api.specs.declared.fault.EngineFault.{EngineFault}
use Rattle.engine_api.specs.States.{Kind, EngineState, begun_state, resolved, resolved_state, dropped_state}
use Rattle.log_tables.specs.Gists.{prepared_with}
use Rattle.engine_api.specs.Reads.{Reading, SameReading, EachReads, OnlyIn, files_in}
use Rattle.engine_api.specs.Calls.{IsDevice, IsSame, Turns, AnswersOnly, MayCome}
use Rattle.engine_api.specs.Many.{Working}
use Rattle.engine_api.proofs.ManyLemmas.{faithful_as, reads_as, same_itself, same_reading}
use Rattle.xid_recovery.specs.Recovers.{GoesWith, IsIdle}
use Rattle.xid_recovery.specs.Running.{Aims, EachAims, Ran}

-- what images read as

reads_all : (kind : Kind) (aim : Option (List Transaction)) (reading : Reading) (gists : List Gist) (files : List File) → ((g : Gist) → Contains gists g → Aims kind aim g)
    → EachReads reading gists files → EachAims kind aim reading files
reads_all kind None reading gists files all reads = tt
reads_all kind (Some log) reading gists files all reads = λ images faithful.
    let it = reads images faithful in
    (it.0, all it.0 it.1, it.2)

-- images that read as gists that are aimed at
pub each_aims : (kind : Kind) (aim : Option (List Transaction)) (was is : Reading) (gists : List Gist) (files : List File) → SameReading was is
    → ((g : Gist) → Contains gists g → Aims kind aim g) → EachReads is gists files → EachAims kind aim was files
each_aims kind aim was is gists files same all reads = reads_all kind aim was gists files all (reads_as was is gists gists files same (λ g h. h) reads)

both_aim : (kind : Kind) (aim : Option (List Transaction)) (a b : Gist) → Aims kind aim a → Aims kind aim b → (g : Gist) → Contains (a ∷ b ∷ []) g → Aims kind aim g
both_aim kind aim a b p q g (zero, lt, is) = subst (Aims kind aim) is p
both_aim kind aim a b p q g (suc zero, lt, is) = subst (Aims kind aim) is q
both_aim kind aim a b p q g (suc (suc k), lt, is) = absurd (omega (arith, lt))

-- runs of calls

-- before the first call
pub ran_none : (was : Working) (aim : Option (List Transaction)) (d : Disk) → IsIdle was d → Aims was.kind aim was.state.gist → Ran was was aim d d
ran_none was aim d idle aims = record {
  same = record { kind = refl; reading = same_itself was.reading };
  told = refl;
  later = omega arith;
  no_fewer = omega arith;
  moments = λ told. started d (OnlyIn was.kind.files (now d) (EachAims was.kind aim was.reading))
      ((λ f not. refl), each_aims was.kind aim was.reading was.reading (was.state.gist ∷ []) (files_in was.kind.files d) (same_itself was.reading) only (idle.files told).1);
}
  where
    only : (g : Gist) → Contains (was.state.gist ∷ []) g → Aims was.kind aim g
    only g (zero, lt, is) = subst (Aims was.kind aim) is aims
    only g (suc k, lt, is) = absurd (omega (arith, lt))

-- one call more
pub ran_call : {T : Type 0} (was it new : Working) (aim : Option (List Transaction)) (result : Result T EngineFault) (next : EngineState) (start a b : Disk)
    → Ran was it aim start a → IsSame it.kind new.kind it.reading new.reading → Turns it.kind it.reading result next it.state new.state new.holds a b
    → ((g : Gist) → Contains (it.state.kept ++ next.kept) g → Aims was.kind aim g) → Ran was new aim start b
ran_call was it new aim result next start a b ran same turns all = record {
  same = record { kind = same.kind ∙ ran.same.kind; reading = same_reading was.reading it.reading new.reading ran.same.reading same.reading };
  told = turns.cause.told ∙ ran.told;
  later = omega (arith, ran.later, turns.cause.later);
  no_fewer = omega (arith, ran.no_fewer, turns.cause.no_fewer);
  moments = λ told. both start a b P (ran.moments told) (weaker a b (OnlyIn it.kind.files (now a) (EachReads it.reading (it.state.kept ++ next.kept))) P (at_each told) (turns.moments (subst IsTrue (sym ran.told) told)));
}
  where
    P : (ℕ → File) → Type 0
    P files = OnlyIn was.kind.files (now start) (EachAims was.kind aim was.reading) files

    numbers : it.kind.files ≡ was.kind.files
    numbers = ap (λ (k : Kind). k.files) ran.same.kind

    at_each : IsTrue start.told → (files : ℕ → File) → OnlyIn it.kind.files (now a) (EachReads it.reading (it.state.kept ++ next.kept)) files → P files
    at_each told files only = (
      (λ f not. only.0 f (λ here. not (subst (λ ks. Contains ks f) numbers here)) ∙ ((ran.moments told).each a.calls ran.later (omega arith)).0 f not),
      subst (λ ks. EachAims was.kind aim was.reading (map files ks)) numbers
          (each_aims was.kind aim was.reading it.reading (it.state.kept ++ next.kept) (map files it.kind.files) ran.same.reading all only.1),
    )

-- one run after another
pub ran_both : (was it new : Working) (aim : Option (List Transaction)) (start a b : Disk) → Ran was it aim start a → Ran it new aim a b → Ran was new aim start b
ran_both was it new aim start a b first second = record {
  same = record { kind = second.same.kind ∙ first.same.kind; reading = same_reading was.reading it.reading new.reading first.same.reading second.same.reading };
  told = second.told ∙ first.told;
  later = omega (arith, first.later, second.later);
  no_fewer = omega (arith, first.no_fewer, second.no_fewer);
  moments = λ told. both start a b P (first.moments told) (weaker a b (OnlyIn it.kind.files (now a) (EachAims it.kind aim it.reading)) P (at_each told) (second.moments (subst IsTrue (sym first.told) told)));
}
  where
    P : (ℕ → File) → Type 0
    P files = OnlyIn was.kind.files (now start) (EachAims was.kind aim was.reading) files

    aims_as : (aim : Option (List Transaction)) (files : List File) → EachAims it.kind aim it.reading files → EachAims was.kind aim was.reading files
    aims_as None files h = tt
    aims_as (Some log) files h = λ images faithful.
        let at = h images (faithful_as was.reading it.reading 0 files images first.same.reading faithful) in
        (at.0, subst (λ (k : Kind). GoesWith k log at.0) first.same.kind at.1, first.same.reading.stands images at.0 at.2)

    at_each : IsTrue start.told → (files : ℕ → File) → OnlyIn it.kind.files (now a) (EachAims it.kind aim it.reading) files → P files
    at_each told files only = (
      (λ f not. only.0 f (λ here. not (subst (λ (k : Kind). Contains k.files f) first.same.kind here)) ∙ ((first.moments told).each a.calls first.later (omega arith)).0 f not),
      subst (λ (k : Kind). EachAims was.kind aim was.reading (map files k.files)) first.same.kind (aims_as aim (map files it.kind.files) only.1),
    )

-- After a call that answered Ok the engine is between two calls again.
pub idle_after : {T : Type 0} (it new : Working) (value : T) (next : EngineState) (a b : Disk)
    → IsSame it.kind new.kind it.reading new.reading → Turns it.kind it.reading (Ok value) next it.state new.state new.holds a b → next ≡ begun_state next.gist → IsIdle new b
idle_after it new value next a b same turns begins = record { begun = begun; files = files }
  where
    begun : new.state ≡ begun_state new.state.gist
    begun = turns.ok ∙ begins ∙ ap (λ (s : EngineState). begun_state s.gist) (sym turns.ok)

    files : IsTrue b.told → new.holds (files_in new.kind.files b) × EachReads new.reading (new.state.gist ∷ []) (files_in new.kind.files b)
    files told =
        let now_is = turns.files (subst IsTrue turns.cause.told told) tt in
        let at : files_in new.kind.files b ≡ files_in it.kind.files b = ap (λ (k : Kind). files_in k.files b) same.kind in
        let reads = subst (λ (s : EngineState). EachReads it.reading s.kept (files_in it.kind.files b)) begun now_is.1 in (
          subst new.holds (sym at) now_is.0,
          subst (EachReads new.reading (new.state.gist ∷ [])) (sym at) (reads_as new.reading it.reading (new.state.gist ∷ []) (new.state.gist ∷ []) (files_in it.kind.files b)
              (record { faithful = same.reading.faithful_back; faithful_back = same.reading.faithful; stands = same.reading.stands_back; stands_back = same.reading.stands }) (λ g h. h) reads),
        )

-- states between two calls

pub resolved_begun : (xid number : ℕ) (state : EngineState) → state ≡ begun_state state.gist → resolved_state xid number state ≡ begun_state (resolved_state xid number state).gist
resolved_begun xid number state begun = ap (λ (s : EngineState). record { gist = (resolved_state xid number state).gist; pending = s.pending; kept = (resolved_state xid number state).gist ∷ [] }) begun

pub dropped_begun : (xid : ℕ) (state : EngineState) → state ≡ begun_state state.gist → dropped_state xid state ≡ begun_state (dropped_state xid state).gist
dropped_begun xid state begun = ap (λ (s : EngineState). record { gist = (dropped_state xid state).gist; pending = s.pending; kept = (dropped_state xid state).gist ∷ [] }) begun

-- where nothing is prepared under the xid, a commit by it changes nothing
pub resolved_still : (xid number : ℕ) (state : EngineState) → state ≡ begun_state state.gist → prepared_with xid state.gist.prepared ≡ None → state ≡ resolved_state xid number state
resolved_still xid number state begun none =
    begun ∙ sym (resolved_begun xid number state begun ∙ ap (λ o. begun_state (resolved o number state.gist)) none)

-- between two calls of which the second ends in this state, an image reads as one of two gists
pub kept_aims : (kind : Kind) (aim : Option (List Transaction)) (state next : EngineState) → state ≡ begun_state state.gist → next ≡ begun_state next.gist → Aims kind aim state.gist → Aims kind aim next.gist
    → (g : Gist) → Contains (state.kept ++ next.kept) g → Aims kind aim g
kept_aims kind aim state next p q at_first after g h =
    both_aim kind aim state.gist next.gist at_first after g
    (subst (λ ks. Contains ks g) (ap (λ (s : EngineState). s.kept ++ next.kept) p ∙ ap (λ (s : EngineState). state.gist ∷ s.kept) q) h)

-- What a failing call says of the device it says of the whole.
pub fails : {T U : Type 0} (inner : Result T EngineFault) (whole : Result U EngineFault) (was it : Working) (start a b : Disk)
    → Ran was it None start a → HasCause IsDevice inner a b → (IsDevice whole → IsDevice inner) → HasCause IsDevice whole start b
fails inner whole was it start a b ran cause blames = record {
  told = cause.told ∙ ran.told;
  later = omega (arith, ran.later, cause.later);
  no_fewer = omega (arith, ran.no_fewer, cause.no_fewer);
  cause = λ is. rose start.faults a.faults b.faults ran.no_fewer (cause.cause (blames is));
}
  where
    rose : (x y z : ℕ) → x ≤ y → Rose y z → Rose x z
    rose x y z le h = grind arith

-- A run that ended well blames nothing.
pub blames_none : {T : Type 0} (whole : Result T EngineFault) (was it : Working) (start a : Disk) → Ran was it None start a → (IsDevice whole → ⊥) → HasCause IsDevice whole start a
blames_none whole was it start a ran none = record {
  told = ran.told;
  later = ran.later;
  no_fewer = ran.no_fewer;
  cause = λ is. absurd (none is);
}

same_fault : {T U : Type 0} (inner : Result T EngineFault) (outer : Result U EngineFault) (it : EngineFault) → inner ≡ Err it → IsErrAnd outer (λ e. e ≡ it)
    → (e : EngineFault) → outer ≡ Err e → inner ≡ Err e
same_fault inner (Ok value) it is same e of = absurd same
same_fault inner (Err x) it is same e of = let first = same in cc

-- What a failing call answers the whole answers.
pub answers_on : {T U : Type 0} (was it : Working) (start a : Disk) (inner : Result T EngineFault) (outer : Result U EngineFault) (fault : EngineFault)
    → Ran was it None start a → AnswersOnly [] it.kind.files a.told inner → inner ≡ Err fault → IsErrAnd outer (λ e. e ≡ fault) → AnswersOnly [] was.kind.files start.told outer
answers_on was it start a inner outer fault ran only is same e of =
    subst (λ (k : Kind). MayCome [] k.files start.told e) ran.same.kind
    (subst (λ told. MayCome [] it.kind.files told e) ran.told (only e (same_fault inner outer fault is same e of)))
