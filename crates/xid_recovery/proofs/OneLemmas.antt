-- One engine from its beginning to its report.
use Rattle.std.proofs.Common.{◌≡◌, inl, inr, ℕ, zero, suc, ◌+◌, ◌-◌, ◌<◌, ◌≤◌, List, [], ◌∷◌, Option, Some, None, Bool, true, false, Result, Ok, refl, sym, ap, subst, ◌∙◌, arith, map, length, IsTrue}
use Rattle.std.proofs.lemmas.Bool.Decides.{nat_tests}
use Rattle.std.specs.Prelude.{Contains, Err, IsErrOf, ◌==◌, ◌||◌, ◌&&◌, not, nat_lt}
use Rattle.std.specs.BTreeSet.{BTreeSet, contains}
use Rattle.std.specs.List.Sorted.{IsStrictlySortedBy}
use Rattle.std.specs.Ordering.{nat_cmp}
use Rattle.std.specs.Cmp.{nat_cmp_total}
use Rattle.std.proofs.lemmas.Map.Views.{btree_set_contains_iff}
use Rattle.std.proofs.lemmas.Map.Lookups.{exact_unsigned}
use Rattle.std.proofs.lemmas.Bool.Decides.{eqb_tells}
use Rattle.fault_counts.specs.Rose.{Rose}
use Rattle.disk_model.specs.File.{File}
use Rattle.disk_model.specs.Disk.{Disk, now, Keeps, HasCause}
use Rattle.disk_model.proofs.Moments.{weaker}
use Rattle.row_format.specs.declared.change.Transaction.{Transaction}
use Rattle.log_tables.specs.declared.gist.Prepared.{Prepared}
use Rattle.log_tables.specs.declared.gist.Gist.{Gist}
use Rattle.log_tables.specs.Gists.{is_prepared}
use Rattle.recovery_rules.proofs.TrailsLemmas.{IsAtLog-none_prepared}
use Rattle.engine_api.specs.declared.fault.Code.{Code}
use Rattle.engine_api.specs.declared.fault.EngineFault.{EngineFault}
use Rattle.engine_api.specs.declared.fault.EngineFault.TheVariants.{Code as code, Device as device, NotAVolume as not_a_volume, Memory as memory}
use Rattle.engine_api.specs.States.{Kind, EngineState, begun_state}
use Rattle.engine_api.specs.Reads.{Reading, AreAtStart, EachReads, EachReadsAs, OnlyIn, files_in, bytes_in}
use Rattle.engine_api.specs.Calls.{IsDevice, IsSame, Turns, AnswersOnly, MayCome}
use Rattle.engine_api.specs.Many.{Working}
use Rattle.engine_api.proofs.ManyLemmas.{reads_as}
use Rattle.xid_recovery.specs.declared.report.EngineReport.{EngineReport}
use Rattle.xid_recovery.specs.declared.report.OpenFault.{OpenFault}
use Rattle.xid_recovery.specs.declared.report.OpenFault.TheVariants.{NotAVolume, EngineMissing, Ahead}
use Rattle.xid_recovery.specs.Faults.{opened}
use Rattle.xid_recovery.specs.Pairs.{has, xids_in, CountsXids}
use Rattle.xid_recovery.specs.Recovers.{IsIdle, IsBrought, IsDeviceFault, IsDoneOrOutside, GoesWith, IsRecoverableIn, Recovers, Reports, Found, IsReport, TellsOnly}
use Rattle.xid_recovery.specs.Running.{StandForOne, Fits, Aims, IsEnd, IsOnWay, EachAims, Ran, HasPrepared, SoFar, RollingBack, Tells}
use Rattle.xid_recovery.proofs.XidLemmas.{eqb_same, is_prepared-has, is_prepared-first, pairs-whole}
use Rattle.xid_recovery.proofs.WayLemmas.{aims_on_way, is_end}
use Rattle.xid_recovery.proofs.RunLemmas.{ran_none, ran_call, ran_both, idle_after, kept_aims}

-- the engine was asked for what it has prepared, and is as it was
pub record Looked (was it : Working) (start end : Disk) : Type 0 where
  pub idle : IsIdle it end
  pub state : it.state ≡ was.state
  pub ran : (aim : Option (List Transaction)) → Aims was.kind aim was.state.gist → Ran was it aim start end

-- While it is asked the run goes on.
pub ran_looked : {T : Type 0} (was it : Working) (result : Result T EngineFault) (a b : Disk) → IsIdle was a → IsSame was.kind it.kind was.reading it.reading
    → Turns was.kind was.reading result was.state was.state it.state it.holds a b → (aim : Option (List Transaction)) → Aims was.kind aim was.state.gist → Ran was it aim a b
ran_looked was it result a b idle same turns aim aims =
    ran_call was was it aim result was.state a a b (ran_none was aim a idle aims) same turns
    (kept_aims was.kind aim was.state was.state idle.begun idle.begun aims aims)

pub looked : {T : Type 0} (was it : Working) (value : T) (a b : Disk) → IsIdle was a → IsSame was.kind it.kind was.reading it.reading
    → Turns was.kind was.reading (Ok value) was.state was.state it.state it.holds a b → Looked was it a b
looked was it value a b idle same turns = record {
  idle = idle_after was it value was.state a b same turns idle.begun;
  state = turns.ok;
  ran = ran_looked was it (Ok value) a b idle same turns;
}

-- what is aimed at is the same for the engine as it is now
aims_now : (was it : Working) (start end : Disk) (aim : Option (List Transaction)) → Looked was it start end → Aims was.kind aim was.state.gist → Aims it.kind aim it.state.gist
aims_now was it start end aim looks aims =
    subst (λ (s : EngineState). Aims it.kind aim s.gist) (sym looks.state)
    (subst (λ (k : Kind). Aims k aim was.state.gist) (sym (looks.ran aim aims).same.kind) aims)

-- Commits follow.
pub ran_committed : (was it new : Working) (pairs : List (ℕ × ℕ)) (a b c : Disk) → Looked was it a b
    → ((aim : Option (List Transaction)) → Fits aim pairs → Aims it.kind aim it.state.gist → Ran it new aim b c)
    → (aim : Option (List Transaction)) → Fits aim pairs → Aims was.kind aim was.state.gist → Ran was new aim a c
ran_committed was it new pairs a b c looks runs aim fits aims =
    ran_both was it new aim a b c (looks.ran aim aims) (runs aim fits (aims_now was it a b aim looks aims))

-- the engine is behind all pairs on its way
way_done : (it mid : Working) (pairs : List (ℕ × ℕ)) (all left : BTreeSet ℕ) (b c : Disk) (aim : Option (List Transaction)) → SoFar it mid pairs (length pairs) all left b c
    → Fits aim pairs → Aims it.kind aim it.state.gist → IsOnWay mid.kind aim (length pairs) mid.state.gist
way_done it mid pairs all left b c aim far fits aims =
    subst (λ (k : Kind). IsOnWay k aim (length pairs) mid.state.gist) (sym (far.ran aim fits aims).same.kind) (far.on_way aim fits aims)

-- Rollbacks follow.
pub ran_rolled : (was it mid new : Working) (pairs : List (ℕ × ℕ)) (all left : BTreeSet ℕ) (a b c d : Disk) → Looked was it a b → SoFar it mid pairs (length pairs) all left b c
    → ((aim : Option (List Transaction)) (place : ℕ) → IsEnd aim place → IsOnWay mid.kind aim place mid.state.gist → Ran mid new aim c d)
    → (aim : Option (List Transaction)) → Fits aim pairs → Aims was.kind aim was.state.gist → Ran was new aim a d
ran_rolled was it mid new pairs all left a b c d looks far runs aim fits aims =
    let there = aims_now was it a b aim looks aims in
    ran_both was mid new aim a c d (ran_committed was it mid pairs a b c looks far.ran aim fits aims)
    (runs aim (length pairs) (is_end aim pairs (length pairs) fits (omega arith)) (way_done it mid pairs all left b c aim far fits there))

-- At the end the gist is as is aimed at.
pub aims_rolled : (was it mid new : Working) (pairs : List (ℕ × ℕ)) (all left rest : BTreeSet ℕ) (a b c d : Disk) → Looked was it a b → SoFar it mid pairs (length pairs) all left b c
    → RollingBack mid new rest c d → (aim : Option (List Transaction)) → Fits aim pairs → Aims was.kind aim was.state.gist → Aims was.kind aim new.state.gist
aims_rolled was it mid new pairs all left rest a b c d looks far rolling aim fits aims =
    let there = aims_now was it a b aim looks aims in
    let way = rolling.on_way aim (length pairs) (is_end aim pairs (length pairs) fits (omega arith)) (way_done it mid pairs all left b c aim far fits there) in
    subst (λ (k : Kind). Aims k aim new.state.gist) (ran_committed was it mid pairs a b c looks far.ran aim fits aims).same.kind
    (aims_on_way mid.kind aim (length pairs) new.state.gist way)

-- The set of what is prepared.
pub has_prepared : (was it : Working) (a b : Disk) (left : BTreeSet ℕ) (xs : List ℕ) → Looked was it a b → ((x : ℕ) → contains nat_cmp left x ≡ has x xs)
    → xs ≡ map (λ p. p.xid) was.state.gist.prepared → HasPrepared left it.state.gist
has_prepared was it a b left xs looks each is x =
    each x ∙ ap (has x) is ∙ sym (is_prepared-has x was.state.gist.prepared) ∙ ap (λ (s : EngineState). is_prepared x s.gist.prepared) (sym looks.state)

nothing_prepared : (ps : List Prepared) → ((x : ℕ) → is_prepared x ps ≡ false) → ps ≡ []
nothing_prepared [] none = refl
nothing_prepared (p ∷ ps) none = absurd (true_false (sym (ap (λ b. b || is_prepared p.xid ps) (eqb_same p.xid)) ∙ sym (is_prepared-first p.xid p ps) ∙ none p.xid))
  where
    true_false : true ≡ false → ⊥
    true_false q = cc

-- Once nothing is left nothing is prepared.
pub brought : (mid new : Working) (left : BTreeSet ℕ) (c d : Disk) → RollingBack mid new left c d → left.keys ≡ [] → IsBrought new d
brought mid new left c d rolling none = record {
  idle = rolling.idle;
  none_prepared = nothing_prepared new.state.gist.prepared (λ x. sym (rolling.prepared x) ∙ ap (λ ks. contains nat_cmp (record { keys = ks }) x) none);
}

-- counts

has_contains : (x : ℕ) (xs : List ℕ) → has x xs ≡ true → Contains xs x
has_contains x [] h = absurd (let z = h in cc)
has_contains x (y ∷ xs) h = elim (eqb_tells y x) [
  | inl same ↦ (0, omega arith, same.1)
  | inr other ↦
      let later = has_contains x xs (sym (ap (λ b. b || has x xs) other.0) ∙ h) in
      let lt = later.1 in
      (suc later.0, omega (arith, lt), later.2)
]

contains_has : (x : ℕ) (xs : List ℕ) → Contains xs x → has x xs ≡ true
contains_has x [] h = let lt = h.1 in absurd (omega (arith, lt))
contains_has x (y ∷ xs) (zero, lt, is) = ap (λ z. (z == x) || has x xs) is ∙ ap (λ b. b || has x xs) (eqb_same x)
contains_has x (y ∷ xs) (suc k, lt, is) = ap (λ b. (y == x) || b) (contains_has x xs (k, omega (arith, lt), is)) ∙ or_true (y == x)
  where
    or_true : (b : Bool) → (b || true) ≡ true
    or_true true = refl
    or_true false = refl

counted : (left : BTreeSet ℕ) (count : ℕ) (P : ℕ → Type 0) → IsStrictlySortedBy nat_cmp left.keys → count ≡ length left.keys
    → ((x : ℕ) → IsTrue (contains nat_cmp left x) → P x) → ((x : ℕ) → P x → IsTrue (contains nat_cmp left x)) → CountsXids count P
counted left count P rising is to from = record {
  xids = left.keys;
  rising = rising;
  each = λ x. ((λ h. to x ((btree_set_contains_iff nat_cmp_total exact_unsigned left x).1 h)), (λ p. (btree_set_contains_iff nat_cmp_total exact_unsigned left x).0 (from x p)));
  count_is = is;
}

-- The report tells what was done.
pub reports : (was it mid : Working) (pairs : List (ℕ × ℕ)) (all left : BTreeSet ℕ) (a b c : Disk) (report : EngineReport) (last first rest : ℕ) → Looked was it a b
    → HasPrepared all it.state.gist → SoFar it mid pairs (length pairs) all left b c
    → IsStrictlySortedBy nat_cmp all.keys → IsStrictlySortedBy nat_cmp left.keys → first ≡ length all.keys → rest ≡ length left.keys
    → report.name ≡ was.kind.name → report.last ≡ last → report.committed ≡ first - rest → report.rolled_back ≡ rest → Reports was.kind.name was.state.gist last pairs report
reports was it mid pairs all left a b c report last first rest looks has_all far rising_all rising_left first_is rest_is name_is last_is committed_is rolled_is = record {
  name_is = name_is;
  last_is = last_is;
  rolled_back = counted left report.rolled_back (λ x. IsTrue (is_prepared x was.state.gist.prepared) × (Contains (xids_in pairs) x → ⊥)) rising_left (rolled_is ∙ rest_is) to from;
  both = counted all (report.committed + report.rolled_back) (λ x. IsTrue (is_prepared x was.state.gist.prepared)) rising_all
      (sum report.committed report.rolled_back first rest (length all.keys) (length left.keys) committed_is rolled_is first_is rest_is far.fewer)
      (λ x h. sym (prepared_at x) ∙ h) (λ x h. prepared_at x ∙ h);
}
  where
    sum : (c b f r a l : ℕ) → c ≡ f - r → b ≡ r → f ≡ a → r ≡ l → l ≤ a → c + b ≡ a
    sum c b f r a l u v p q le = omega arith

    prepared_at : (x : ℕ) → contains nat_cmp all x ≡ is_prepared x was.state.gist.prepared
    prepared_at x = has_all x ∙ ap (λ (s : EngineState). is_prepared x s.gist.prepared) looks.state

    left_at : (x : ℕ) → contains nat_cmp left x ≡ (not (has x (xids_in pairs)) && is_prepared x was.state.gist.prepared)
    left_at x = far.without x ∙ ap (λ ps. not (has x (xids_in ps)) && contains nat_cmp all x) (pairs-whole pairs (length pairs) (omega arith))
        ∙ ap (λ b. not (has x (xids_in pairs)) && b) (prepared_at x)

    split : (a b : Bool) → (not a && b) ≡ true → (a ≡ false) × (b ≡ true)
    split true b h = absurd (let z = h in cc)
    split false b h = (refl, h)

    join : (a b : Bool) → (a ≡ true → ⊥) → b ≡ true → (not a && b) ≡ true
    join true b h q = absurd (h refl)
    join false b h q = q

    true_false : (a : Bool) → a ≡ true → a ≡ false → ⊥
    true_false a p q = cc

    to : (x : ℕ) → IsTrue (contains nat_cmp left x) → IsTrue (is_prepared x was.state.gist.prepared) × (Contains (xids_in pairs) x → ⊥)
    to x h =
        let both = split (has x (xids_in pairs)) (is_prepared x was.state.gist.prepared) (sym (left_at x) ∙ h) in
        (both.1, λ there. true_false (has x (xids_in pairs)) (contains_has x (xids_in pairs) there) both.0)

    from : (x : ℕ) → IsTrue (is_prepared x was.state.gist.prepared) × (Contains (xids_in pairs) x → ⊥) → IsTrue (contains nat_cmp left x)
    from x h = left_at x ∙ join (has x (xids_in pairs)) (is_prepared x was.state.gist.prepared) (λ q. h.1 (has_contains x (xids_in pairs) q)) h.0

-- the beginning

-- After its init the engine is between two calls.
pub begun_idle : (was it : Working) (start a : Disk) → IsSame was.kind it.kind was.reading it.reading → (gist : Gist) × (it.state ≡ begun_state gist) → a.told ≡ start.told
    → (IsTrue start.told → it.holds (files_in was.kind.files a) × EachReads was.reading (it.state.gist ∷ []) (files_in was.kind.files a)) → IsIdle it a
begun_idle was it start a same begun told files = record {
  begun = begun.1 ∙ ap (λ (s : EngineState). begun_state s.gist) (sym begun.1);
  files = λ is.
      let now_is = files (subst IsTrue told is) in
      let at : files_in it.kind.files a ≡ files_in was.kind.files a = ap (λ (k : Kind). files_in k.files a) same.kind in (
        subst it.holds (sym at) now_is.0,
        subst (EachReads it.reading (it.state.gist ∷ [])) (sym at) (reads_as it.reading was.reading (it.state.gist ∷ []) (it.state.gist ∷ []) (files_in was.kind.files a)
            (record { faithful = same.reading.faithful_back; faithful_back = same.reading.faithful; stands = same.reading.stands_back; stands_back = same.reading.stands }) (λ g h. h) now_is.1),
      );
}

-- where a log is aimed at, the engine is recoverable to it by its files
abbrev pub StartAims : Kind → Reading → Option (List Transaction) → Disk → Type 0
StartAims kind reading None disk = Unit {0}
StartAims kind reading (Some log) disk = IsRecoverableIn kind reading log disk

start_aims : (kind : Kind) (reading : Reading) (aim : Option (List Transaction)) (start : Disk) (files : List File) → StartAims kind reading aim start
    → EachReadsAs reading (files_in kind.files start) files → EachAims kind aim reading files
start_aims kind reading None start files aims reads = tt
start_aims kind reading (Some log) start files aims reads = λ images faithful.
    let before = reads images faithful in
    let gist = aims.images before.0 before.1 in
    (gist.0, gist.1, before.2 gist.0 gist.2)

-- While it begins the files read as is aimed at.
pub ran_begun : {T : Type 0} (was it : Working) (result : Result T EngineFault) (start a : Disk) → IsSame was.kind it.kind was.reading it.reading → HasCause IsDevice result start a
    → (IsTrue start.told → Keeps start a (OnlyIn was.kind.files (now start) (EachReadsAs was.reading (files_in was.kind.files start))))
    → (aim : Option (List Transaction)) → StartAims was.kind was.reading aim start → Ran was it aim start a
ran_begun was it result start a same cause moments aim aims = record {
  same = same;
  told = cause.told;
  later = cause.later;
  no_fewer = cause.no_fewer;
  moments = λ told. weaker start a (OnlyIn was.kind.files (now start) (EachReadsAs was.reading (files_in was.kind.files start))) (OnlyIn was.kind.files (now start) (EachAims was.kind aim was.reading))
      (λ files only. (only.0, start_aims was.kind was.reading aim start (map files was.kind.files) aims only.1)) (moments told);
}

-- the contents are a state at the start
at_contents : (reading : Reading) (place : ℕ) (numbers : List ℕ) (disk : Disk) → AreAtStart reading place (files_in numbers disk) (bytes_in numbers disk)
at_contents reading place [] disk = tt
at_contents reading place (n ∷ numbers) disk = (inl refl, at_contents reading (suc place) numbers disk)

-- From recoverable files an init does not say that a file is none.
pub begins_outside : (kind : Kind) (reading : Reading) (log : List Transaction) (start : Disk) (inner : Result (Unit {0}) EngineFault) (fault : EngineFault) → inner ≡ Err fault → IsTrue start.told
    → IsRecoverableIn kind reading log start
    → ((file : ℕ) → inner ≡ Err (not_a_volume file) → Contains kind.files file × (IsTrue start.told → (gist : Gist) → reading.stands (bytes_in kind.files start) gist → ⊥))
    → IsDoneOrOutside {T = EngineReport} (Err (opened fault))
begins_outside kind reading log start inner (code it) is told from not = tt
begins_outside kind reading log start inner device is told from not = tt
begins_outside kind reading log start inner (not_a_volume file) is told from not =
    let there = from.images (bytes_in kind.files start) (at_contents reading 0 kind.files start) in
    (not file is).1 told there.0 there.2
begins_outside kind reading log start inner memory is told from not = tt

-- the end

-- Of all other files a run says that they are as they were.
pub others : (was it : Working) (start b : Disk) → Ran was it None start b → IsTrue start.told → Keeps start b (OnlyIn was.kind.files (now start) (λ files. Unit {0}))
others was it start b ran told =
    weaker start b (OnlyIn was.kind.files (now start) (EachAims was.kind None was.reading)) (OnlyIn was.kind.files (now start) (λ files. Unit {0})) (λ files only. (only.0, tt)) (ran.moments told)

-- where the contents of recoverable files stand for one gist at most, it goes with the log
goes_contents : (kind : Kind) (reading : Reading) (log : List Transaction) (start : Disk) (gist : Gist) → StandForOne reading
    → IsRecoverableIn kind reading log start → reading.stands (bytes_in kind.files start) gist → GoesWith kind log gist
goes_contents kind reading log start gist one from stands =
    let there = from.images (bytes_in kind.files start) (at_contents reading 0 kind.files start) in
    subst (GoesWith kind log) (one.one (bytes_in kind.files start) there.0 gist there.2 stands) there.1

-- What the engine began with goes with the log.
pub goes_begun : (was it : Working) (log : List Transaction) (start : Disk) → IsSame was.kind it.kind was.reading it.reading → StandForOne was.reading
    → IsRecoverableIn was.kind was.reading log start → was.reading.stands (bytes_in was.kind.files start) it.state.gist → GoesWith it.kind log it.state.gist
goes_begun was it log start same one from stands =
    subst (λ (k : Kind). GoesWith k log it.state.gist) (sym same.kind) (goes_contents was.kind was.reading log start it.state.gist one from stands)

-- A run that ended with a fault from outside.
pub recovers_err : (was it : Working) (log : List Transaction) (fault : OpenFault) (start b : Disk) → Ran was it (Some log) start b → IsTrue start.told
    → IsDoneOrOutside {T = EngineReport} (Err fault) → Recovers was.kind was.reading log (Err fault) it.state start b
recovers_err was it log fault start b ran told outside = record { moments = ran.moments told; goes = tt; at_log = tt; answers = outside }

-- A run that ended well.
pub recovers_ok : (was it : Working) (log : List Transaction) (report : EngineReport) (start b : Disk) → Ran was it (Some log) start b → IsTrue start.told
    → GoesWith was.kind log it.state.gist → it.state.gist.prepared ≡ [] → Recovers was.kind was.reading log (Ok report) it.state start b
recovers_ok was it log report start b ran told goes none = record {
  moments = ran.moments told;
  goes = goes;
  at_log = IsAtLog-none_prepared was.kind.name log it.state.gist goes.trails none;
  answers = tt;
}

-- Of recoverable files the engine is not ahead.
pub recovers_ahead : (was it : Working) (log : List Transaction) (logged : ℕ) (fault : OpenFault) (start b : Disk) → StandForOne was.reading → Found was.kind was.reading start it.state.gist
    → nat_lt logged it.state.gist.last ≡ true → logged ≡ length log → IsTrue start.told → IsRecoverableIn was.kind was.reading log start
    → Recovers was.kind was.reading log (Err fault) it.state start b
recovers_ahead was it log logged fault start b one found ahead is told from =
    let low = (goes_contents was.kind was.reading log start it.state.gist one from (found told)).trails.not_ahead in
    let past = less logged it.state.gist.last ahead in
    absurd (omega (arith, low, is, past))
  where
    less : (a b : ℕ) → nat_lt a b ≡ true → a < b
    less a b h = grind arith

may_outside : (fault : EngineFault) (files : List ℕ) → MayCome [] files true fault → IsDoneOrOutside {T = EngineReport} (Err (opened fault))
may_outside (code it) files h = tt
may_outside device files h = tt
may_outside (not_a_volume file) [] h = absurd h
may_outside (not_a_volume file) (first ∷ files) h = absurd (let q = h.0 in cc)
may_outside memory files h = tt

-- Where contents are told, the calls behind the init do not say that a file is none.
pub calls_outside : {T : Type 0} (files : List ℕ) (told : Bool) (inner : Result T EngineFault) (fault : EngineFault) → AnswersOnly [] files told inner → inner ≡ Err fault → told ≡ true
    → IsDoneOrOutside {T = EngineReport} (Err (opened fault))
calls_outside files told inner fault only is here = may_outside fault files (subst (λ b. MayCome [] files b fault) here (only fault is))

-- which faults are told

-- the device is blamed where the call blamed it
pub blames : {T U : Type 0} (inner : Result T EngineFault) (fault : EngineFault) (outer : OpenFault) → inner ≡ Err fault → outer ≡ opened fault → IsDeviceFault {T = U} (Err outer) → IsDevice inner
blames inner (code it) outer is as_told at = absurd (let a = as_told in let b = at in cc)
blames inner device outer is as_told at = is
blames inner (not_a_volume file) outer is as_told at = absurd (let a = as_told in let b = at in cc)
blames inner memory outer is as_told at = absurd (let a = as_told in let b = at in cc)

is_none_of : (fault : EngineFault) (file : ℕ) → opened fault ≡ NotAVolume file → fault ≡ not_a_volume file
is_none_of (code it) file e = absurd (let a = e in cc)
is_none_of device file e = absurd (let a = e in cc)
is_none_of (not_a_volume f) file e = ap (λ x. not_a_volume x) (let a = e in cc)
is_none_of memory file e = absurd (let a = e in cc)

never_ahead_of : (fault : EngineFault) (name : List ℕ) (last log_last : ℕ) → opened fault ≡ Ahead name last log_last → ⊥
never_ahead_of (code it) name last log_last e = cc
never_ahead_of device name last log_last e = cc
never_ahead_of (not_a_volume f) name last log_last e = cc
never_ahead_of memory name last log_last e = cc

never_missing_of : (fault : EngineFault) (name : List ℕ) → opened fault ≡ EngineMissing name → ⊥
never_missing_of (code it) name e = cc
never_missing_of device name e = cc
never_missing_of (not_a_volume f) name e = cc
never_missing_of memory name e = cc

err_same : {T E : Type 0} {a b : E} → IsErrOf {T = T} (Err a) b → a ≡ b
err_same q = cc

-- A fault of a call is told as it is.
pub tells_call : {T : Type 0} (kind : Kind) (reading : Reading) (start : Disk) (logged : ℕ) (inner : Result T EngineFault) (fault : EngineFault) (outer : OpenFault)
    → inner ≡ Err fault → outer ≡ opened fault
    → ((file : ℕ) → inner ≡ Err (not_a_volume file) → Contains kind.files file × (IsTrue start.told → (gist : Gist) → reading.stands (bytes_in kind.files start) gist → ⊥))
    → TellsOnly kind reading start logged (Err outer)
tells_call kind reading start logged inner fault outer is as_told not = record {
  ahead = λ name last log_last e. absurd (never_ahead_of fault name last log_last (sym as_told ∙ err_same e));
  not_a_volume = λ file e. not file (is ∙ ap Err (is_none_of fault file (sym as_told ∙ err_same e)));
  none_missing = λ name e. never_missing_of fault name (sym as_told ∙ err_same e);
}

-- Behind the init a file is none only where contents are not told.
pub none_behind : {T : Type 0} (was it : Working) (start a : Disk) (inner : Result T EngineFault) → IsSame was.kind it.kind was.reading it.reading → a.told ≡ start.told → AnswersOnly [] it.kind.files a.told inner
    → (file : ℕ) → inner ≡ Err (not_a_volume file) → Contains was.kind.files file × (IsTrue start.told → (gist : Gist) → was.reading.stands (bytes_in was.kind.files start) gist → ⊥)
none_behind was it start a inner same told only file is =
    of was.kind.files (subst (λ (k : Kind). MayCome [] k.files start.told (not_a_volume file)) same.kind (subst (λ b. MayCome [] it.kind.files b (not_a_volume file)) told (only (not_a_volume file) is)))
  where
    of : (files : List ℕ) → MayCome [] files start.told (not_a_volume file) → Contains files file × (IsTrue start.told → (gist : Gist) → was.reading.stands (bytes_in was.kind.files start) gist → ⊥)
    of [] h = absurd h
    of (first ∷ files) h = ((0, omega arith, sym h.1), λ yes gist stands. (let a = h.0 in let b = yes in cc))

-- That the engine is ahead is told where it is.
pub tells_ahead : (was it : Working) (start : Disk) (logged : ℕ) (fault : OpenFault) → IsSame was.kind it.kind was.reading it.reading → Found was.kind was.reading start it.state.gist
    → logged < it.state.gist.last → Tells it.kind.name it.state.gist.last logged fault → TellsOnly was.kind was.reading start logged (Err fault)
tells_ahead was it start logged fault same found less tells = record {
  ahead = λ name last log_last e.
      let is = subst (Tells it.kind.name it.state.gist.last logged) (err_same e) tells in
      record { gist = it.state.gist; found = found; name_is = is.0 ∙ ap (λ (k : Kind). k.name) same.kind; last_is = is.1; log_last_is = is.2; ahead = less };
  not_a_volume = λ file e. absurd (subst (Tells it.kind.name it.state.gist.last logged) (err_same e) tells);
  none_missing = λ name e. subst (Tells it.kind.name it.state.gist.last logged) (err_same e) tells;
}

-- a report is no fault
pub tells_none : (kind : Kind) (reading : Reading) (start : Disk) (logged : ℕ) (report : EngineReport) → TellsOnly kind reading start logged (Ok report)
tells_none kind reading start logged report = record {
  ahead = λ name last log_last e. absurd (let a = e in cc);
  not_a_volume = λ file e. absurd (let a = e in cc);
  none_missing = λ name e. (let a = e in cc);
}

-- The device is blamed through calls.
pub cause_through : {T U : Type 0} (inner : Result T EngineFault) (outer : Result U OpenFault) (was it : Working) (start a b : Disk) → Ran was it None start a → HasCause IsDevice inner a b
    → (IsDeviceFault outer → IsDevice inner) → HasCause IsDeviceFault outer start b
cause_through inner outer was it start a b ran cause to = record {
  told = cause.told ∙ ran.told;
  later = omega (arith, ran.later, cause.later);
  no_fewer = omega (arith, ran.no_fewer, cause.no_fewer);
  cause = λ is. rose start.faults a.faults b.faults ran.no_fewer (cause.cause (to is));
}
  where
    rose : (x y z : ℕ) → x ≤ y → Rose y z → Rose x z
    rose x y z le h = grind arith

-- and not where none of them failed so
pub cause_none : {U : Type 0} (outer : Result U OpenFault) (was it : Working) (start a : Disk) → Ran was it None start a → (IsDeviceFault outer → ⊥) → HasCause IsDeviceFault outer start a
cause_none outer was it start a ran none = record { told = ran.told; later = ran.later; no_fewer = ran.no_fewer; cause = λ is. absurd (none is) }

-- Ahead or want of memory is no fault of the device.
pub tells_no_device : {U : Type 0} (name : List ℕ) (last logged : ℕ) (fault : OpenFault) → Tells name last logged fault → IsDeviceFault {T = U} (Err fault) → ⊥
tells_no_device name last logged fault tells is = subst (Tells name last logged) (err_same is) tells

-- The report of the whole.
pub is_report : (was it : Working) (start : Disk) (logged : ℕ) (pairs : List (ℕ × ℕ)) (last : ℕ) (report : EngineReport) → IsSame was.kind it.kind was.reading it.reading
    → Found was.kind was.reading start it.state.gist → it.state.gist.last ≤ logged → Reports it.kind.name it.state.gist last pairs report
    → IsReport was.kind was.reading start logged pairs last report
is_report was it start logged pairs last report same found low reports = record {
  gist = it.state.gist;
  found = found;
  logged_it = low;
  reports = subst (λ (k : Kind). Reports k.name it.state.gist last pairs report) same.kind reports;
}

-- No code comes of the calls behind the init.
pub no_code_behind : {T : Type 0} (files : List ℕ) (told : Bool) (inner : Result T EngineFault) (fault : EngineFault) → AnswersOnly [] files told inner → inner ≡ Err fault → (it : Code) → fault ≡ code it → ⊥
no_code_behind files told inner fault only is it same =
    let none = subst (MayCome [] files told) same (only fault is) in
    let lt = none.1 in
    omega (arith, lt)

pub outside_as : (outer : OpenFault) (fault : EngineFault) → outer ≡ opened fault → IsDoneOrOutside {T = EngineReport} (Err (opened fault)) → IsDoneOrOutside {T = EngineReport} (Err outer)
outside_as outer fault is h = subst (λ f. IsDoneOrOutside {T = EngineReport} (Err f)) (sym is) h

-- the engine was not ahead of the log
pub not_ahead : (logged last : ℕ) (b : Bool) → b ≡ nat_lt logged last → b ≡ false → last ≤ logged
not_ahead logged last b is none = go (nat_lt logged last) refl (sym is ∙ none)
  where
    go : (x : Bool) → nat_lt logged last ≡ x → x ≡ false → last ≤ logged
    go true at taken = cc
    go false at _ = grind (arith, nat_tests, at)
