-- An INSERT that is taken back.
use Rattle.std.proofs.Common.{◌≡◌, ℕ, take, List, [], ◌++◌, map, Result, Ok, IsTrue, None, refl, sym, ap, subst, ◌∙◌, inl, inr}
use Rattle.std.specs.Prelude.{Err, Contains}
use Rattle.std.proofs.lemmas.List.Elements.{Contains-append_right, Contains-append_cases}
use Rattle.disk_model.specs.File.{File}
use Rattle.disk_model.specs.Disk.{Disk, now, Keeps}
use Rattle.disk_model.proofs.Moments.{weaker}
use Rattle.sql_value.specs.declared.value.Value.{Value}
use Rattle.row_format.specs.declared.schema.Schema.{Schema}
use Rattle.row_format.specs.declared.change.Change.{Change}
use Rattle.log_tables.specs.declared.gist.Gist.{Gist}
use Rattle.engine_api.specs.States.{Kind, EngineState, pending_of, xid_of, synced_state, rolled_back_state}
use Rattle.engine_api.specs.Reads.{Reading, EachReads, OnlyIn}
use Rattle.engine_api.specs.Calls.{IsSame}
use Rattle.engine_api.specs.Many.{IsAtWork, working}
use Rattle.engine_api.proofs.ManyLemmas.{reads_as, same_itself}
use Rattle.sql_exec.specs.declared.fault.ExecFault.{ExecFault}
use Rattle.sql_exec.specs.declared.fault.ExecFault.TheVariants.{Refused, Device, NotAVolume, Memory}
use Rattle.sql_exec.specs.CarriesOut.{IsDevice, IsRefused, GoesOn, CarriesOut}
use Rattle.sql_exec.specs.Changes.{with_changes}
use Rattle.sql_exec.specs.Inserts.{inserts_of}
use Rattle.sql_exec.proofs.CarryLemmas.{carry_on, refused_as, swapped}
use Rattle.sql_exec.proofs.RunLemmas.{no_call, not_device}
use Rattle.sql_exec.proofs.SelectLemmas.{work_tells}
use Rattle.sql_exec.proofs.StateLemmas.{as_before, rolled_back}

-- the gists that images may read as, in the same way of other states
pub moments_as : (kind : Kind) (reading : Reading) (few more : List Gist) (a b : Disk) → ((g : Gist) → Contains few g → Contains more g)
    → Keeps a b (OnlyIn kind.files (now a) (EachReads reading few)) → Keeps a b (OnlyIn kind.files (now a) (EachReads reading more))
moments_as kind reading few more a b incl keeps =
    weaker a b (OnlyIn kind.files (now a) (EachReads reading few)) (OnlyIn kind.files (now a) (EachReads reading more))
    (λ files only. (only.0, reads_as reading reading few more (map files kind.files) (same_itself reading) incl only.1)) keeps

-- twice the gists of a state are its gists, behind others
twice_in : (one two first all s : EngineState) → one.kept ≡ s.kept → two.kept ≡ s.kept → all.kept ≡ s.kept → (g : Gist) → Contains (one.kept ++ two.kept) g → Contains (first.kept ++ all.kept) g
twice_in one two first all s same_one same_two same_all g has = elim (Contains-append_cases one.kept two.kept g has) [
  | inl left ↦ Contains-append_right first.kept all.kept g (subst (λ (l : List Gist). Contains l g) (same_one ∙ sym same_all) left)
  | inr right ↦ Contains-append_right first.kept all.kept g (subst (λ (l : List Gist). Contains l g) (same_two ∙ sym same_all) right)
]

-- The answer of another type, with another state to go back to: where it is done, or the device failed.
pub told_done : {T : Type 0} (kind : Kind) (reading : Reading) (inner : Result (Unit {0}) ExecFault) (value : Unit {0}) (outer : T) (next back other s new : EngineState) (holds : List File → Type 0) (a b : Disk)
    → CarriesOut kind reading inner next back new holds a b → inner ≡ Ok value → next.kept ≡ s.kept → back.kept ≡ s.kept → CarriesOut kind reading (Ok outer) next other new holds a b
told_done kind reading (Ok v) value outer next back other s new holds a b first is kept_next kept_back = record {
  ok = first.ok;
  refused = λ is. absurd is;
  cause = record { told = first.cause.told; later = first.cause.later; no_fewer = first.cause.no_fewer; cause = λ is. absurd (no_fault outer is) };
  moments = λ told. moments_as kind reading (back.kept ++ next.kept) (other.kept ++ next.kept) a b (twice_in back next other next s kept_back kept_next kept_next) (first.moments told);
  files = λ told on. first.files told tt;
}
  where
    no_fault : {T : Type 0} (v : T) → IsDevice (Ok v) → ⊥
    no_fault v is = cc
told_done kind reading (Err e) value outer next back other s new holds a b first is kept_next kept_back = absurd (not_ok e is)
  where
    not_ok : (e : ExecFault) → Err e ≡ Ok value → ⊥
    not_ok e is = cc

pub told_device : (T : Type 0) (kind : Kind) (reading : Reading) (inner : Result (Unit {0}) ExecFault) (fault : ExecFault) (next back other s new : EngineState) (holds : List File → Type 0) (a b : Disk)
    → CarriesOut kind reading inner next back new holds a b → inner ≡ Err fault → fault ≡ Device → next.kept ≡ s.kept → back.kept ≡ s.kept
    → CarriesOut {T = T} kind reading (Err Device) next other new holds a b
told_device T kind reading inner fault next back other s new holds a b first is failed kept_next kept_back = record {
  ok = tt;
  refused = λ is. absurd is;
  cause = record { told = first.cause.told; later = first.cause.later; no_fewer = first.cause.no_fewer; cause = λ so. first.cause.cause (is ∙ ap (λ (e : ExecFault). Err e) failed) };
  moments = λ told. moments_as kind reading (back.kept ++ next.kept) (other.kept ++ next.kept) a b (twice_in back next other next s kept_back kept_next kept_next) (first.moments told);
  files = λ told on. absurd on;
}

refused_if : (fault : ExecFault) → (fault ≡ Device → ⊥) → IsRefused {T = Unit {0}} (Err fault)
refused_if (Refused it) other = tt
refused_if Device other = other refl
refused_if (NotAVolume file) other = tt
refused_if Memory other = tt

-- Behind a refusal it is as if so much had been done.
pub as_done : (kind : Kind) (reading : Reading) (inner : Result (Unit {0}) ExecFault) (fault : ExecFault) (next back new : EngineState) (holds : List File → Type 0) (a b : Disk)
    → CarriesOut kind reading inner next back new holds a b → inner ≡ Err fault → (fault ≡ Device → ⊥) → CarriesOut {T = Unit {0}} kind reading (Ok (tt {0})) back next new holds a b
as_done kind reading inner fault next back new holds a b first is other =
    let refused = subst (λ (r : Result (Unit {0}) ExecFault). IsRefused r) (sym is) (refused_if fault other) in
    let goes = subst (λ (r : Result (Unit {0}) ExecFault). GoesOn r) (sym is) (goes_if fault other) in
    record {
      ok = first.refused refused;
      refused = λ is. absurd is;
      cause = record { told = first.cause.told; later = first.cause.later; no_fewer = first.cause.no_fewer; cause = λ is. absurd (no_fault is) };
      moments = λ told. moments_as kind reading (back.kept ++ next.kept) (next.kept ++ back.kept) a b (swapped back.kept next.kept) (first.moments told);
      files = λ told on. first.files told goes;
    }
  where
    no_fault : IsDevice (Ok (tt {0})) → ⊥
    no_fault is = cc

    goes_if : (e : ExecFault) → (e ≡ Device → ⊥) → GoesOn {T = Unit {0}} (Err e)
    goes_if (Refused it) other = tt
    goes_if Device other = other refl
    goes_if (NotAVolume file) other = tt
    goes_if Memory other = tt

goes_on_as : (T : Type 0) (e : ExecFault) → GoesOn {T = T} (Err e) → GoesOn {T = Unit {0}} (Err e)
goes_on_as T (Refused it) on = tt
goes_on_as T Device on = absurd on
goes_on_as T (NotAVolume file) on = tt
goes_on_as T Memory on = tt

device_as : (T : Type 0) (e : ExecFault) → IsDevice {T = T} (Err e) → IsDevice {T = Unit {0}} (Err e)
device_as T e is = ap (λ (f : ExecFault). Err f) (inner is)
  where
    inner : IsDevice {T = T} (Err e) → e ≡ Device
    inner so = cc

-- What a transaction that had nothing pending has changed is taken back.
pub taken_back : (T : Type 0) (txn : ℕ) (cs : List Change) (kind kind_mid : Kind) (reading reading_mid : Reading) (value : Unit {0}) (answer : ExecFault) (back_first next s mid new : EngineState)
    (held holds : List File → Type 0) (a b d : Disk) → pending_of txn s.pending ≡ None → back_first.kept ≡ s.kept → next.kept ≡ s.kept
    → CarriesOut kind reading (Ok value) (with_changes txn cs s) back_first mid held a b → IsSame kind kind_mid reading reading_mid
    → CarriesOut {T = Unit {0}} kind_mid reading_mid (Err answer) mid (rolled_back_state txn mid) new holds b d
    → CarriesOut {T = T} kind reading (Err answer) next (synced_state s) new holds a d
taken_back T txn cs kind kind_mid reading reading_mid value answer back_first next s mid new held holds a b d idle kept_first kept_next first same second =
    let done = with_changes txn cs s in
    let kept_done : done.kept ≡ s.kept = (as_before txn cs s (ap xid_of idle)).kept in
    let back_is : rolled_back_state txn mid ≡ synced_state s = ap (rolled_back_state txn) first.ok ∙ rolled_back txn cs s idle in
    let kept_mid : mid.kept ≡ s.kept = ap (λ (e : EngineState). e.kept) first.ok ∙ kept_done in
    carry_on kind kind_mid reading reading_mid value (Err answer) (Err answer) done back_first mid mid (rolled_back_state txn mid) next (synced_state s) new held holds a b d first same second
    tt (λ is. second.refused (refused_as (Unit {0}) T answer is) ∙ back_is) ((λ on. goes_on_as T answer on), (λ is. device_as T answer is))
    (twice_in back_first done (synced_state s) next s kept_first kept_done kept_next)
    (λ g has. subst (λ (l : List Gist). Contains l g)
    (ap (λ (e : EngineState). e.kept ++ mid.kept) back_is ∙ ap (λ (l : List Gist). (synced_state s).kept ++ l) (kept_mid ∙ sym kept_next)) has)

kept_of : (txn : ℕ) (cs : List Change) (s : EngineState) → pending_of txn s.pending ≡ None → (with_changes txn cs s).kept ≡ s.kept
kept_of txn cs s idle = (as_before txn cs s (ap xid_of idle)).kept

-- the device failed at a row
pub rows_device : (T : Type 0) (txn : ℕ) (table : List ℕ) (schema : Schema) (xs rows : List (List Value)) (n : ℕ) (kind : Kind) (reading : Reading) (inner : Result (Unit {0}) ExecFault) (fault : ExecFault)
    (s new : EngineState) (holds : List File → Type 0) (a b : Disk) → xs ≡ rows → pending_of txn s.pending ≡ None
    → CarriesOut kind reading inner (with_changes txn (inserts_of table schema xs) s) (with_changes txn (inserts_of table schema (take n xs)) s) new holds a b → inner ≡ Err fault → fault ≡ Device
    → CarriesOut {T = T} kind reading (Err fault) (with_changes txn (inserts_of table schema rows) s) (synced_state s) new holds a b
rows_device T txn table schema xs rows n kind reading inner fault s new holds a b same idle first is failed =
    subst (λ (e : ExecFault). CarriesOut {T = T} kind reading (Err e) (with_changes txn (inserts_of table schema rows) s) (synced_state s) new holds a b) (sym failed)
    (subst (λ (ys : List (List Value)). CarriesOut {T = T} kind reading (Err Device) (with_changes txn (inserts_of table schema ys) s) (synced_state s) new holds a b) same
    (told_device T kind reading inner fault (with_changes txn (inserts_of table schema xs) s) (with_changes txn (inserts_of table schema (take n xs)) s) (synced_state s) s new holds a b first is failed
    (kept_of txn (inserts_of table schema xs) s idle) (kept_of txn (inserts_of table schema (take n xs)) s idle)))

-- all rows went in, and the statement is done
pub rows_done : {T : Type 0} (txn : ℕ) (table : List ℕ) (schema : Schema) (xs rows : List (List Value)) (n : ℕ) (kind : Kind) (reading : Reading) (inner : Result (Unit {0}) ExecFault) (value : Unit {0}) (outer : T)
    (s new : EngineState) (holds : List File → Type 0) (a b : Disk) → xs ≡ rows → pending_of txn s.pending ≡ None
    → CarriesOut kind reading inner (with_changes txn (inserts_of table schema xs) s) (with_changes txn (inserts_of table schema (take n xs)) s) new holds a b → inner ≡ Ok value
    → CarriesOut kind reading (Ok outer) (with_changes txn (inserts_of table schema rows) s) (synced_state s) new holds a b
rows_done txn table schema xs rows n kind reading inner value outer s new holds a b same idle first is =
    subst (λ (ys : List (List Value)). CarriesOut kind reading (Ok outer) (with_changes txn (inserts_of table schema ys) s) (synced_state s) new holds a b) same
    (told_done kind reading inner value outer (with_changes txn (inserts_of table schema xs) s) (with_changes txn (inserts_of table schema (take n xs)) s) (synced_state s) s new holds a b first is
    (kept_of txn (inserts_of table schema xs) s idle) (kept_of txn (inserts_of table schema (take n xs)) s idle))

-- a row was refused, and those before it are taken back
pub rows_back : (T : Type 0) (txn : ℕ) (table : List ℕ) (schema : Schema) (xs rows : List (List Value)) (n : ℕ) (kind kind_mid : Kind) (reading reading_mid : Reading) (inner : Result (Unit {0}) ExecFault)
    (fault answer : ExecFault) (s mid new : EngineState) (held holds : List File → Type 0) (a b d : Disk) → xs ≡ rows → pending_of txn s.pending ≡ None
    → CarriesOut kind reading inner (with_changes txn (inserts_of table schema xs) s) (with_changes txn (inserts_of table schema (take n xs)) s) mid held a b → inner ≡ Err fault → (fault ≡ Device → ⊥)
    → IsSame kind kind_mid reading reading_mid → CarriesOut {T = Unit {0}} kind_mid reading_mid (Err answer) mid (rolled_back_state txn mid) new holds b d
    → CarriesOut {T = T} kind reading (Err answer) (with_changes txn (inserts_of table schema rows) s) (synced_state s) new holds a d
rows_back T txn table schema xs rows n kind kind_mid reading reading_mid inner fault answer s mid new held holds a b d lent idle first is other same second =
    let all = with_changes txn (inserts_of table schema xs) s in
    let some = with_changes txn (inserts_of table schema (take n xs)) s in
    subst (λ (ys : List (List Value)). CarriesOut {T = T} kind reading (Err answer) (with_changes txn (inserts_of table schema ys) s) (synced_state s) new holds a d) lent
    (taken_back T txn (inserts_of table schema (take n xs)) kind kind_mid reading reading_mid (tt {0}) answer all all s mid new held holds a b d idle
    (kept_of txn (inserts_of table schema xs) s idle) (kept_of txn (inserts_of table schema xs) s idle) (as_done kind reading inner fault all some mid held a b first is other) same second)

-- all rows went in, and are taken back
pub all_back : (T : Type 0) (txn : ℕ) (table : List ℕ) (schema : Schema) (xs rows : List (List Value)) (n : ℕ) (kind kind_mid : Kind) (reading reading_mid : Reading) (inner : Result (Unit {0}) ExecFault)
    (value : Unit {0}) (answer : ExecFault) (s mid new : EngineState) (held holds : List File → Type 0) (a b d : Disk) → xs ≡ rows → pending_of txn s.pending ≡ None
    → CarriesOut kind reading inner (with_changes txn (inserts_of table schema xs) s) (with_changes txn (inserts_of table schema (take n xs)) s) mid held a b → inner ≡ Ok value
    → IsSame kind kind_mid reading reading_mid → CarriesOut {T = Unit {0}} kind_mid reading_mid (Err answer) mid (rolled_back_state txn mid) new holds b d
    → CarriesOut {T = T} kind reading (Err answer) (with_changes txn (inserts_of table schema rows) s) (synced_state s) new holds a d
all_back T txn table schema xs rows n kind kind_mid reading reading_mid inner value answer s mid new held holds a b d lent idle first is same second =
    let all = with_changes txn (inserts_of table schema xs) s in
    let some = with_changes txn (inserts_of table schema (take n xs)) s in
    subst (λ (ys : List (List Value)). CarriesOut {T = T} kind reading (Err answer) (with_changes txn (inserts_of table schema ys) s) (synced_state s) new holds a d) lent
    (taken_back T txn (inserts_of table schema xs) kind kind_mid reading reading_mid value answer some all s mid new held holds a b d idle
    (kept_of txn (inserts_of table schema (take n xs)) s idle) (kept_of txn (inserts_of table schema xs) s idle)
    (subst (λ (r : Result (Unit {0}) ExecFault). CarriesOut kind reading r all some mid held a b) is first) same second)

-- Nothing was put in yet, and that is taken back.
pub nothing_back : (T : Type 0) (txn : ℕ) (table : List ℕ) (schema : Schema) (rows : List (List Value)) (kind : Kind) (reading : Reading) (answer : ExecFault) (s new : EngineState)
    (held holds : List File → Type 0) (b d : Disk) → pending_of txn s.pending ≡ None → (IsTrue b.told → IsAtWork (working kind reading s held) (now b))
    → CarriesOut {T = Unit {0}} kind reading (Err answer) s (rolled_back_state txn s) new holds b d
    → CarriesOut {T = T} kind reading (Err answer) (with_changes txn (inserts_of table schema rows) s) (synced_state s) new holds b d
nothing_back T txn table schema rows kind reading answer s new held holds b d idle work second =
    taken_back T txn [] kind kind reading reading (tt {0}) answer s (with_changes txn (inserts_of table schema rows) s) s s new held holds b b d idle refl (kept_of txn (inserts_of table schema rows) s idle)
    (no_call kind reading (Ok (tt {0})) s s held held b (λ is. not_device (tt {0}) is) refl (λ fs h. h) (λ told. work_tells kind reading s held (now b) (work told)))
    (record { kind = refl; reading = same_itself reading }) second
