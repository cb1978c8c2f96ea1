-- One change more of a transaction: the state, the bytes, and the counts.
use Rattle.std.proofs.Common.{◌≡◌, ℕ, ◌+◌, ◌≤◌, ◌<◌, zero, suc, get_or, List, [], ◌∷◌, ◌++◌, length, true, false, refl, sym, ap, subst, subst₂, inl, inr, ◌∙◌, arith}
use Rattle.std.specs.Prelude.{Contains, Option, None, Some, sum_by, Result, Err, Bool, ◌==◌, is_some, nat_le}
use Rattle.std.proofs.lemmas.Bool.{leb-true, eqb-true, and_from}
use Rattle.std.proofs.lemmas.Bool.Decides.{leb_tells}
use Rattle.std.proofs.lemmas.List.Sums.{sum_by-append, sum_by_push}
use Rattle.std.proofs.lemmas.List.{length-append, append_assoc, nil_from_length}
use Rattle.row_format.specs.declared.change.Change.{Change}
use Rattle.log_tables.specs.declared.table.Table.{Table}
use Rattle.log_tables.specs.declared.gist.Prepared.{Prepared}
use Rattle.log_tables.specs.Changes.{after_change, after_changes, all_apply, applies}
use Rattle.log_tables.proofs.FoldLemmas.{after_changes-append}
use Rattle.engine_api.specs.States.{EngineState, Pending, without_txn, changes_by, xid_by, changes_in, live_tables, with_change}
use Rattle.engine_api.specs.Live.{live_bytes, live_limit, IsApart, is_under}
use Rattle.engine_api.specs.declared.fault.Code.TheVariants.{Duplicate, Full}
use Rattle.engine_api.specs.Calls.{AnswersAlone, MayComeAlone}
use Rattle.engine_api.specs.declared.fault.EngineFault.{EngineFault}
use Rattle.engine_api.specs.declared.fault.EngineFault.TheVariants.{Code as code, Device, NotAVolume, Memory}
use Rattle.live_tables.specs.Bytes.{capped}
use Rattle.live_tables.specs.Folds.{change_bytes}
use Rattle.live_tables.specs.Opens.{AreDistinct}
use Rattle.live_tables.specs.Live.{state_with, state_of, most_bytes, AreSound, AreCounted, CanMake, CanAdd}
use Rattle.live_tables.proofs.NameLemmas.{no}
use Rattle.live_tables.proofs.MadeLemmas.{made_after, all_made}
use Rattle.live_tables.proofs.GoneLemmas.{agree_bytes}
use Rattle.live_tables.proofs.AgreeLemmas.{agree_after}
use Rattle.live_tables.proofs.FitLemmas.{both_apply}
use Rattle.live_tables.proofs.OpenLaws.{changes_last, to_end, bytes_parted, lengths_parted}
use Rattle.live_tables.proofs.SoundLaws.{sound_changed, shares_changed}

-- a transaction with one change more
abbrev pub one_more : ℕ → Change → List Pending → List Pending
one_more txn c ps = without_txn txn ps ++ (record { txn = txn; under = None; changes = changes_by txn ps ++ c ∷ [] }) ∷ []

bytes_more : (txn : ℕ) (c : Change) (ps : List Pending) → AreDistinct ps → sum_by change_bytes (changes_in (one_more txn c ps)) ≡ sum_by change_bytes (changes_in ps) + change_bytes c
bytes_more txn c ps distinct =
    let p : Pending = record { txn = txn; under = None; changes = changes_by txn ps ++ c ∷ [] } in
    let split = ap (sum_by change_bytes) (changes_last (without_txn txn ps) p) in
    let first = sum_by-append change_bytes (changes_in (without_txn txn ps)) (changes_by txn ps ++ c ∷ []) in
    let second = sum_by-append change_bytes (changes_by txn ps) (c ∷ []) in
    omega (arith, split, first, second, bytes_parted txn ps distinct)

pub length_more : (txn : ℕ) (c : Change) (ps : List Pending) → AreDistinct ps → length (changes_in (one_more txn c ps)) ≡ length (changes_in ps) + 1
length_more txn c ps distinct =
    let p : Pending = record { txn = txn; under = None; changes = changes_by txn ps ++ c ∷ [] } in
    let split = ap length (changes_last (without_txn txn ps) p) in
    let first = length-append (changes_in (without_txn txn ps)) (changes_by txn ps ++ c ∷ []) in
    let second = length-append (changes_by txn ps) (c ∷ []) in
    omega (arith, split, first, second, lengths_parted txn ps distinct)

none_of : {X : Type 0} (o : Option X) → is_some o ≡ false → o ≡ None
none_of None h = refl
none_of (Some x) h = cc

-- All is sound behind it.
pub sound_more : (txn : ℕ) (c : Change) (ts : List Table) (done : List Change) (left : List Prepared) (ps : List Pending) (last : ℕ) (state : EngineState) → AreSound ts done left ps
    → state_of ts done left ps last ≡ state → applies c (live_tables state) ≡ true → is_under txn state ≡ false → IsApart txn c state → AreSound ts done left (one_more txn c ps)
sound_more txn c ts done left ps last state sound is fit unprepared apart =
    let here = state_of ts done left ps last in
    let fit_here : applies c (live_tables here) ≡ true = subst (λ s. applies c (live_tables s) ≡ true) (sym is) fit in
    let free : is_under txn here ≡ false = subst (λ s. is_under txn s ≡ false) (sym is) unprepared in
    let apart_here : IsApart txn c here = subst (IsApart txn c) (sym is) apart in
    sound_changed txn c ts done left ps sound (none_of (xid_by txn ps) free) fit_here apart_here.pending apart_here.prepared

-- a list of no length is empty
pub emptied : (cs : List Change) (len : ℕ) → len ≡ length cs → true ≡ (len == 0) → cs ≡ []
emptied cs len is none = nil_from_length cs (sym is ∙ eqb-true len 0 (sym none))

-- What is pending, and then the change, can be made on the tables, as slices have them.
pub can_more : (c : Change) (ts us : List Table) (done : List Change) (left : List Prepared) (ps qs : List Pending) (last committed opened waits waiting more : ℕ) (state : EngineState)
    → AreSound ts done left ps → AreCounted ts done left ps committed opened waits waiting → done ≡ [] → state_of ts done left ps last ≡ state → us ≡ ts → qs ≡ ps → applies c (live_tables state) ≡ true
    → more ≡ capped (change_bytes c) → true ≡ nat_le (committed + opened + waits + more) most_bytes
    → CanAdd us qs c (committed + opened + more)
can_more c ts us done left ps qs last committed opened waits waiting more state sound counted settled is tables pending fit more_is countable =
    let base : after_changes done ts ≡ ts = ap (λ l. after_changes l ts) settled in
    let le : committed + opened + waits + more ≤ most_bytes = leb-true (committed + opened + waits + more) most_bytes (sym countable) in
    let here = ap (λ l. applies c (after_changes (changes_in ps) l)) (sym base) ∙ ap (λ s. applies c (live_tables s)) is ∙ fit in
    let open_fit = ap (all_apply (changes_in ps)) (sym base) ∙ sound.open_fit in
    let last_fit = and_from (applies c (after_changes (changes_in ps) ts)) true here refl in
    let all = sum_by_push change_bytes (changes_in ps) c in
    let can : CanMake ts (changes_in ps ++ c ∷ []) (live_bytes ts) = record {
      made = sound.made;
      fit = both_apply (changes_in ps) (c ∷ []) ts open_fit last_fit;
      committed_is = refl;
      small = omega (arith, all, le, more_is, counted.committed_is, counted.opened_is);
    } in
    let add : CanAdd ts ps c (committed + opened + more) = record { can = can; counted_is = omega (arith, all, le, more_is, counted.committed_is, counted.opened_is) } in
    subst₂ (λ (ls : List Table) (xs : List Pending). CanAdd ls xs c (committed + opened + more)) (sym tables) (sym pending) add

-- The live bytes with one change more are those behind what is pending, and then the change.
live_more : (txn : ℕ) (c : Change) (ts : List Table) (done : List Change) (left : List Prepared) (ps : List Pending) (last : ℕ) → AreSound ts done left ps → done ≡ []
    → live_bytes (live_tables (with_change txn c (state_of ts done left ps last))) ≡ live_bytes (after_changes (changes_in ps ++ c ∷ []) ts)
live_more txn c ts done left ps last sound settled =
    let base : after_changes done ts ≡ ts = ap (λ l. after_changes l ts) settled in
    let own = changes_by txn ps in
    let others = changes_in (without_txn txn ps) in
    let p : Pending = record { txn = txn; under = None; changes = own ++ c ∷ [] } in
    let open_fit = ap (all_apply (changes_in ps)) (sym base) ∙ sound.open_fit in
    let moved = (to_end txn ps ts sound.made sound.distinct sound.apart open_fit).1 in
    let old = all_made (changes_in ps) ts sound.made in
    let new = all_made (others ++ own) ts sound.made in
    let agree = agree_after c (after_changes (changes_in ps) ts) (after_changes (others ++ own) ts) old new moved in
    let same = agree_bytes (after_change c (after_changes (changes_in ps) ts)) (after_change c (after_changes (others ++ own) ts)) (made_after c (after_changes (changes_in ps) ts) old)
    (made_after c (after_changes (others ++ own) ts) new) agree in
    ap (λ l. live_bytes (after_changes (changes_in (one_more txn c ps)) l)) base
    ∙ ap (λ l. live_bytes (after_changes l ts)) (changes_last (without_txn txn ps) p ∙ sym (append_assoc others own (c ∷ [])))
    ∙ ap live_bytes (after_changes-append (others ++ own) (c ∷ []) ts)
    ∙ sym same
    ∙ sym (ap live_bytes (after_changes-append (changes_in ps) (c ∷ []) ts))

-- There is room exactly where those are within the limit.
pub room_more : (txn : ℕ) (c : Change) (ts us : List Table) (done : List Change) (left : List Prepared) (ps qs : List Pending) (last : ℕ) (state : EngineState) (within : Bool) → AreSound ts done left ps
    → done ≡ [] → state_of ts done left ps last ≡ state → us ≡ ts → qs ≡ ps → within ≡ nat_le (live_bytes (after_changes (changes_in qs ++ c ∷ []) us)) live_limit
    → within ≡ nat_le (live_bytes (live_tables (with_change txn c state))) live_limit
room_more txn c ts us done left ps qs last state within sound settled is tables pending test =
    test
    ∙ ap (λ l. nat_le (live_bytes (after_changes (changes_in qs ++ c ∷ []) l)) live_limit) tables
    ∙ ap (λ (l : List Pending). nat_le (live_bytes (after_changes (changes_in l ++ c ∷ []) ts)) live_limit) pending
    ∙ ap (λ n. nat_le n live_limit) (sym (live_more txn c ts done left ps last sound settled))
    ∙ ap (λ s. nat_le (live_bytes (live_tables (with_change txn c s))) live_limit) is

-- a test that fails leaves no room
pub no_room : (n : ℕ) → false ≡ nat_le n live_limit → n ≤ live_limit → ⊥
no_room n over within = elim (leb_tells n live_limit) [
  | inl there ↦ no (over ∙ there.0)
  | inr past ↦ absurd (omega (arith, past.1, within))
]

-- the state with one change more is the next one
pub state_more : (txn : ℕ) (c : Change) (ts : List Table) (done : List Change) (left : List Prepared) (ps : List Pending) (last : ℕ) → AreSound ts done left ps → xid_by txn ps ≡ None
    → state_of ts done left (one_more txn c ps) last ≡ with_change txn c (state_of ts done left ps last)
state_more txn c ts done left ps last sound free =
    let same = shares_changed txn (changes_by txn ps ++ c ∷ []) ps sound.distinct free in
    ap (λ (ss : List Prepared). state_as ss) same
  where
    state_as : List Prepared → EngineState
    state_as ss = state_with (record { tables = after_changes done ts; prepared = left ++ ss; last = last }) (one_more txn c ps)

-- The counts behind it.
pub counted_more : (txn : ℕ) (c : Change) (ts : List Table) (done : List Change) (left : List Prepared) (ps : List Pending) (committed opened waits waiting more : ℕ)
    → AreSound ts done left ps → AreCounted ts done left ps committed opened waits waiting → more ≡ capped (change_bytes c)
    → true ≡ nat_le (committed + opened + waits + more) most_bytes
    → AreCounted ts done left (one_more txn c ps) committed (opened + more) waits (waiting + 1)
counted_more txn c ts done left ps committed opened waits waiting more sound counted more_is countable =
    let le : committed + opened + waits + more ≤ most_bytes = leb-true (committed + opened + waits + more) most_bytes (sym countable) in
    record {
      committed_is = counted.committed_is;
      opened_is = omega (arith, bytes_more txn c ps sound.distinct, counted.opened_is, more_is, le);
      waits_is = counted.waits_is;
      small = omega (arith, le);
      waiting_is = omega (arith, length_more txn c ps sound.distinct, counted.waiting_is);
    }

-- a transaction that is not prepared has no xid
pub unprepared_at : (txn : ℕ) (ts : List Table) (done : List Change) (left : List Prepared) (ps : List Pending) (last : ℕ) (state : EngineState) → state_of ts done left ps last ≡ state
    → is_under txn state ≡ false → xid_by txn ps ≡ None
unprepared_at txn ts done left ps last state is unprepared = none_of (xid_by txn ps) (subst (λ s. is_under txn s ≡ false) (sym is) unprepared)

-- an answer that is full alone is no duplicate
pub no_duplicate : (result : Result (Unit {0}) EngineFault) → AnswersAlone (Full ∷ []) result → result ≡ Err (code Duplicate) → ⊥
no_duplicate result only is = none (only (code Duplicate) is)
  where
    at : (i : ℕ) → i < 1 → get_or (Full ∷ []) i Duplicate ≡ Duplicate → ⊥
    at zero lt q = cc
    at (suc i) lt q = omega (arith, lt)

    none : Contains (Full ∷ []) Duplicate → ⊥
    none h = at h.0 h.1 h.2

-- and it may be one of two
pub may_also_be : (result : Result (Unit {0}) EngineFault) → AnswersAlone (Full ∷ []) result → AnswersAlone (Duplicate ∷ Full ∷ []) result
may_also_be result only fault is = weaker fault (only fault is)
  where
    weaker : (fault : EngineFault) → MayComeAlone (Full ∷ []) fault → MayComeAlone (Duplicate ∷ Full ∷ []) fault
    weaker (code it) h = let lt = h.1 in (suc h.0, omega (arith, lt), h.2)
    weaker Device h = h
    weaker (NotAVolume file) h = h
    weaker Memory h = tt
