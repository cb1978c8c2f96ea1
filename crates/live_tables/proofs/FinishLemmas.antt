-- How a transaction ends: the state, and the counts.
use Rattle.std.proofs.Common.{◌≡◌, ℕ, ◌+◌, ◌-◌, ◌≤◌, List, [], ◌∷◌, ◌++◌, length, false, Option, None, Some, refl, sym, ap, subst, ◌∙◌, arith, sum_by}
use Rattle.std.proofs.lemmas.List.Sums.{sum_by-append}
use Rattle.std.proofs.lemmas.List.{length-append, append_assoc}
use Rattle.row_format.specs.declared.change.Change.{Change}
use Rattle.log_tables.specs.declared.table.Table.{Table}
use Rattle.log_tables.specs.declared.gist.Prepared.{Prepared}
use Rattle.log_tables.specs.Gists.{is_prepared}
use Rattle.log_tables.specs.Changes.{after_changes}
use Rattle.log_tables.proofs.FoldLemmas.{after_changes-append}
use Rattle.engine_api.specs.States.{EngineState, Pending, pending_of, without_txn, changes_of, changes_by, xid_by, changes_in, prepared_state, committed_state, rolled_back_state, gist_without, without, with_gist}
use Rattle.engine_api.specs.Live.{is_under, IsUnder}
use Rattle.live_tables.specs.Bytes.{capped}
use Rattle.live_tables.specs.Folds.{change_bytes}
use Rattle.live_tables.specs.Opens.{AreDistinct, shares}
use Rattle.live_tables.specs.Live.{state_with, state_of, most_bytes, AreSound, AreCounted}
use Rattle.live_tables.proofs.OpenLaws.{changes_last, bytes_parted, lengths_parted, without_share, shares_unshared}
use Rattle.live_tables.proofs.SoundLaws.{shares_prepared, sound_prepared, sound_committed}
use Rattle.live_tables.proofs.AddLemmas.{unprepared_at}

-- a transaction that is prepared
abbrev pub with_prepared : ℕ → ℕ → List Pending → List Pending
with_prepared txn xid ps = without_txn txn ps ++ (record { txn = txn; under = Some xid; changes = changes_by txn ps }) ∷ []

-- What is pending is sound when one is prepared.
pub sound_under : (txn xid last : ℕ) (ts : List Table) (done : List Change) (left : List Prepared) (ps : List Pending) (state : EngineState) → AreSound ts done left ps
    → state_of ts done left ps last ≡ state → is_under txn state ≡ false → is_prepared xid state.gist.prepared ≡ false → AreSound ts done left (with_prepared txn xid ps)
sound_under txn xid last ts done left ps state sound is unprepared fresh =
    sound_prepared txn xid ts done left ps sound (unprepared_at txn ts done left ps last state is unprepared) (ap (λ (s : EngineState). is_prepared xid s.gist.prepared) is ∙ fresh)

-- The counts are what they were.
pub counted_under : (txn xid : ℕ) (ts : List Table) (done : List Change) (left : List Prepared) (ps : List Pending) (committed opened waits waiting : ℕ) → AreDistinct ps
    → AreCounted ts done left ps committed opened waits waiting → AreCounted ts done left (with_prepared txn xid ps) committed opened waits waiting
counted_under txn xid ts done left ps committed opened waits waiting distinct counted =
    let p : Pending = record { txn = txn; under = Some xid; changes = changes_by txn ps } in
    let split = changes_last (without_txn txn ps) p in
    record {
      committed_is = counted.committed_is;
      opened_is =
          omega (arith, counted.opened_is, ap (sum_by change_bytes) split, sum_by-append change_bytes (changes_in (without_txn txn ps)) (changes_by txn ps), bytes_parted txn ps distinct);
      waits_is = counted.waits_is;
      small = counted.small;
      waiting_is =
          omega (arith, counted.waiting_is, ap length split, length-append (changes_in (without_txn txn ps)) (changes_by txn ps), lengths_parted txn ps distinct);
    }

-- The state is that after the prepare.
pub state_under : (txn xid last : ℕ) (ts : List Table) (done : List Change) (left : List Prepared) (ps : List Pending) (state : EngineState) → AreDistinct ps
    → state_of ts done left ps last ≡ state → is_under txn state ≡ false → state_of ts done left (with_prepared txn xid ps) last ≡ prepared_state txn xid state
state_under txn xid last ts done left ps state distinct is unprepared =
    let free = unprepared_at txn ts done left ps last state is unprepared in
    let share : Prepared = record { xid = xid; changes = changes_by txn ps } in
    let all = ap (λ ss. left ++ ss) (shares_prepared txn xid (changes_by txn ps) ps distinct free) ∙ sym (append_assoc left (shares ps) (share ∷ [])) in
    ap (λ l. state_with (record { tables = after_changes done ts; prepared = l; last = last }) (with_prepared txn xid ps)) all ∙ ap (prepared_state txn xid) is

-- what is taken out of the counts is in them
pub enough : (txn : ℕ) (it : Pending) (ts : List Table) (done : List Change) (left : List Prepared) (ps : List Pending) (committed opened waits waiting len : ℕ) → AreDistinct ps
    → AreCounted ts done left ps committed opened waits waiting → Some it ≡ pending_of txn ps → len ≡ capped (sum_by change_bytes it.changes)
    → (len ≤ opened) × (length it.changes ≤ waiting) × (waits + len ≤ most_bytes)
enough txn it ts done left ps committed opened waits waiting len distinct counted found bytes =
    let own = ap changes_of found in (
      omega (arith, bytes, counted.opened_is, bytes_parted txn ps distinct, ap (sum_by change_bytes) own),
      omega (arith, counted.waiting_is, lengths_parted txn ps distinct, ap length own),
      omega (arith, bytes, counted.opened_is, counted.small, bytes_parted txn ps distinct, ap (sum_by change_bytes) own),
    )

-- The counts without a transaction.
pub counted_without : (txn : ℕ) (it : Pending) (ts : List Table) (done : List Change) (left : List Prepared) (ps : List Pending) (committed opened waits waiting len : ℕ) → AreDistinct ps
    → AreCounted ts done left ps committed opened waits waiting → Some it ≡ pending_of txn ps → len ≡ capped (sum_by change_bytes it.changes)
    → AreCounted ts done left (without_txn txn ps) committed (opened - len) waits (waiting - length it.changes)
counted_without txn it ts done left ps committed opened waits waiting len distinct counted found bytes =
    let own = ap changes_of found in
    record {
      committed_is = counted.committed_is;
      opened_is = omega (arith, bytes, counted.opened_is, counted.small, bytes_parted txn ps distinct, ap (sum_by change_bytes) own);
      waits_is = counted.waits_is;
      small = omega (arith, counted.small);
      waiting_is = omega (arith, counted.waiting_is, lengths_parted txn ps distinct, ap length own);
    }

-- the prepared list without what a transaction has prepared, if it has
prepared_without : (txn last : ℕ) (o : Option ℕ) (ts : List Table) (done : List Change) (left : List Prepared) (ps : List Pending) → AreSound ts done left ps → xid_by txn ps ≡ o
    → state_of ts done left (without_txn txn ps) last ≡ without txn (with_gist (gist_without o (record { tables = after_changes done ts; prepared = left ++ shares ps; last = last })) (state_of ts done left ps last))
prepared_without txn last None ts done left ps sound is =
    ap (λ ss. state_with (record { tables = after_changes done ts; prepared = left ++ ss; last = last }) (without_txn txn ps)) (shares_unshared txn ps sound.distinct is)
prepared_without txn last (Some xid) ts done left ps sound is =
    ap (λ l. state_with (record { tables = after_changes done ts; prepared = l; last = last }) (without_txn txn ps)) (sym (without_share txn xid left ps sound.distinct sound.xids is))

-- The state without a transaction is that after its rollback.
pub state_rolled_back : (txn last : ℕ) (ts : List Table) (done : List Change) (left : List Prepared) (ps : List Pending) (state : EngineState) → AreSound ts done left ps
    → state_of ts done left ps last ≡ state → state_of ts done left (without_txn txn ps) last ≡ rolled_back_state txn state
state_rolled_back txn last ts done left ps state sound is = prepared_without txn last (xid_by txn ps) ts done left ps sound refl ∙ ap (rolled_back_state txn) is

-- Its changes are done behind the others.
pub sound_done : (txn : ℕ) (it : Pending) (ts : List Table) (done behind : List Change) (left : List Prepared) (ps : List Pending) → AreSound ts done left ps
    → Some it ≡ pending_of txn ps → behind ≡ done ++ it.changes → AreSound ts behind left (without_txn txn ps)
sound_done txn it ts done behind left ps sound found appended =
    let all : behind ≡ done ++ changes_by txn ps = appended ∙ ap (λ p. done ++ changes_of p) found in
    subst (λ l. AreSound ts l left (without_txn txn ps)) (sym all) (sound_committed txn ts done left ps sound)

-- And the counts follow.
pub counted_done : (txn : ℕ) (it : Pending) (ts : List Table) (done behind : List Change) (left : List Prepared) (ps : List Pending) (committed opened waits waiting len : ℕ)
    → AreDistinct ps → AreCounted ts done left ps committed opened waits waiting → Some it ≡ pending_of txn ps → len ≡ capped (sum_by change_bytes it.changes) → behind ≡ done ++ it.changes
    → AreCounted ts behind left (without_txn txn ps) committed (opened - len) (waits + len) (waiting - length it.changes)
counted_done txn it ts done behind left ps committed opened waits waiting len distinct counted found bytes appended =
    let rest = counted_without txn it ts done left ps committed opened waits waiting len distinct counted found bytes in
    let own = ap changes_of found in
    let all = ap (sum_by change_bytes) appended ∙ sum_by-append change_bytes done it.changes in
    let parted = bytes_parted txn ps distinct in
    let own_bytes = ap (sum_by change_bytes) own in
    record {
      committed_is = rest.committed_is;
      opened_is = rest.opened_is;
      waits_is = omega (arith, all, counted.waits_is, counted.opened_is, counted.small, bytes, parted, own_bytes);
      small = omega (arith, counted.small, counted.opened_is, bytes, parted, own_bytes);
      waiting_is = rest.waiting_is;
    }

-- The state is that after the commit.
pub state_done : (txn xid number last : ℕ) (it : Pending) (ts : List Table) (done behind : List Change) (left : List Prepared) (ps : List Pending) (state : EngineState)
    → AreSound ts done left ps → state_of ts done left ps last ≡ state → IsUnder txn xid state → Some it ≡ pending_of txn ps → behind ≡ done ++ it.changes
    → state_of ts behind left (without_txn txn ps) number ≡ committed_state txn xid number state
state_done txn xid number last it ts done behind left ps state sound is under found appended =
    let here : xid_by txn ps ≡ Some xid = ap (λ (s : EngineState). xid_by txn s.pending) is ∙ under in
    let tables : after_changes behind ts ≡ after_changes (changes_by txn ps) (after_changes done ts) =
    ap (λ l. after_changes l ts) (appended ∙ ap (λ p. done ++ changes_of p) found) ∙ after_changes-append done (changes_by txn ps) ts in
    ap (λ l. state_with (record { tables = l; prepared = left ++ shares (without_txn txn ps); last = number }) (without_txn txn ps)) tables
    ∙ ap (λ l. state_with (record { tables = after_changes (changes_by txn ps) (after_changes done ts); prepared = l; last = number }) (without_txn txn ps)) (sym (without_share txn xid left ps sound.distinct sound.xids here))
    ∙ ap (committed_state txn xid number) is
