-- Records that end a transaction fit, and where one is prepared there is a journal.
use Rattle.std.proofs.Common.{◌≡◌, ℕ, ◌+◌, ◌*◌, ◌<◌, ◌^◌, Option, Some, None, List, [], length, Result, Err, arith, Bool, true, false, ◌&&◌, is_some, IsTrue, refl, sym, ap, subst, ◌∙◌}
use Rattle.std.specs.Prelude.{nat_lt, slice_index_or}
use Rattle.frame_codec.specs.Frame.{limit}
use Rattle.framed_file.specs.Framed.{header_len}
use Rattle.redo_journal.specs.Replays.{end_behind, end_of_records, commit_size}
use Rattle.log_tables.proofs.PartLemmas.{cond_true, cond_false}
use Rattle.disk_model.specs.Disk.{Disk}
use Rattle.disk_model.specs.File.{File}
use Rattle.log_tables.specs.declared.gist.Prepared.{Prepared}
use Rattle.log_tables.specs.declared.gist.Gist.{Gist}
use Rattle.log_tables.specs.Changes.{all_apply}
use Rattle.log_tables.specs.Gists.{empty_gist, prepared_with, is_prepared, after_commit, after_rollback}
use Rattle.redo_journal.specs.declared.record.Record.{Record}
use Rattle.redo_journal.specs.declared.record.Record.TheVariants.{Prepare, Commit, Rollback}
use Rattle.redo_journal.specs.declared.journal.Area.{Area}
use Rattle.redo_journal.specs.declared.journal.Journal.{Journal}
use Rattle.redo_journal.specs.Journals.{IsJournalOn, IsJournal}
use Rattle.redo_journal.specs.Appending.{FitsBehind}
use Rattle.engine_api.specs.declared.fault.Code.{Code}
use Rattle.engine_api.specs.declared.fault.EngineFault.{EngineFault}
use Rattle.engine_api.specs.declared.fault.EngineFault.TheVariants.{Code as code}
use Rattle.engine_api.specs.States.{Kind, EngineState, xid_by, share_of, gist_without, with_gist, committed_state, rolled_back_state, resolved, resolved_state, dropped_state}
use Rattle.engine_api.specs.Reads.{Reading, files_in}
use Rattle.engine_api.specs.Calls.{AnswersOnly, Turns}
use Rattle.journal_engine.specs.Engine.{gist_with, Journaled, kind_of, files_of, gist_of, journal_reading, StandsFor, IsHeld, AreWritable, is_spent}
use Rattle.journal_engine.proofs.RecordLemmas.{found_has, commit_gives, fits_commit, fits_rollback}
use Rattle.journal_engine.proofs.RoomLemmas.{fits_prepare, spent_is}
use Rattle.journal_engine.proofs.TurnLemmas.{FitsIn, journal_there}

fits_each : (journal : Option Journal) (gist : Gist) (it : Record) → ((area : Option Area) (records : List Record) → IsJournalOn area records → gist_of records ≡ gist → FitsBehind records it) → FitsIn journal gist it
fits_each None gist it each = tt
fits_each (Some journal) gist it each = λ records on is. each journal.area records on is

pub commit_fits : (journal : Option Journal) (gist : Gist) (xid number : ℕ) (it : Prepared) → prepared_with xid gist.prepared ≡ Some it → all_apply it.changes gist.tables ≡ true → gist.last < number → xid < 2 ^ 64 → number < 2 ^ 64
    → FitsIn journal gist (Commit xid number)
commit_fits journal gist xid number it found fit later small_xid small = fits_each journal gist (Commit xid number)
    (λ area records on is. fits_commit area records gist xid number it on is found later fit small_xid small)

pub rollback_fits : (journal : Option Journal) (gist : Gist) (xid : ℕ) → is_prepared xid gist.prepared ≡ true → xid < 2 ^ 64 → FitsIn journal gist (Rollback xid)
rollback_fits journal gist xid prepared small = fits_each journal gist (Rollback xid) (λ area records on is. fits_rollback area records gist xid on is prepared small)

none_prepared : (xid : ℕ) (gist : Gist) → is_prepared xid gist.prepared ≡ true → gist ≡ empty_gist → ⊥
none_prepared xid gist prepared empty = let no : is_prepared xid [] ≡ true = subst (λ (g : Gist). is_prepared xid g.prepared ≡ true) empty prepared in cc

-- where something is prepared there is a journal
pub prepared_there : (first xid : ℕ) (journal : Option Journal) (gist : Gist) → StandsFor first journal gist → is_prepared xid gist.prepared ≡ true → journal ≡ None → ⊥
prepared_there first xid journal gist stands prepared = journal_there first journal gist stands (none_prepared xid gist prepared)

-- what was found is prepared
pub found_prepared : (xid : ℕ) (gist : Gist) (it : Prepared) → prepared_with xid gist.prepared ≡ Some it → is_prepared xid gist.prepared ≡ true
found_prepared xid gist it found = ap is_some found

-- the gist after a transaction's commit
pub committed_gist : (txn xid number : ℕ) (state : EngineState) → prepared_with xid state.gist.prepared ≡ Some (share_of txn xid state) → (committed_state txn xid number state).gist ≡ gist_with (Commit xid number) state.gist
committed_gist txn xid number state found = sym (commit_gives xid number (share_of txn xid state) state.gist found)

-- and after the rollback of one that is prepared
pub rolled_gist : (txn xid : ℕ) (state : EngineState) → xid_by txn state.pending ≡ Some xid → (rolled_back_state txn state).gist ≡ gist_with (Rollback xid) state.gist
rolled_gist txn xid state under = ap (λ (o : Option ℕ). gist_without o state.gist) under

-- What is said of the fields is so of what is told.
pub turns_told : {T : Type 0} (e v : Journaled) (is : e ≡ v) (result : Result T EngineFault) (next : EngineState → EngineState) (new : EngineState) (holds : List File → Type 0) (before after : Disk)
    → Turns (kind_of e) journal_reading result (next e.live) e.live new holds before after → Turns (kind_of v) journal_reading result (next v.live) v.live new holds before after
turns_told e v is result next new holds before after turns = subst (λ (w : Journaled). Turns (kind_of w) journal_reading result (next w.live) w.live new holds before after) is turns

pub held_told : (e v : Journaled) (is : e ≡ v) (d : Disk) → (IsTrue d.told → IsHeld v.first_file v.journal v.live.gist (files_in (files_of v.first_file) d)) → IsTrue d.told → IsHeld e.first_file e.journal e.live.gist (files_in (files_of e.first_file) d)
held_told e v is d held = subst (λ (w : Journaled). IsTrue d.told → IsHeld w.first_file w.journal w.live.gist (files_in (files_of w.first_file) d)) (sym is) held

-- A commit by xid: what was found is committed, where its number is above the last one and its changes apply.
pub some_of : (o : Option Prepared) → is_some o ≡ true → (it : Prepared) × (o ≡ Some it)
some_of None is = absurd (cc)
some_of (Some it) is = (it, refl)

pub resolved_commits : (xid number : ℕ) (state : EngineState) (it : Prepared) → prepared_with xid state.gist.prepared ≡ Some it → (nat_lt state.gist.last number && all_apply it.changes state.gist.tables) ≡ true
    → resolved_state xid number state ≡ with_gist (after_commit it number state.gist) state
resolved_commits xid number state it found can =
    ap (λ (o : Option Prepared). with_gist (resolved o number state.gist) state) found
    ∙ ap (λ (g : Gist). with_gist g state) (cond_true (nat_lt state.gist.last number && all_apply it.changes state.gist.tables) (after_commit it number state.gist) (after_rollback it.xid state.gist) can)

pub resolved_drops : (xid number : ℕ) (state : EngineState) (it : Prepared) → prepared_with xid state.gist.prepared ≡ Some it → (nat_lt state.gist.last number && all_apply it.changes state.gist.tables) ≡ false
    → resolved_state xid number state ≡ dropped_state xid state
resolved_drops xid number state it found cannot =
    ap (λ (o : Option Prepared). with_gist (resolved o number state.gist) state) found
    ∙ ap (λ (g : Gist). with_gist g state) (cond_false (nat_lt state.gist.last number && all_apply it.changes state.gist.tables) (after_commit it number state.gist) (after_rollback it.xid state.gist) cannot)
    ∙ ap (λ (n : ℕ). dropped_state n state) (found_has xid state.gist.prepared it found)

-- the same turn, to a state that is the same
pub turns_same : {T : Type 0} (kind : Kind) (reading : Reading) (result : Result T EngineFault) (next other old new : EngineState) (holds : List File → Type 0) (before after : Disk) → other ≡ next
    → Turns kind reading result next old new holds before after → Turns kind reading result other old new holds before after
turns_same kind reading result next other old new holds before after same turns = subst (λ (s : EngineState). Turns kind reading result s old new holds before after) (sym same) turns

-- A Prepare that leaves its room fits, also spelt from a copy of what the transaction has pending.
pub prepare_fits : (journal : Option Journal) (it : Journal) (gist : Gist) (share copy : Prepared) (others : ℕ) (past : Bool) → journal ≡ Some it → copy ≡ share → AreWritable share.changes → share.xid < 2 ^ 64
    → is_prepared share.xid gist.prepared ≡ false → others ≡ length gist.prepared
    → ((records : List Record) → IsJournal it records → past ≡ nat_lt limit (end_behind (end_of_records header_len records) (Prepare copy) + commit_size * (others + 1))) → past ≡ false → FitsIn journal gist (Prepare share)
prepare_fits journal it gist share copy others past is copied written small free count told not_past = subst (λ (o : Option Journal). FitsIn o gist (Prepare share)) (sym is)
    (λ records on gist_is. fits_prepare it.area records gist share others on gist_is written small free count
    (subst (λ (sh : Prepared). nat_lt limit (end_behind (end_of_records header_len records) (Prepare sh) + commit_size * (others + 1)) ≡ false) copied (sym (told records on) ∙ not_past)))

-- the journal is spent exactly where it has no room for it
pub spent_told : (first : ℕ) (journal : Option Journal) (it : Journal) (txn xid : ℕ) (state : EngineState) (copy : Prepared) (others : ℕ) (past : Bool) → StandsFor first journal state.gist → journal ≡ Some it → copy ≡ share_of txn xid state
    → others ≡ length state.gist.prepared → ((records : List Record) → IsJournal it records → past ≡ nat_lt limit (end_behind (end_of_records header_len records) (Prepare copy) + commit_size * (others + 1)))
    → is_spent journal txn xid state ≡ past
spent_told first journal it txn xid state copy others past stands is copied count told =
    let here = subst (λ (o : Option Journal). StandsFor first o state.gist) is stands in
    ap (λ (o : Option Journal). is_spent o txn xid state) is
    ∙ spent_is it here.1.0 txn xid state others past here.1.1 count
    (told here.1.0 here.1.1 ∙ ap (λ (sh : Prepared). nat_lt limit (end_behind (end_of_records header_len here.1.0) (Prepare sh) + commit_size * (others + 1))) copied)

-- a journal that was found is there
pub found_there : {X : Type 0} (o : Option X) (x : X) → o ≡ Some x → o ≡ None → ⊥
found_there o x is none = let both : Some x ≡ None = sym is ∙ none in cc

-- what a write answers is no code
pub not_code : (c : Code) (fault : EngineFault) (r : Result (Unit {0}) EngineFault) → r ≡ Err fault → AnswersOnly [] [] true r → r ≡ Err (code c) → ⊥
not_code c fault r is answers said = of (answers (code c) said)
  where
    of : (k : ℕ) × (k < 0) × (slice_index_or [] k c ≡ c) → ⊥
    of (k, lt, e) = let below : k < 0 = lt in omega (arith, below)
