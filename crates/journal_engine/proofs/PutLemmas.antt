-- A call that adds one record to the journal: what it needs, and what it makes of the engine.
use Rattle.std.proofs.Common.{◌≡◌, ℕ, ◌+◌, ◌*◌, ◌<◌, ◌^◌, Option, Some, None, List, [], ◌∷◌, length, map, Result, Ok, Err, OnOk, Bool, true, false, ◌&&◌, IsTrue, refl, sym, ap, subst, ◌∙◌}
use Rattle.std.specs.Prelude.{nat_lt}
use Rattle.std.proofs.lemmas.Bool.{and_parts, ltb-true}
use Rattle.std.proofs.lemmas.List.{length-map}
use Rattle.frame_codec.specs.Frame.{limit}
use Rattle.framed_file.specs.Framed.{header_len}
use Rattle.disk_model.specs.Disk.{Disk}
use Rattle.row_format.specs.declared.change.Change.{Change}
use Rattle.log_tables.specs.declared.gist.Prepared.{Prepared}
use Rattle.log_tables.specs.Changes.{all_apply}
use Rattle.log_tables.specs.Gists.{prepared_with, is_prepared, after_commit}
use Rattle.redo_journal.specs.Replays.{end_behind, end_of_records, commit_size}
use Rattle.redo_journal.specs.declared.record.Record.{Record}
use Rattle.redo_journal.specs.declared.record.Record.TheVariants.{Prepare, Commit, Rollback}
use Rattle.redo_journal.specs.declared.journal.Journal.{Journal}
use Rattle.redo_journal.specs.Journals.{IsJournal}
use Rattle.engine_api.specs.declared.fault.EngineFault.{EngineFault}
use Rattle.engine_api.specs.States.{EngineState, changes_by, share_of, with_gist, prepared_state, committed_state, rolled_back_state, resolved_state, dropped_state}
use Rattle.engine_api.specs.Live.{IsUnder, IsLeft}
use Rattle.engine_api.specs.Reads.{files_in}
use Rattle.engine_api.specs.Calls.{IsDevice, Turns}
use Rattle.journal_engine.specs.Engine.{gist_with, Journaled, kind_of, files_of, journal_reading, IsHeld, CanBeSpelt, IsWell}
use Rattle.journal_engine.specs.Writing.{AdmitsIn, HasFilesIn, Puts}
use Rattle.journal_engine.proofs.RecordLemmas.{commit_gives}
use Rattle.journal_engine.proofs.SpeltLemmas.{writable_by, spelt_prepared, spelt_committed, spelt_rolled_back, spelt_left, spelt_dropped}
use Rattle.journal_engine.proofs.TurnLemmas.{FitsIn, put_admits, put_files, turns_put, turns_not_put, turns_quiet, put_well}
use Rattle.journal_engine.proofs.EndLemmas.{prepare_fits, commit_fits, rollback_fits, prepared_there, found_prepared, found_there, committed_gist, rolled_gist, resolved_commits, some_of, turns_told, held_told}

-- The engine may add this record and then have this state: the record fits, there is a journal, and the state is what the record makes.
pub record MayPut (e : Journaled) (it : Record) (next : EngineState) : Type 0 where
  pub well : IsWell e.first_file e.journal e.live
  pub fits : FitsIn e.journal e.live.gist it
  pub there : e.journal ≡ None → ⊥
  pub alone : next.kept ≡ next.gist ∷ []
  pub gist : next.gist ≡ gist_with it e.live.gist
  pub spelt : CanBeSpelt next

-- where contents are told, the engine's files hold what its journal stands for
abbrev pub HeldIn : Journaled → Disk → Type 0
HeldIn e d = IsTrue d.told → IsHeld e.first_file e.journal e.live.gist (files_in (files_of e.first_file) d)

-- what the call on the journal asks for
pub may_admit : (e v : Journaled) → e ≡ v → (it : Record) (next : EngineState) → MayPut e it next → AdmitsIn e.journal it
may_admit e v is it next may = put_admits e.first_file e.journal e.live.gist it may.well.stands may.fits may.there

pub may_files : (e v : Journaled) → e ≡ v → (it : Record) (next : EngineState) (d : Disk) → MayPut e it next → HeldIn v d → HasFilesIn e.journal d
may_files e v is it next d may held = put_files e.first_file e.journal e.live.gist d may.well.stands (held_told e v is d held) may.there

-- The record was added.
pub call_put : (e v : Journaled) → e ≡ v → (it : Record) (next : EngineState → EngineState) (now : Option Journal) (mid new : EngineState) (d after : Disk) → MayPut e it (next e.live) → HeldIn v d
    → (done : Unit {0}) → Puts it (Ok done) e.journal now e.live mid d after → new ≡ next e.live
    → Turns {T = Unit {0}} (kind_of v) journal_reading (Ok tt) (next v.live) v.live new (λ files. IsHeld e.first_file now new.gist files) d after
call_put e v is it next now mid new d after may held done puts new_is =
    turns_told e v is (Ok tt) next new (λ files. IsHeld e.first_file now new.gist files) d after
    (turns_put e it now mid (next e.live) d after may.well.stands may.fits (held_told e v is d held) may.well.alone may.alone may.gist done new puts new_is)

pub call_well : (e v : Journaled) → e ≡ v → (it : Record) (next : EngineState) (now : Option Journal) (mid new : EngineState) (d after : Disk) → MayPut e it next
    → (done : Unit {0}) → Puts it (Ok done) e.journal now e.live mid d after → new ≡ next → IsWell e.first_file now new
call_well e v is it next now mid new d after may done puts new_is =
    subst (λ (s : EngineState). IsWell e.first_file now s) (sym new_is)
    (put_well e.first_file it done e.journal now e.live mid next d after may.well may.fits puts may.gist may.alone may.spelt)

-- It was not.
pub call_not_put : (e v : Journaled) → e ≡ v → (it : Record) (next : EngineState → EngineState) (now : Option Journal) (mid : EngineState) (d after : Disk) → MayPut e it (next e.live) → HeldIn v d
    → (fault : EngineFault) → Puts it (Err fault) e.journal now e.live mid d after
    → Turns {T = Unit {0}} (kind_of v) journal_reading (Err fault) (next v.live) v.live mid (λ files. IsHeld e.first_file now mid.gist files) d after
call_not_put e v is it next now mid d after may held fault puts =
    turns_told e v is (Err fault) next mid (λ files. IsHeld e.first_file now mid.gist files) d after
    (turns_not_put e it now mid (next e.live) d after may.well.stands may.fits (held_told e v is d held) may.well.alone may.alone may.gist fault puts)

-- It ended before that, with the tables as they were.
pub call_ended : {T : Type 0} (e v : Journaled) → e ≡ v → IsWell e.first_file e.journal e.live → (result : Result T EngineFault) (next : EngineState → EngineState) (new : EngineState) (d : Disk) → HeldIn v d
    → OnOk result (new ≡ next e.live) → (IsDevice result → ⊥) → new ≡ e.live
    → Turns (kind_of v) journal_reading result (next v.live) v.live new (λ files. IsHeld e.first_file e.journal new.gist files) d d
call_ended e v is well result next new d held ok no_device same =
    turns_told e v is result next new (λ files. IsHeld e.first_file e.journal new.gist files) d d
    (turns_quiet e result (next e.live) new d ok (λ refused. same) no_device well.alone (ap (λ (s : EngineState). s.kept) same) (ap (λ (s : EngineState). s.gist) same) well.stands (held_told e v is d held))

-- It ended with all as it was.
pub call_stopped : {T : Type 0} (e v : Journaled) → e ≡ v → IsWell e.first_file e.journal e.live → (result : Result T EngineFault) (next : EngineState) (d : Disk) → HeldIn v d
    → OnOk result (v.live ≡ next) → (IsDevice result → ⊥) → Turns (kind_of v) journal_reading result next v.live v.live (λ files. IsHeld v.first_file v.journal v.live.gist files) d d
call_stopped e v is well result next d held ok no_device =
    let its = subst (λ (w : Journaled). IsWell w.first_file w.journal w.live) is well in
    turns_quiet v result next v.live d ok (λ refused. refl) no_device its.alone refl refl its.stands held

-- tables that are as they were before something was put
pub puts_from : {it : Record} {result : Result (Unit {0}) EngineFault} {was is : Option Journal} {between old mid : EngineState} {d after : Disk} → between ≡ old → Puts it result was is between mid d after → Puts it result was is old mid d after
puts_from {it} {result} {was} {is} {between} {old} {mid} {d} {after} same puts = subst (λ (s : EngineState). Puts it result was is s mid d after) same puts

-- A prepare, of a copy of what the transaction has pending.
pub prepare_may : (e v : Journaled) → e ≡ v → IsWell e.first_file e.journal e.live → (txn xid others : ℕ) (xids : List ℕ) (past : Bool) (journal : Journal) (copied : List Change) → e.journal ≡ Some journal → copied ≡ changes_by txn e.live.pending
    → xid < 2 ^ 64 → is_prepared xid v.live.gist.prepared ≡ false → others ≡ length xids → xids ≡ map (λ (p : Prepared). p.xid) e.live.gist.prepared
    → ((records : List Record) → IsJournal journal records → past ≡ nat_lt limit (end_behind (end_of_records header_len records) (Prepare (record { xid = xid; changes = copied })) + commit_size * (others + 1))) → past ≡ false
    → MayPut e (Prepare (record { xid = xid; changes = copied })) (prepared_state txn xid e.live)
prepare_may e v is well txn xid others xids past journal copied there copied_is small fresh long xids_are told not_past =
    let count : others ≡ length e.live.gist.prepared = long ∙ ap length xids_are ∙ length-map e.live.gist.prepared (λ (p : Prepared). p.xid) in
    let share_is : record { xid = xid; changes = copied } ≡ share_of txn xid e.live = ap (λ (cs : List Change). record { xid = xid; changes = cs }) copied_is in
    let free = subst (λ (w : Journaled). is_prepared xid w.live.gist.prepared ≡ false) (sym is) fresh in
    subst (λ (p : Prepared). MayPut e (Prepare p) (prepared_state txn xid e.live)) (sym share_is) (record {
      well = well;
      fits = prepare_fits e.journal journal e.live.gist (share_of txn xid e.live) (record { xid = xid; changes = copied }) others past there share_is (writable_by txn e.live.pending well.spelt.pending) small free count told not_past;
      there = found_there e.journal journal there;
      alone = refl;
      gist = refl;
      spelt = spelt_prepared txn xid e.live well.spelt;
    })

-- A commit, of what stands prepared under the xid.
pub commit_may : (e v : Journaled) → e ≡ v → IsWell e.first_file e.journal e.live → (txn xid number : ℕ) → IsUnder txn xid v.live → v.live.gist.last < number
    → ((t x : ℕ) → IsUnder t x e.live → prepared_with x e.live.gist.prepared ≡ Some (share_of t x e.live)) → all_apply (changes_by txn e.live.pending) e.live.gist.tables ≡ true → xid < 2 ^ 64 → number < 2 ^ 64
    → MayPut e (Commit xid number) (committed_state txn xid number e.live)
commit_may e v is well txn xid number under later prepared applies small_xid small =
    let found = prepared txn xid (subst (λ (w : Journaled). IsUnder txn xid w.live) (sym is) under) in
    let above = subst (λ (w : Journaled). w.live.gist.last < number) (sym is) later in
    record {
      well = well;
      fits = commit_fits e.journal e.live.gist xid number (share_of txn xid e.live) found applies above small_xid small;
      there = prepared_there e.first_file xid e.journal e.live.gist well.stands (found_prepared xid e.live.gist (share_of txn xid e.live) found);
      alone = refl;
      gist = committed_gist txn xid number e.live found;
      spelt = spelt_committed txn xid number e.live well.spelt;
    }

-- A rollback of what is prepared.
pub rollback_may : (e v : Journaled) → e ≡ v → IsWell e.first_file e.journal e.live → (txn xid : ℕ) → IsUnder txn xid e.live
    → ((t x : ℕ) → IsUnder t x e.live → prepared_with x e.live.gist.prepared ≡ Some (share_of t x e.live)) → xid < 2 ^ 64 → MayPut e (Rollback xid) (rolled_back_state txn e.live)
rollback_may e v is well txn xid under prepared small =
    let found = found_prepared xid e.live.gist (share_of txn xid e.live) (prepared txn xid under) in
    record {
      well = well;
      fits = rollback_fits e.journal e.live.gist xid found small;
      there = prepared_there e.first_file xid e.journal e.live.gist well.stands found;
      alone = refl;
      gist = rolled_gist txn xid e.live under;
      spelt = spelt_rolled_back txn e.live well.spelt;
    }

-- A rollback by xid.
pub drop_may : (e v : Journaled) → e ≡ v → IsWell e.first_file e.journal e.live → (xid : ℕ) → IsLeft xid v.live → xid < 2 ^ 64 → MayPut e (Rollback xid) (dropped_state xid e.live)
drop_may e v is well xid left_in small =
    let left = subst (λ (w : Journaled). IsLeft xid w.live) (sym is) left_in in
    record {
      well = well;
      fits = rollback_fits e.journal e.live.gist xid left.0 small;
      there = prepared_there e.first_file xid e.journal e.live.gist well.stands left.0;
      alone = refl;
      gist = refl;
      spelt = spelt_dropped xid e.live well.spelt;
    }

-- what was found prepared under the xid applies, and the number exceeds the last one
abbrev pub can_commit : ℕ → Prepared → EngineState → Bool
can_commit number it state = nat_lt state.gist.last number && all_apply it.changes state.gist.tables

-- what is prepared under the xid of a transaction that was left, and whether it can be committed
pub left_one : (e v : Journaled) → e ≡ v → (xid number : ℕ) (can answer : Bool) → IsLeft xid v.live
    → ((it : Prepared) → prepared_with xid e.live.gist.prepared ≡ Some it → IsLeft xid e.live → can ≡ can_commit number it e.live) → can ≡ answer
    → (it : Prepared) × (prepared_with xid e.live.gist.prepared ≡ Some it) × (can_commit number it e.live ≡ answer)
left_one e v is xid number can answer left_in told answer_is =
    let left = subst (λ (w : Journaled). IsLeft xid w.live) (sym is) left_in in
    let some = some_of (prepared_with xid e.live.gist.prepared) left.0 in
    (some.0, some.1, sym (told some.0 some.1 left) ∙ answer_is)

-- A commit by xid.
pub left_may : (e v : Journaled) → e ≡ v → IsWell e.first_file e.journal e.live → (xid number : ℕ) (it : Prepared) → prepared_with xid e.live.gist.prepared ≡ Some it → can_commit number it e.live ≡ true → xid < 2 ^ 64 → number < 2 ^ 64
    → MayPut e (Commit xid number) (resolved_state xid number e.live)
left_may e v is well xid number it found can small_xid small =
    let parts = and_parts (nat_lt e.live.gist.last number) (all_apply it.changes e.live.gist.tables) can in
    let resolved_is = resolved_commits xid number e.live it found can in
    record {
      well = well;
      fits = commit_fits e.journal e.live.gist xid number it found parts.1 (ltb-true e.live.gist.last number parts.0) small_xid small;
      there = prepared_there e.first_file xid e.journal e.live.gist well.stands (found_prepared xid e.live.gist it found);
      alone = refl;
      gist = ap (λ (s : EngineState). s.gist) resolved_is ∙ sym (commit_gives xid number it e.live.gist found);
      spelt = subst CanBeSpelt (sym resolved_is) (spelt_left xid number it e.live found well.spelt);
    }

-- the state that it makes
pub left_is : (xid number : ℕ) (it : Prepared) (old mid new : EngineState) → prepared_with xid old.gist.prepared ≡ Some it → can_commit number it old ≡ true → mid ≡ old
    → ((found : Prepared) → prepared_with xid mid.gist.prepared ≡ Some found → new ≡ with_gist (after_commit found number mid.gist) mid) → new ≡ resolved_state xid number old
left_is xid number it old mid new found can same made =
    made it (subst (λ (s : EngineState). prepared_with xid s.gist.prepared ≡ Some it) (sym same) found)
    ∙ ap (λ (s : EngineState). with_gist (after_commit it number s.gist) s) same ∙ sym (resolved_commits xid number old it found can)
