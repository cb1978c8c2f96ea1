-- The calls of the engine on the way of a statement: what each leaves of the run.
use Rattle.std.proofs.Common.{◌≡◌, ⊎_elim, ℕ, zero, suc, List, [], ◌∷◌, ◌++◌, Some, Result, IsTrue, refl, ◌∙◌, ap, subst, arith}
use Rattle.std.specs.Prelude.{Contains, slice_get}
use Rattle.std.proofs.lemmas.List.{map-append}
use Rattle.std.proofs.lemmas.List.Elements.{Contains-append_left, Contains-append_right, Contains-append_cases}
use Rattle.disk_model.specs.File.{File}
use Rattle.disk_model.specs.Disk.{Disk, now, Keeps}
use Rattle.row_format.specs.declared.change.Transaction.{Transaction}
use Rattle.log_tables.specs.declared.gist.Gist.{Gist}
use Rattle.engine_api.specs.declared.fault.EngineFault.{EngineFault}
use Rattle.engine_api.specs.States.{Kind, EngineState, Pending, begun_state}
use Rattle.engine_api.specs.Many.{IsAtWork}
use Rattle.engine_api.specs.Reads.{Reading, SameReading, EachReads, OnlyIn, files_in}
use Rattle.engine_api.specs.Calls.{GoesOn as EngineGoesOn, Turns}
use Rattle.recovery_rules.specs.Places.{IsNew}
use Rattle.recovery_rules.specs.Recovery.{IsRecoverable}
use Rattle.volume_rules.proofs.SameLemmas.{same_back}
use Rattle.volume_rules.proofs.StepLemmas.{alone}
use Rattle.engine_api.proofs.ManyLemmas.{reads_as}
use Rattle.plugd.specs.Xids.{xids_of, IsNextXid}
use Rattle.plugd.specs.Play.{State}
use Rattle.plugd.specs.Serve.{Core, reader_of, shelf_of, CouldRecover, IsIdle}
use Rattle.plugd.specs.Way.{Past, IsOnWay}
use Rattle.plugd.proofs.XidLemmas.{next_is_new}
use Rattle.plugd.proofs.AheadLemmas.{Called}
use Rattle.plugd.proofs.LogLemmas.{durable_holds}

-- an idle state is that of an engine that has just begun with its gist
pub idle_is : (idle : EngineState) (s : State) → IsIdle idle s → idle ≡ begun_state idle.gist
idle_is idle s is = same idle.pending idle.kept is.pending is.kept
  where
    same : (pending : List Pending) (kept : List Gist) → pending ≡ [] → kept ≡ idle.gist ∷ [] → (record { gist = idle.gist; pending = pending; kept = kept }) ≡ begun_state idle.gist
    same pending kept p k = ap (λ (l : List Pending). record { gist = idle.gist; pending = l; kept = kept }) p ∙ ap (λ (l : List Gist). record { gist = idle.gist; pending = []; kept = l }) k

-- what a call that turns the engine's state did to the disk
pub turns_called : (past : Past) (was : EngineState) (given : List ℕ) (core : Core) {T : Type 0} (result : Result T EngineFault) (next after : EngineState) (reading : Reading) (holds : List File → Type 0) (disk : Disk) (a b : Gist)
    → IsOnWay past was given core → SameReading core.engine.reading reading
    → Turns core.engine.kind core.engine.reading result next core.engine.state after holds core.disk disk
    → core.engine.state.kept ≡ a ∷ [] → next.kept ≡ b ∷ []
    → (IsTrue past.base.start.told → CouldRecover past.base core.engine → IsRecoverable (shelf_of core.engine) (past.base.found ++ past.state.asked) (alone (reader_of core.engine) a) × IsRecoverable (shelf_of core.engine) (past.base.found ++ past.state.asked) (alone (reader_of core.engine) b))
    → Called past.base (past.base.found ++ past.state.asked) core reading a b disk
turns_called past was given core result next after reading holds disk a b way same turns had gets goes = record {
  on = record { told = turns.cause.told; later = turns.cause.later; no_fewer = turns.cause.no_fewer };
  same = same;
  apart = way.ahead.fixed.kind.apart;
  moments = λ told. subst (λ (l : List Gist). Keeps core.disk disk (OnlyIn core.engine.kind.files (now core.disk) (EachReads core.engine.reading l))) (both had gets) (turns.moments told);
  holds = λ told. durable_holds core.server.log (past.base.found ++ past.state.asked) core.disk (way.rest (first told)).durable;
  goes = λ told could. goes (first told) could;
}
  where
    first : IsTrue core.disk.told → IsTrue past.base.start.told
    first told = subst IsTrue way.ahead.stopped.secure.told told

    both : {xs ys : List Gist} → xs ≡ a ∷ [] → ys ≡ b ∷ [] → xs ++ ys ≡ a ∷ b ∷ []
    both x y = cc

-- it goes on, and its files are what it takes them for
pub turns_work : (kind : Kind) (reading reading₂ : Reading) {T : Type 0} (result : Result T EngineFault) (next old after : EngineState) (holds : List File → Type 0) (before disk : Disk) → SameReading reading reading₂
    → Turns kind reading result next old after holds before disk → EngineGoesOn result → IsTrue before.told
    → IsAtWork (record { kind = kind; reading = reading₂; state = after; holds = holds }) (now disk)
turns_work kind reading reading₂ result next old after holds before disk same turns goes told =
    let files = turns.files told goes in
    record { holds = files.0; reads = reads_as reading₂ reading after.kept after.kept (files_in kind.files disk) (same_back reading reading₂ same) (λ g on. on) files.1 }

-- a new xid is none of the log
pub new_xid : (found asked : List Transaction) (given : List ℕ) (xid : ℕ) → ((x : ℕ) → Contains (xids_of asked) x → Contains given x) → IsNextXid (xids_of found ++ given) xid → IsNew xid (found ++ asked)
new_xid found asked given xid all next = record {
  unlike = λ place it at same. next_is_new (xids_of found ++ given) xid next
      (subst (Contains (xids_of found ++ given)) same (has it.xid (subst (λ (l : List ℕ). Contains l it.xid) (map-append (λ (t : Transaction). t.xid) found asked) (there (found ++ asked) place it at))));
}
  where
    there : (log : List Transaction) (place : ℕ) (it : Transaction) → slice_get log place ≡ Some it → Contains (xids_of log) it.xid
    there [] place it at = cc
    there (t ∷ log) zero it at = let same : t ≡ it = cc in subst (λ (x : Transaction). Contains (xids_of (t ∷ log)) x.xid) same (0, omega arith, refl)
    there (t ∷ log) (suc place) it at = Contains-append_right (t.xid ∷ []) (xids_of log) it.xid (there log place it at)

    has : (x : ℕ) → Contains (xids_of found ++ xids_of asked) x → Contains (xids_of found ++ given) x
    has x on = ⊎_elim (λ one. Contains-append_left (xids_of found) given x one) (λ one. Contains-append_right (xids_of found) given x (all x one)) (Contains-append_cases (xids_of found) (xids_of asked) x on)
