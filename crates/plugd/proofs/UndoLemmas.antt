-- The rollback of a statement, by its answer.
use Rattle.std.proofs.Common.{◌≡◌, inl, inr, ℕ, List, [], ◌∷◌, ◌++◌, true, Result, Ok, Err, IsTrue, refl, sym, ◌∙◌, ap, subst}
use Rattle.std.proofs.lemmas.List.Elements.{Contains-append_left}
use Rattle.disk_model.specs.File.{File}
use Rattle.disk_model.specs.Disk.{Disk}
use Rattle.sql_value.specs.declared.refusal.Refusal.{Refusal}
use Rattle.sql_value.specs.declared.refusal.Refusal.TheVariants as refusal
use Rattle.row_format.specs.declared.change.Change.{Change}
use Rattle.log_tables.specs.declared.gist.Gist.{Gist}
use Rattle.log_tables.specs.declared.gist.Prepared.{Prepared as Share}
use Rattle.log_tables.specs.Gists.{after_prepare, after_rollback}
use Rattle.engine_api.specs.declared.fault.EngineFault.{EngineFault}
use Rattle.engine_api.specs.declared.fault.EngineFault.TheVariants as fault
use Rattle.engine_api.specs.States.{Kind, EngineState, begun_state, rolled_back_state}
use Rattle.engine_api.specs.Reads.{Reading}
use Rattle.engine_api.specs.Calls.{IsSame, IsDoneOrDevice, Turns}
use Rattle.recovery_rules.specs.Recovery.{IsRecoverable}
use Rattle.volume_rules.proofs.StepLemmas.{alone, none_left}
use Rattle.plugd.specs.Asked.{Work, is_prepared_for}
use Rattle.plugd.specs.declared.reply.Reply.{Reply}
use Rattle.plugd.specs.declared.reply.Reply.TheVariants.{Refused, Halted}
use Rattle.plugd.specs.declared.reply.HaltCause.TheVariants.{Device}
use Rattle.plugd.specs.declared.server.Server.{Server}
use Rattle.plugd.specs.Serve.{session}
use Rattle.plugd.specs.Play.{IsNextGiven, IsPlayed, with_given, Turn, full, spent}
use Rattle.plugd.specs.Serve.{Core, rules_of, reader_of, shelf_of, CouldRecover, IsIdle, IsAtRest}
use Rattle.plugd.specs.Spell.{with_halt}
use Rattle.plugd.specs.Way.{Past, IsOnWay, IsGranted, IsToUndo, IsReason, Undoes}
use Rattle.plugd.proofs.AheadLemmas.{core_of}
use Rattle.plugd.proofs.WayLemmas.{halted_now, refused_now}
use Rattle.plugd.proofs.DoneLemmas.{so_far, share, executed_kept, fit_prepared}
use Rattle.plugd.proofs.EndLemmas.{prepared_is_state, ready_kept, ready_fit}
use Rattle.plugd.proofs.StepLemmas.{Turned, turned_way, turned_halts}
use Rattle.plugd.proofs.PrepareLemmas.{ready_is}
use Rattle.plugd.proofs.TextLemmas.{given_comes}

-- A statement that is to be taken back: what the engine has of it, prepared or not, and what is left behind a rollback.
pub record IsUndone (past : Past) (idle : EngineState) (asks : Work) (changes : List Change) (xid : ℕ) (core : Core) : Type 0 where
  pub way : IsOnWay past idle (past.state.given ++ xid ∷ []) core
  pub granted : IsGranted past asks changes
  pub next : IsNextGiven (rules_of past.base) past.state xid
  pub gist : Gist
  pub had : core.engine.state.kept ≡ gist ∷ []
  pub left : rolled_back_state session core.engine.state ≡ begun_state idle.gist
  pub goes : IsTrue past.base.start.told → CouldRecover past.base core.engine → IsRecoverable (shelf_of core.engine) (so_far past) (alone (reader_of core.engine) gist)

-- nothing is left of what was prepared
rolled_gist : (xid : ℕ) (changes : List Change) (gist : Gist) → gist.prepared ≡ [] → after_rollback xid (after_prepare (share xid changes) gist) ≡ gist
rolled_gist xid changes gist none = ap (λ (l : List Share). record { tables = gist.tables; prepared = l; last = gist.last }) (none_left xid gist (share xid changes) none refl ∙ sym none)

undone : (past : Past) (idle : EngineState) (asks : Work) (changes : List Change) (xid : ℕ) (core : Core) → is_prepared_for asks ≡ true → IsToUndo past idle asks changes xid core → IsUndone past idle asks changes xid core
undone past idle asks changes xid core touches (inl is) = record {
  way = is.executed.way;
  granted = is.executed.granted;
  next = is.next;
  gist = idle.gist;
  had = executed_kept past idle asks changes (past.state.given ++ xid ∷ []) core touches is.executed;
  left = ap (rolled_back_state session) (ready_is past idle asks changes xid core is);
  goes = λ told could. ((is.executed.way.rest told).recovered could).recoverable;
}
undone past idle asks changes xid core touches (inr is) = record {
  way = is.way;
  granted = is.granted;
  next = is.next;
  gist = after_prepare (share xid changes) idle.gist;
  had = ready_kept past idle asks changes xid core is;
  left = ap (rolled_back_state session) (prepared_is_state past idle asks changes xid core is) ∙ ap begun_state (rolled_gist xid changes idle.gist is.way.was_idle.none_prepared);
  goes = λ told could. fit_prepared past core idle.gist changes xid (ready_fit past idle asks changes xid core touches is told could);
}

-- what the rollback did
undo_turned : (past : Past) (idle : EngineState) (asks : Work) (changes : List Change) (xid : ℕ) (core : Core) {T : Type 0} (result : Result T EngineFault) (after : EngineState) (kind : Kind) (reading : Reading) (holds : List File → Type 0) (disk : Disk)
    → (is : IsUndone past idle asks changes xid core) → IsSame core.engine.kind kind core.engine.reading reading
    → Turns core.engine.kind core.engine.reading result (rolled_back_state session core.engine.state) core.engine.state after holds core.disk disk
    → Turned past idle (past.state.given ++ xid ∷ []) core result (rolled_back_state session core.engine.state) after kind reading holds disk is.gist idle.gist
undo_turned past idle asks changes xid core result after kind reading holds disk is same turns = record {
  way = is.way;
  same = same;
  turns = turns;
  had = is.had;
  gets = ap (λ (s : EngineState). s.kept) is.left;
  goes = λ told could. (is.goes told could, ((is.way.rest told).recovered could).recoverable);
}

-- the line is refused for this reason
turn_of : (past : Past) (asks : Work) (changes : List Change) (xid : ℕ) (reason : Refusal) (line : List ℕ) → is_prepared_for asks ≡ true → IsGranted past asks changes → IsNextGiven (rules_of past.base) past.state xid
    → IsReason past changes reason → IsPlayed line asks.text past.state → Turn (rules_of past.base) line past.state (Refused reason ∷ []) (with_given (past.state.given ++ xid ∷ []) past.state)
turn_of past asks changes xid refusal.TableFull line touches granted next why played =
    full asks played changes granted.makes touches xid next refl refl
turn_of past asks changes xid refusal.LogSpent line touches granted next why played =
    spent asks played changes granted.makes xid next why refl refl
turn_of past asks changes xid reason line touches granted next why played = absurd why

-- it is rolled back
pub undoes_ok : (reason : Refusal) (core : Core) {T : Type 0} (value : T) (after : EngineState) (kind : Kind) (reading : Reading) (holds : List File → Type 0) (disk : Disk)
    → IsSame core.engine.kind kind core.engine.reading reading
    → Turns {T = T} core.engine.kind core.engine.reading (Ok value) (rolled_back_state session core.engine.state) core.engine.state after holds core.disk disk
    → Undoes reason core (core_of core.server kind reading after holds disk) (Refused reason)
undoes_ok reason core value after kind reading holds disk same turns = record {
  ok = λ past idle asks changes xid touches is catalog why line gives.
      let u = undone past idle asks changes xid core touches is in
      let way = turned_way past idle (past.state.given ++ xid ∷ []) core (Ok value) (rolled_back_state session core.engine.state) after kind reading holds disk u.gist idle.gist
      (undo_turned past idle asks changes xid core (Ok value) after kind reading holds disk u same turns) tt in
      let now_is : after ≡ begun_state idle.gist = turns.ok ∙ u.left in
      let i = u.way.was_idle in
      refused_now past idle (past.state.given ++ xid ∷ []) (core_of core.server kind reading after holds disk) (Refused reason) line way catalog refl
      (subst (λ (s : EngineState). IsIdle s past.state) (sym now_is) (record { pending = refl; kept = refl; none_prepared = i.none_prepared; live = i.live; last = i.last }))
      (λ x on. Contains-append_left past.state.given (xid ∷ []) x on)
      (λ told. subst (λ (g : Gist). IsAtRest past.base (core_of core.server kind reading after holds disk) g past.state (past.state.given ++ xid ∷ [])) (sym (ap (λ (s : EngineState). s.gist) now_is)) (way.rest told))
      (turn_of past asks changes xid reason line touches u.granted u.next why (record { gives = given_comes asks.text line past.state.catalog asks.outcome gives u.granted.makes.comes; serves = way.ahead.is_serving }));
}

-- a rollback fails only by the device
pub only_device : (T : Type 0) (it : EngineFault) → IsDoneOrDevice {T = T} (Err it) → it ≡ fault.Device
only_device T fault.Device may = refl
only_device T (fault.NotAVolume file) may = absurd may
only_device T fault.Memory may = absurd may
only_device T (fault.Code it) may = absurd may

-- the device failed
pub undoes_halted : (reason : Refusal) (core : Core) {T : Type 0} (found : EngineFault) (after : EngineState) (kind : Kind) (reading : Reading) (holds : List File → Type 0) (disk : Disk) (server : Server) (reply : Reply)
    → IsSame core.engine.kind kind core.engine.reading reading
    → Turns {T = T} core.engine.kind core.engine.reading (Err found) (rolled_back_state session core.engine.state) core.engine.state after holds core.disk disk
    → IsDoneOrDevice {T = T} (Err found) → server ≡ with_halt Device core.server → reply ≡ Halted Device
    → Undoes reason core (core_of server kind reading after holds disk) reply
undoes_halted reason core {T = T} found after kind reading holds disk server reply same turns may server_is reply_is =
    subst (λ (r : Reply). Undoes reason core (core_of server kind reading after holds disk) r) (sym reply_is)
    (subst (λ (s : Server). Undoes reason core (core_of s kind reading after holds disk) (Halted Device)) (sym server_is) (record {
      ok = λ past idle asks changes xid touches is catalog why.
          let u = undone past idle asks changes xid core touches is in
          let device : found ≡ fault.Device = only_device T found may in
          halted_now past (core_of core.server kind reading after holds disk) Device asks.text
          (turned_halts past idle (past.state.given ++ xid ∷ []) core {T = T} fault.Device [] Device (rolled_back_state session core.engine.state) after kind reading holds disk u.gist idle.gist
          (subst (λ (f : EngineFault). Turned {T = T} past idle (past.state.given ++ xid ∷ []) core (Err f) (rolled_back_state session core.engine.state) after kind reading holds disk u.gist idle.gist) device
          (undo_turned past idle asks changes xid core {T = T} (Err found) after kind reading holds disk u same turns)) refl tt);
    }))
