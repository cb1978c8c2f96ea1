-- A prepared statement is logged, committed in the engine and acknowledged, or a fault halts the run at it.
use Rattle.std.proofs.Common.{◌≡◌, ℕ, suc, ◌+◌, ◌<◌, ◌≤◌, List, [], ◌∷◌, ◌++◌, length, Option, Result, Ok, Err, OnOk, IsTrue, refl, sym, ◌∙◌, ap, subst, arith, length-append}
use Rattle.std.specs.Prelude.{Contains, is_some, option_to_list, IsErr}
use Rattle.std.proofs.lemmas.List.{append-nil}
use Rattle.fault_counts.specs.Rose.{Rose}
use Rattle.disk_model.specs.File.{File}
use Rattle.disk_model.specs.declared.storage.Failed.{Failed}
use Rattle.disk_model.specs.Disk.{Disk, now, Keeps, Only, HasCause}
use Rattle.row_format.specs.declared.change.Change.{Change}
use Rattle.row_format.specs.declared.change.Transaction.{Transaction}
use Rattle.log_tables.specs.declared.gist.Gist.{Gist}
use Rattle.log_tables.specs.Gists.{after_prepare, after_commit}
use Rattle.binlog_file.specs.declared.binlog.Binlog.{Binlog}
use Rattle.binlog_file.specs.Logged.{Holds}
use Rattle.binlog_file.specs.Binlog.{flushed_of, end_in}
use Rattle.dictionary.specs.Dictionary.{DictionaryState}
use Rattle.engine_api.specs.declared.fault.EngineFault.{EngineFault}
use Rattle.engine_api.specs.States.{Kind, EngineState, xid_by, committed_state}
use Rattle.engine_api.specs.Live.{IsUnder, is_under}
use Rattle.engine_api.specs.Many.{Working, IsAtWork}
use Rattle.engine_api.specs.Reads.{Reading, EachReads, OnlyIn, files_in}
use Rattle.engine_api.specs.Calls.{IsSame, IsDoneOrDevice, Turns}
use Rattle.engine_api.proofs.ManyLemmas.{same_files}
use Rattle.recovery_rules.specs.Recovery.{IsRecoverable}
use Rattle.volume_rules.proofs.StepLemmas.{alone}
use Rattle.plugd.specs.declared.reply.Reply.{Reply}
use Rattle.plugd.specs.declared.reply.Reply.TheVariants.{Done, Halted}
use Rattle.plugd.specs.declared.reply.HaltCause.TheVariants.{Device}
use Rattle.plugd.specs.declared.server.Server.{Server}
use Rattle.plugd.specs.Serve.{session}
use Rattle.plugd.specs.LogOne.{IsDurable, EachOne}
use Rattle.plugd.specs.Asked.{Work, catalog_after, count_of}
use Rattle.plugd.specs.Noting.{HasCatalog}
use Rattle.plugd.specs.Play.{logged_size}
use Rattle.plugd.specs.Serve.{Core, reader_of, shelf_of, Secure}
use Rattle.plugd.specs.Spell.{with_halt, Acknowledges}
use Rattle.plugd.specs.Way.{Past, IsAhead, IsOnWay, IsReadyToLog, IsSpelt, IsNoted, Finishes, PlaysTo}
use Rattle.plugd.proofs.AheadLemmas.{Called, GoesOn, core_of, secure_called, log_called}
use Rattle.plugd.proofs.LogLemmas.{Logs, secure_logged, secure_acknowledged, durable_holds}
use Rattle.plugd.proofs.LogOneLemmas.{carried_by}
use Rattle.plugd.proofs.SpellLemmas.{of_changes, spelt_size}
use Rattle.plugd.proofs.WayLemmas.{durable_called}
use Rattle.plugd.proofs.UndoLemmas.{only_device}
use Rattle.plugd.proofs.CallsLemmas.{turns_work}
use Rattle.plugd.proofs.DoneLemmas.{so_far, share, fit_logged, fit_committed}
use Rattle.plugd.proofs.EndLemmas.{IsDone, prepared_is_state, ready_kept, committed_kept, ready_fit, logs_ready, halted_at_it, done_now}

-- the server, with the log that it has now
abbrev pub with_log : Binlog → Server → Server
with_log log old = record { alloc = old.alloc; log = log; xids = old.xids; dictionary = old.dictionary; acks = old.acks; spelling = old.spelling; lines = old.lines; limit = old.limit; halted = old.halted }

-- the core behind the write and the sync
abbrev pub logged_core : Binlog → Disk → Core → Core
logged_core log disk core = record { server = with_log log core.server; engine = core.engine; disk = disk }

-- What the write and the sync of what is spelt tell.
pub record LogsOne (core : Core) (bytes : List ℕ) (result : Result Unit Failed) (log : Binlog) (disk : Disk) : Type 0 where
  pub bytes_are : bytes ≡ core.server.spelling.items
  pub ok : EachOne core.server.log bytes core.disk (λ list t. OnOk result (IsDurable log (list ++ t ∷ []) disk))
  pub counts : OnOk result ((flushed_of log ≡ flushed_of core.server.log + 1) × (end_in log ≡ end_in core.server.log + length bytes))
  pub moments : EachOne core.server.log bytes core.disk (λ list t. Keeps core.disk disk (Only 0 (now core.disk) (Holds list (list ++ t ∷ []))))
  pub device : HasCause IsErr result core.disk disk

-- the run is safe as far as the log goes
pub secure_before : (past : Past) (core : Core) → IsAhead past core → Secure past.base (so_far past) core
secure_before past core ahead =
    subst (λ (all : List Transaction). Secure past.base all core)
    (ap (λ (o : Option Transaction). past.base.found ++ (past.state.asked ++ option_to_list o)) ahead.met ∙ ap (λ (l : List Transaction). past.base.found ++ l) (append-nil past.state.asked))
    ahead.stopped.secure

-- the disk calls went on
pub logged_on : (core : Core) (bytes : List ℕ) (result : Result Unit Failed) (log : Binlog) (disk : Disk) → LogsOne core bytes result log disk → GoesOn core.disk disk
logged_on core bytes result log disk one = record { told = one.device.told; later = one.device.later; no_fewer = one.device.no_fewer }

-- each image has the log before, or with the transaction
pub one_moments : (past : Past) (idle : EngineState) (given : List ℕ) (changes : List Change) (xid : ℕ) (core : Core) (bytes : List ℕ) (result : Result Unit Failed) (log : Binlog) (disk : Disk)
    → IsOnWay past idle given core → IsSpelt core changes xid → LogsOne core bytes result log disk → IsTrue core.disk.told
    → Keeps core.disk disk (Only 0 (now core.disk) (Holds (so_far past) (so_far past ++ of_changes xid changes ∷ [])))
one_moments past idle given changes xid core bytes result log disk way spelt one told =
    one.moments (so_far past) (of_changes xid changes) told (carried_by core.server.log bytes core.server.spelling.items (of_changes xid changes ∷ []) one.bytes_are spelt)
    (way.rest (subst IsTrue way.ahead.stopped.secure.told told)).durable

-- it is durable
pub one_durable : (past : Past) (idle : EngineState) (given : List ℕ) (changes : List Change) (xid : ℕ) (core : Core) (bytes : List ℕ) (log : Binlog) (disk : Disk)
    → IsOnWay past idle given core → IsSpelt core changes xid → LogsOne core bytes (Ok tt) log disk → IsTrue core.disk.told → IsDurable log (so_far past ++ of_changes xid changes ∷ []) disk
one_durable past idle given changes xid core bytes log disk way spelt one told =
    one.ok (so_far past) (of_changes xid changes) told (carried_by core.server.log bytes core.server.spelling.items (of_changes xid changes ∷ []) one.bytes_are spelt)
    (way.rest (subst IsTrue way.ahead.stopped.secure.told told)).durable

-- how long the log is
pub one_len : (changes : List Change) (xid : ℕ) (core : Core) (bytes : List ℕ) (log : Binlog) (disk : Disk) (len : ℕ) → IsSpelt core changes xid → LogsOne core bytes (Ok tt) log disk → end_in core.server.log ≡ len
    → end_in log ≡ len + logged_size changes
one_len changes xid core bytes log disk len spelt one is =
    one.counts.1 ∙ ap (λ (l : List ℕ). core.server.log.len + length l) one.bytes_are ∙ spelt_size core.server.log xid changes core.server.spelling.items spelt ∙ ap (λ (n : ℕ). n + logged_size changes) is

-- what the write and the sync did
ready_logs : (past : Past) (idle : EngineState) (asks : Work) (changes : List Change) (xid : ℕ) (core : Core) (bytes : List ℕ) (result : Result Unit Failed) (log : Binlog) (disk : Disk)
    → IsReadyToLog past idle asks changes xid core → IsSpelt core changes xid → LogsOne core bytes result log disk → Logs past.base (so_far past) (of_changes xid changes) core (after_prepare (share xid changes) idle.gist) disk
ready_logs past idle asks changes xid core bytes result log disk ready spelt one =
    logs_ready past idle asks changes xid core disk ready.touches ready (logged_on core bytes result log disk one)
    (λ told. one_moments past idle (past.state.given ++ xid ∷ []) changes xid core bytes result log disk ready.way spelt one told)

-- an image may have the transaction
pub secure_one : (past : Past) (t : Transaction) (core : Core) (a : Gist) (log : Binlog) (disk : Disk) → IsAhead past core → Logs past.base (so_far past) t core a disk → Secure past.base (so_far past ++ t ∷ []) (logged_core log disk core)
secure_one past t core a log disk ahead logs = secure_logged past.base (so_far past) t core a (with_log log core.server) disk refl logs (secure_before past core ahead)

-- the device failed by now
pub rose_since : (past : Past) (core : Core) (disk : Disk) → IsAhead past core → Rose core.disk.faults disk.faults → Rose past.base.start.faults disk.faults
rose_since past core disk ahead rose = let less = ahead.stopped.secure.no_fewer in omega (arith, less, rose)

-- the write or the sync failed
failed_at_it : (rows xid : ℕ) (core : Core) (bytes : List ℕ) (e : Failed) (log : Binlog) (disk : Disk) → LogsOne core bytes (Err e) log disk
    → Finishes rows xid core (record { server = with_halt Device (with_log log core.server); engine = core.engine; disk = disk }) (Halted Device)
failed_at_it rows xid core bytes e log disk one = record {
  ok = λ past idle asks changes counts ready spelt noted room.
      halted_at_it past asks changes xid core (logged_core log disk core) Device ready.way.ahead ready.granted ready.next room refl refl refl refl
      (secure_one past (of_changes xid changes) core (after_prepare (share xid changes) idle.gist) log disk ready.way.ahead (ready_logs past idle asks changes xid core bytes (Err e) log disk ready spelt one))
      (rose_since past core disk ready.way.ahead (one.device.cause refl));
}

-- the engine can commit
pub ready_under : (past : Past) (idle : EngineState) (asks : Work) (changes : List Change) (xid : ℕ) (core : Core) → IsReadyToLog past idle asks changes xid core → IsUnder session xid core.engine.state
ready_under past idle asks changes xid core ready = ap (λ (s : EngineState). xid_by session s.pending) (prepared_is_state past idle asks changes xid core ready)

-- and its last number is less than this one
pub ready_later : (past : Past) (idle : EngineState) (asks : Work) (changes : List Change) (xid : ℕ) (core : Core) (number : ℕ) → IsReadyToLog past idle asks changes xid core → number ≡ flushed_of core.server.log + 1 → core.engine.state.gist.last < number
ready_later past idle asks changes xid core number ready is =
    let last : core.engine.state.gist.last ≡ idle.gist.last = ap (λ (s : EngineState). s.gist.last) (prepared_is_state past idle asks changes xid core ready) in
    let low = ready.way.was_idle.last in
    let count = ready.way.count in
    omega (arith, last, low, count, is)

-- its files are as they were
pub logged_files : (past : Past) (core : Core) (t : Transaction) (a : Gist) (disk : Disk) → Logs past.base (so_far past) t core a disk → IsTrue core.disk.told → files_in core.engine.kind.files disk ≡ files_in core.engine.kind.files core.disk
logged_files past core t a disk logs told =
    let run = logs.moments told in
    same_files core.engine.kind.files (now disk) (now core.disk) (λ f here. (run.each disk.calls run.later (omega arith)).0 f (λ zero. logs.apart (subst (Contains core.engine.kind.files) zero here)))

-- they are what it takes them for
pub ready_holds : (past : Past) (idle : EngineState) (asks : Work) (changes : List Change) (xid : ℕ) (core : Core) (bytes : List ℕ) (result : Result Unit Failed) (log : Binlog) (disk : Disk)
    → IsReadyToLog past idle asks changes xid core → IsSpelt core changes xid → LogsOne core bytes result log disk → IsTrue disk.told → core.engine.holds (files_in core.engine.kind.files disk)
ready_holds past idle asks changes xid core bytes result log disk ready spelt one told =
    let told₁ = subst IsTrue one.device.told told in
    subst core.engine.holds (sym (logged_files past core (of_changes xid changes) (after_prepare (share xid changes) idle.gist) disk (ready_logs past idle asks changes xid core bytes result log disk ready spelt one) told₁))
    (ready.way.rest (subst IsTrue ready.way.ahead.stopped.secure.told told₁)).at_work.holds

-- What the commit did to the disk.
commit_called : (past : Past) (idle : EngineState) (asks : Work) (changes : List Change) (xid number : ℕ) (core : Core) (bytes : List ℕ) (log : Binlog) (disk : Disk)
    {T : Type 0} (result : Result T EngineFault) (after : EngineState) (kind : Kind) (reading : Reading) (holds : List File → Type 0) (disk₂ : Disk)
    → IsReadyToLog past idle asks changes xid core → IsSpelt core changes xid → LogsOne core bytes (Ok tt) log disk → number ≡ past.state.count + 1
    → IsSame core.engine.kind kind core.engine.reading reading
    → Turns core.engine.kind core.engine.reading result (committed_state session xid number core.engine.state) core.engine.state after holds disk disk₂
    → Called past.base (so_far past ++ of_changes xid changes ∷ []) (logged_core log disk core) reading (after_prepare (share xid changes) idle.gist) (after_commit (share xid changes) number (after_prepare (share xid changes) idle.gist)) disk₂
commit_called past idle asks changes xid number core bytes log disk result after kind reading holds disk₂ ready spelt one number_is same turns = record {
  on = record { told = turns.cause.told; later = turns.cause.later; no_fewer = turns.cause.no_fewer };
  same = same.reading;
  apart = ready.way.ahead.fixed.kind.apart;
  moments = λ told. subst (λ (l : List Gist). Keeps disk disk₂ (OnlyIn core.engine.kind.files (now disk) (EachReads core.engine.reading l)))
      (both (ready_kept past idle asks changes xid core ready) (committed_kept past idle asks changes xid number core ready)) (turns.moments told);
  holds = λ told. durable_holds log (so_far past ++ of_changes xid changes ∷ []) disk (one_durable past idle (past.state.given ++ xid ∷ []) changes xid core bytes log disk ready.way spelt one (back told));
  goes = λ told could.
      let first = subst IsTrue ready.way.ahead.stopped.secure.told (back told) in
      let fit = ready_fit past idle asks changes xid core ready.touches ready first could in
      let count = ready.way.ahead.stopped.count first in
      let as_many : number ≡ suc (length (so_far past)) = omega (arith, number_is, count, length-append past.base.found past.state.asked) in (
        fit_logged past core idle.gist changes xid fit,
        subst (λ (n : ℕ). IsRecoverable (shelf_of core.engine) (so_far past ++ of_changes xid changes ∷ []) (alone (reader_of core.engine) (after_commit (share xid changes) n (after_prepare (share xid changes) idle.gist)))) (sym as_many)
            (fit_committed past core idle.gist changes xid fit).recoverable,
      );
}
  where
    back : IsTrue disk.told → IsTrue core.disk.told
    back told = subst IsTrue one.device.told told

    both : {a b : Gist} {xs ys : List Gist} → xs ≡ a ∷ [] → ys ≡ b ∷ [] → xs ++ ys ≡ a ∷ b ∷ []
    both x y = cc

-- the number of what was logged
pub one_number : (past : Past) (idle : EngineState) (given : List ℕ) (core : Core) (bytes : List ℕ) (log : Binlog) (disk : Disk) (number : ℕ) → IsOnWay past idle given core → LogsOne core bytes (Ok tt) log disk → number ≡ flushed_of log → number ≡ past.state.count + 1
one_number past idle given core bytes log disk number way one is = is ∙ one.counts.0 ∙ ap (λ (n : ℕ). n + 1) way.count

-- so is this core and this reply
as_halted : (rows xid : ℕ) (core : Core) (mid server : Server) (engine : Working) (disk : Disk) (reply : Reply) → server ≡ with_halt Device mid → reply ≡ Halted Device
    → Finishes rows xid core (record { server = with_halt Device mid; engine = engine; disk = disk }) (Halted Device) → Finishes rows xid core (record { server = server; engine = engine; disk = disk }) reply
as_halted rows xid core mid server engine disk reply server_is reply_is is =
    subst (λ (r : Reply). Finishes rows xid core (record { server = server; engine = engine; disk = disk }) r) (sym reply_is)
    (subst (λ (s : Server). Finishes rows xid core (record { server = s; engine = engine; disk = disk }) (Halted Device)) (sym server_is) is)

pub finishes_failed : (rows xid : ℕ) (core : Core) (bytes : List ℕ) (e : Failed) (log : Binlog) (disk : Disk) (server : Server) (reply : Reply) → LogsOne core bytes (Err e) log disk
    → server ≡ with_halt Device (with_log log core.server) → reply ≡ Halted Device → Finishes rows xid core (record { server = server; engine = core.engine; disk = disk }) reply
finishes_failed rows xid core bytes e log disk server reply one server_is reply_is =
    as_halted rows xid core (with_log log core.server) server core.engine disk reply server_is reply_is (failed_at_it rows xid core bytes e log disk one)

-- an image may have the transaction, behind the commit too
secure_committed : (past : Past) (idle : EngineState) (asks : Work) (changes : List Change) (xid number : ℕ) (core : Core) (bytes : List ℕ) (log : Binlog) (disk : Disk)
    {T : Type 0} (result : Result T EngineFault) (after : EngineState) (kind : Kind) (reading : Reading) (holds : List File → Type 0) (disk₂ : Disk)
    → IsReadyToLog past idle asks changes xid core → IsSpelt core changes xid → LogsOne core bytes (Ok tt) log disk → number ≡ past.state.count + 1
    → IsSame core.engine.kind kind core.engine.reading reading
    → Turns core.engine.kind core.engine.reading result (committed_state session xid number core.engine.state) core.engine.state after holds disk disk₂
    → Secure past.base (so_far past ++ of_changes xid changes ∷ []) (core_of (with_log log core.server) kind reading after holds disk₂)
secure_committed past idle asks changes xid number core bytes log disk result after kind reading holds disk₂ ready spelt one number_is same turns =
    subst (λ (k : Kind). Secure past.base (so_far past ++ of_changes xid changes ∷ []) (core_of (with_log log core.server) k reading after holds disk₂)) (sym same.kind)
    (secure_called past.base (so_far past ++ of_changes xid changes ∷ []) (so_far past ++ of_changes xid changes ∷ []) (logged_core log disk core)
    (after_prepare (share xid changes) idle.gist) (after_commit (share xid changes) number (after_prepare (share xid changes) idle.gist)) (with_log log core.server) reading after holds disk₂ refl
    (commit_called past idle asks changes xid number core bytes log disk result after kind reading holds disk₂ ready spelt one number_is same turns)
    (secure_one past (of_changes xid changes) core (after_prepare (share xid changes) idle.gist) log disk ready.way.ahead (ready_logs past idle asks changes xid core bytes (Ok tt) log disk ready spelt one)))

-- the commit failed
pub finishes_halted : (rows xid number : ℕ) (core : Core) (bytes : List ℕ) (log : Binlog) (disk : Disk)
    {T : Type 0} (found : EngineFault) (after : EngineState) (kind : Kind) (reading : Reading) (holds : List File → Type 0) (disk₂ : Disk) (server : Server) (reply : Reply)
    → LogsOne core bytes (Ok tt) log disk → number ≡ flushed_of log
    → IsSame core.engine.kind kind core.engine.reading reading
    → Turns {T = T} core.engine.kind core.engine.reading (Err found) (committed_state session xid number core.engine.state) core.engine.state after holds disk disk₂
    → (IsTrue (is_under session core.engine.state) → IsDoneOrDevice {T = T} (Err found))
    → server ≡ with_halt Device (with_log log core.server) → reply ≡ Halted Device
    → Finishes rows xid core (core_of server kind reading after holds disk₂) reply
finishes_halted rows xid number core bytes log disk {T = T} found after kind reading holds disk₂ server reply one number_is same turns may server_is reply_is =
    as_halted rows xid core (with_log log core.server) server (record { kind = kind; reading = reading; state = after; holds = holds }) disk₂ reply server_is reply_is (record {
      ok = λ past idle asks changes counts ready spelt noted room.
          let count_is = one_number past idle (past.state.given ++ xid ∷ []) core bytes log disk number ready.way one number_is in
          let under = ap is_some (ready_under past idle asks changes xid core ready) in
          let rose = turns.cause.cause (ap (λ (f : EngineFault). Err f) (only_device T found (may under))) in
          let more = one.device.no_fewer in
          halted_at_it past asks changes xid core (core_of (with_log log core.server) kind reading after holds disk₂) Device ready.way.ahead ready.granted ready.next room refl refl refl same.kind
          (secure_committed past idle asks changes xid number core bytes log disk (Err found) after kind reading holds disk₂ ready spelt one count_is same turns)
          (rose_since past core disk₂ ready.way.ahead (omega (arith, rose, more)));
    })

-- it is acknowledged
pub finishes_done : (rows xid number call : ℕ) (core : Core) (bytes : List ℕ) (log : Binlog) (disk : Disk)
    {T : Type 0} (value : T) (after : EngineState) (kind : Kind) (reading : Reading) (holds : List File → Type 0) (disk₂ : Disk) (server : Server) (reply : Reply)
    → LogsOne core bytes (Ok tt) log disk → number ≡ flushed_of log
    → IsSame core.engine.kind kind core.engine.reading reading
    → Turns {T = T} core.engine.kind core.engine.reading (Ok value) (committed_state session xid number core.engine.state) core.engine.state after holds disk disk₂
    → call ≡ disk₂.calls → Acknowledges number call (with_log log core.server) server → reply ≡ Done rows number
    → Finishes rows xid core (core_of server kind reading after holds disk₂) reply
finishes_done rows xid number call core bytes log disk {T = T} value after kind reading holds disk₂ server reply one number_is same turns call_is acks reply_is = record {
  ok = λ past idle asks changes counts ready spelt noted room.
      let count_is = one_number past idle (past.state.given ++ xid ∷ []) core bytes log disk number ready.way one number_is in
      subst (λ (r : Reply). PlaysTo past asks.text r (core_of server kind reading after holds disk₂)) (sym (reply_is ∙ ap (λ (n : ℕ). Done n number) (sym counts) ∙ ap (λ (n : ℕ). Done (count_of asks) n) count_is))
      (done_now past idle asks changes xid core (core_of server kind reading after holds disk₂) (done past idle asks changes ready spelt noted room count_is));
}
  where
    durable : (past : Past) (idle : EngineState) (asks : Work) (changes : List Change) → IsReadyToLog past idle asks changes xid core → IsSpelt core changes xid → number ≡ past.state.count + 1 → IsTrue disk₂.told → IsDurable log (so_far past ++ of_changes xid changes ∷ []) disk₂
    durable past idle asks changes ready spelt count_is told =
        let told₁ = subst IsTrue turns.cause.told told in
        durable_called log (so_far past ++ of_changes xid changes ∷ []) disk disk₂
        (log_called past.base (so_far past ++ of_changes xid changes ∷ []) (logged_core log disk core) reading (after_prepare (share xid changes) idle.gist) (after_commit (share xid changes) number (after_prepare (share xid changes) idle.gist)) disk₂
        (commit_called past idle asks changes xid number core bytes log disk (Ok value) after kind reading holds disk₂ ready spelt one count_is same turns) told₁)
        (one_durable past idle (past.state.given ++ xid ∷ []) changes xid core bytes log disk ready.way spelt one (subst IsTrue one.device.told told₁))

    ack_is : (past : Past) → number ≡ past.state.count + 1 → server.acks.items ≡ core.server.acks.items ++ (record { number = past.state.count + 1; call = disk₂.calls }) ∷ []
    ack_is past count_is =
        acks.acks ∙ ap (λ (n : ℕ). core.server.acks.items ++ (record { number = n; call = call }) ∷ []) count_is
        ∙ ap (λ (n : ℕ). core.server.acks.items ++ (record { number = past.state.count + 1; call = n }) ∷ []) call_is

    done : (past : Past) (idle : EngineState) (asks : Work) (changes : List Change) → IsReadyToLog past idle asks changes xid core → IsSpelt core changes xid → IsNoted past core changes → past.state.len + logged_size changes ≤ past.base.limit → number ≡ past.state.count + 1
        → IsDone past idle asks changes xid core (core_of server kind reading after holds disk₂)
    done past idle asks changes ready spelt noted room count_is = record {
      ready = ready;
      touches = ready.touches;
      room = room;
      secure = secure_acknowledged past.base (so_far past ++ of_changes xid changes ∷ []) (core_of (with_log log core.server) kind reading after holds disk₂) server (record { number = past.state.count + 1; call = disk₂.calls })
          (ack_is past count_is)
          (λ told. let here = durable past idle asks changes ready spelt count_is told in (here.is_log.bytes, durable_holds log (so_far past ++ of_changes xid changes ∷ []) disk₂ here))
          (λ told.
          let first = subst IsTrue ready.way.ahead.stopped.secure.told (subst IsTrue one.device.told (subst IsTrue turns.cause.told told)) in
          let count = ready.way.ahead.stopped.count first in
          omega (arith, count, length-append past.base.found past.state.asked, length-append (so_far past) (of_changes xid changes ∷ [])))
          refl
          (secure_committed past idle asks changes xid number core bytes log disk (Ok value) after kind reading holds disk₂ ready spelt one count_is same turns);
      kind = same.kind;
      reading = same.reading;
      state = turns.ok ∙ ap (λ (n : ℕ). committed_state session xid n core.engine.state) count_is;
      work = λ told.
          subst (λ (k : Kind). IsAtWork (record { kind = k; reading = reading; state = after; holds = holds }) (now disk₂)) (sym same.kind)
          (turns_work core.engine.kind core.engine.reading reading (Ok value) (committed_state session xid number core.engine.state) core.engine.state after holds disk disk₂ same.reading turns tt (subst IsTrue turns.cause.told told));
      durable = λ told. subst (λ (l : Binlog). IsDurable l (so_far past ++ of_changes xid changes ∷ []) disk₂) (sym acks.log) (durable past idle asks changes ready spelt count_is told);
      xids = acks.xids;
      acks = ack_is past count_is;
      noted = subst (λ (d : DictionaryState). HasCatalog d (catalog_after changes past.state.catalog)) (sym acks.dictionary) noted;
      lines = acks.lines;
      limit = acks.limit;
      halted = acks.halted ∙ ready.way.ahead.serves;
      count = ap flushed_of acks.log ∙ one.counts.0 ∙ ap (λ (n : ℕ). n + 1) ready.way.count;
      len = ap end_in acks.log ∙ one_len changes xid core bytes log disk past.state.len spelt one ready.way.len;
    }
