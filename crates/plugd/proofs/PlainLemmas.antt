-- An INSTALL, which no engine prepares, is logged and acknowledged, or a fault halts the run at it.
use Rattle.std.proofs.Common.{◌≡◌, ⊎_elim, ℕ, ◌+◌, ◌<◌, ◌≤◌, List, [], ◌∷◌, ◌++◌, length, map, Some, None, Result, Ok, Err, IsTrue, refl, sym, ◌∙◌, ap, subst, arith, length-append}
use Rattle.std.specs.Prelude.{Contains}
use Rattle.std.proofs.lemmas.List.{append-nil, map-append}
use Rattle.std.proofs.lemmas.List.Elements.{Contains-append_left, Contains-append_right, Contains-append_cases}
use Rattle.disk_model.specs.declared.storage.Failed.{Failed}
use Rattle.disk_model.specs.Disk.{Disk, now, contents}
use Rattle.sql_value.specs.declared.refusal.Refusal.TheVariants.{LogSpent}
use Rattle.row_format.specs.declared.change.Change.{Change}
use Rattle.row_format.specs.declared.change.Change.TheVariants as change
use Rattle.row_format.specs.declared.change.Transaction.{Transaction}
use Rattle.log_tables.specs.declared.gist.Gist.{Gist}
use Rattle.log_tables.specs.Changes.{EachApplies, after_changes, tables_after}
use Rattle.binlog_file.specs.declared.binlog.Binlog.{Binlog}
use Rattle.binlog_file.specs.Logged.{IsLogged}
use Rattle.binlog_file.specs.Binlog.{flushed_of, end_in}
use Rattle.dictionary.specs.Dictionary.{DictionaryState}
use Rattle.engine_api.specs.Live.{allows}
use Rattle.engine_api.specs.States.{EngineState}
use Rattle.engine_api.specs.Many.{IsAtWork}
use Rattle.engine_api.specs.Reads.{EachReads}
use Rattle.recovery_rules.specs.Places.{part_at}
use Rattle.recovery_rules.specs.Recovery.{ShelfEngine, Suits, IsRecovered}
use Rattle.volume_rules.proofs.ListLemmas.{of_one}
use Rattle.volume_rules.proofs.StepLemmas.{alone, untouched_is}
use Rattle.plugd.specs.declared.ack.Ack.{Ack}
use Rattle.plugd.specs.declared.reply.Reply.{Reply}
use Rattle.plugd.specs.declared.reply.Reply.TheVariants.{Done, Refused, Halted}
use Rattle.plugd.specs.declared.reply.HaltCause.TheVariants.{Device}
use Rattle.plugd.specs.declared.server.Server.{Server}
use Rattle.sql_step.specs.declared.outcome.Outcome.TheVariants.{Noted}
use Rattle.plugd.specs.Asked.{Work, catalog_after, count_of}
use Rattle.plugd.specs.LogOne.{IsDurable}
use Rattle.plugd.specs.Play.{State, logged, logged_size, IsNextGiven, logs, spent}
use Rattle.plugd.specs.Noting.{HasCatalog}
use Rattle.plugd.specs.Serve.{Core, rules_of, reader_of, shelf_of, CouldRecover, Secure, IsIdle, IsAtRest, IsCatalogOf}
use Rattle.plugd.specs.Spell.{with_halt, Acknowledges}
use Rattle.plugd.specs.Way.{Past, IsAhead, IsOnWay, IsGranted, IsSpelt, IsNoted, PlaysTo}
use Rattle.plugd.specs.declared.xids.XidSet.{XidSet}
use Rattle.plugd.specs.XidSet.{Knows}
use Rattle.plugd.specs.Xids.{xids_of}
use Rattle.plugd.proofs.AskedLemmas.{catalog_goes, noted_one}
use Rattle.plugd.proofs.SoundLemmas.{sound_goes}
use Rattle.plugd.proofs.TextLemmas.{given_comes}
use Rattle.plugd.proofs.LogLemmas.{Logs, secure_acknowledged, durable_holds}
use Rattle.plugd.proofs.WayLemmas.{plays_push, numbers-append, refused_now}
use Rattle.plugd.proofs.CallsLemmas.{new_xid}
use Rattle.plugd.proofs.DoneLemmas.{so_far}
use Rattle.plugd.proofs.SpellLemmas.{of_changes}
use Rattle.plugd.proofs.EndLemmas.{rest_logged, more_of, asked_by, halted_at_it}
use Rattle.plugd.proofs.FinishLemmas.{LogsOne, logged_core, with_log, logged_on, logged_files, one_moments, one_durable, one_len, secure_one, rose_since}

-- what no engine has of a text
abbrev pub noted_as : List ℕ → List Change → Work
noted_as text changes = record { text = text; outcome = Noted changes }

-- An INSTALL has its xid, and the engine is idle.
pub record IsPlain (past : Past) (idle : EngineState) (text : List ℕ) (changes : List Change) (xid : ℕ) (core : Core) : Type 0 where
  pub way : IsOnWay past idle (past.state.given ++ xid ∷ []) core
  pub granted : IsGranted past (noted_as text changes) changes
  pub next : IsNextGiven (rules_of past.base) past.state xid
  pub state : core.engine.state ≡ idle

-- the engine is at the log that has it
plain_recovered : (past : Past) (idle : EngineState) (text : List ℕ) (changes : List Change) (xid : ℕ) (core : Core) → IsPlain past idle text changes xid core → IsTrue past.base.start.told → CouldRecover past.base core.engine
    → IsRecovered (shelf_of core.engine) (so_far past ++ of_changes xid changes ∷ []) (alone (reader_of core.engine) idle.gist)
plain_recovered past idle text changes xid core is told could =
    untouched_is (shelf_of core.engine) (so_far past) (reader_of core.engine) idle.gist (of_changes xid changes) (r.recovered could)
    (new_xid past.base.found past.state.asked past.state.given xid r.asked_given (is.next told))
    (subst (λ (l : List Change). part_at core.engine.kind.name (so_far past) (length (so_far past)) (of_changes xid l) ≡ []) (sym all) refl)
    (subst (λ (l : List Change). EachApplies core.engine.kind.name l (tables_after (so_far past))) (sym all) ((λ on. cc), tt))
    (of_one (λ (x : ShelfEngine). Suits x.engine x.allows changes) (record { engine = core.engine.kind.name; allows = allows core.engine.kind.flags })
    (is.granted.can.suits core.engine.kind is.way.ahead.fixed.kind))
  where
    r : IsAtRest past.base core idle.gist past.state (past.state.given ++ xid ∷ [])
    r = is.way.rest told

    one : (name : List ℕ) × (changes ≡ change.Install name ∷ [])
    one = noted_one text past.state.catalog changes is.granted.makes.comes

    all : changes ≡ change.Install one.0 ∷ []
    all = one.1

-- What the write and the sync of it did.
plain_logs : (past : Past) (idle : EngineState) (text : List ℕ) (changes : List Change) (xid : ℕ) (core : Core) (bytes : List ℕ) (result : Result Unit Failed) (log : Binlog) (disk : Disk)
    → IsPlain past idle text changes xid core → IsSpelt core changes xid → LogsOne core bytes result log disk → Logs past.base (so_far past) (of_changes xid changes) core idle.gist disk
plain_logs past idle text changes xid core bytes result log disk is spelt one = record {
  on = logged_on core bytes result log disk one;
  apart = is.way.ahead.fixed.kind.apart;
  front = (past.state.asked, refl);
  moments = λ told. one_moments past idle (past.state.given ++ xid ∷ []) changes xid core bytes result log disk is.way spelt one told;
  reads = λ told.
      subst (λ (l : List Gist). EachReads core.engine.reading l (map (now core.disk) core.engine.kind.files)) (ap (λ (s : EngineState). s.kept) is.state ∙ is.way.was_idle.kept)
      (is.way.rest (subst IsTrue is.way.ahead.stopped.secure.told told)).at_work.reads;
  goes = λ told could.
      let first = subst IsTrue is.way.ahead.stopped.secure.told told in
      (((is.way.rest first).recovered could).recoverable, (plain_recovered past idle text changes xid core is first could).recoverable);
}

-- the write or the sync failed
pub plain_failed : (past : Past) (idle : EngineState) (text : List ℕ) (changes : List Change) (xid : ℕ) (core : Core) (bytes : List ℕ) (e : Failed) (log : Binlog) (disk : Disk) (server : Server) (reply : Reply)
    → IsPlain past idle text changes xid core → IsSpelt core changes xid → past.state.len + logged_size changes ≤ past.base.limit → LogsOne core bytes (Err e) log disk
    → server ≡ with_halt Device (with_log log core.server) → reply ≡ Halted Device → PlaysTo past text reply (record { server = server; engine = core.engine; disk = disk })
plain_failed past idle text changes xid core bytes e log disk server reply is spelt room one server_is reply_is =
    subst (λ (r : Reply). PlaysTo past text r (record { server = server; engine = core.engine; disk = disk })) (sym reply_is)
    (subst (λ (s : Server). PlaysTo past text (Halted Device) (record { server = s; engine = core.engine; disk = disk })) (sym server_is)
    (halted_at_it past (noted_as text changes) changes xid core (logged_core log disk core) Device is.way.ahead is.granted is.next room refl refl refl refl
    (secure_one past (of_changes xid changes) core idle.gist log disk is.way.ahead (plain_logs past idle text changes xid core bytes (Err e) log disk is spelt one))
    (rose_since past core disk is.way.ahead (one.device.cause refl))))

-- the log would pass its limit with it
pub plain_spent : (past : Past) (idle : EngineState) (text : List ℕ) (changes : List Change) (xid : ℕ) (core : Core) → IsPlain past idle text changes xid core → HasCatalog core.server.dictionary past.state.catalog → past.base.limit < past.state.len + logged_size changes → PlaysTo past text (Refused LogSpent) core
plain_spent past idle text changes xid core is catalog more line gives =
    let i = is.way.was_idle in
    refused_now past idle (past.state.given ++ xid ∷ []) core (Refused LogSpent) line is.way catalog refl
    (subst (λ (s : EngineState). IsIdle s past.state) (sym is.state) i)
    (λ x on. Contains-append_left past.state.given (xid ∷ []) x on)
    (λ told. subst (λ (g : Gist). IsAtRest past.base core g past.state (past.state.given ++ xid ∷ [])) (sym (ap (λ (s : EngineState). s.gist) is.state)) (is.way.rest told))
    (spent (noted_as text changes) (record { gives = given_comes text line past.state.catalog (Noted changes) gives is.granted.makes.comes; serves = is.way.ahead.is_serving }) changes is.granted.makes xid is.next more refl refl)

-- What stands behind the acknowledgement.
record IsPlainDone (past : Past) (idle : EngineState) (text : List ℕ) (changes : List Change) (xid : ℕ) (was core : Core) : Type 0 where
  pub plain : IsPlain past idle text changes xid was
  pub room : past.state.len + logged_size changes ≤ past.base.limit
  pub secure : Secure past.base (so_far past ++ of_changes xid changes ∷ []) core
  pub durable : IsTrue core.disk.told → IsDurable core.server.log (so_far past ++ of_changes xid changes ∷ []) core.disk
  pub work : IsTrue core.disk.told → IsAtWork was.engine (now core.disk)
  pub acks : core.server.acks.items ≡ was.server.acks.items ++ (record { number = past.state.count + 1; call = core.disk.calls }) ∷ []
  pub noted : IsNoted past core changes
  pub xids : core.server.xids ≡ was.server.xids
  pub lines : core.server.lines ≡ was.server.lines
  pub limit : core.server.limit ≡ was.server.limit
  pub halted : core.server.halted ≡ was.server.halted
  pub count : flushed_of core.server.log ≡ past.state.count + 1
  pub len : end_in core.server.log ≡ past.state.len + logged_size changes

no_none : {X : Type 0} {x : X} → Some x ≡ None → ⊥
no_none e = cc

-- The line ends with its acknowledgement.
plain_now : (past : Past) (idle : EngineState) (text : List ℕ) (changes : List Change) (xid : ℕ) (was : Core) (server : Server) (disk : Disk) → IsPlainDone past idle text changes xid was (record { server = server; engine = was.engine; disk = disk })
    → PlaysTo past text (Done 0 (past.state.count + 1)) (record { server = server; engine = was.engine; disk = disk })
plain_now past idle text changes xid was server disk d line gives = record {
  state = after;
  fixed = record { kind = ahead.fixed.kind; limit = d.limit ∙ ahead.fixed.limit; small = ahead.fixed.small };
  line = omega (arith, ahead.line, length-append past.lines (line ∷ []));
  stopped = record {
    secure = subst (λ (all : List Transaction). Secure past.base all core) (joined ∙ ap (λ (l : List Transaction). past.base.found ++ l) (sym (append-nil (past.state.asked ++ t ∷ [])))) d.secure;
    plays = plays_push (rules_of past.base) past.base.first past.lines past.replies past.state line (reply ∷ []) after ahead.stopped.plays
        (logs (noted_as text changes) (record { gives = given_comes text line past.state.catalog (Noted changes) gives d.plain.granted.makes.comes; serves = ahead.is_serving }) t (asked_by past (noted_as text changes) changes xid d.plain.granted d.plain.next) d.room refl refl);
    numbers = ap (map (λ (a : Ack). a.number)) d.acks ∙ map-append (λ (a : Ack). a.number) was.server.acks.items (ack ∷ []) ∙ ap (λ (l : List ℕ). l ++ (past.state.count + 1) ∷ []) ahead.stopped.numbers
        ∙ sym (numbers-append past.replies (reply ∷ []));
    cause = λ c some. absurd (no_none (sym some));
    count = λ told. let before = ahead.stopped.count told in omega (arith, before, length-append past.state.asked (t ∷ []));
    whole = λ told none. subst (IsLogged (contents disk 0)) joined (rest_logged server.log (so_far past ++ t ∷ []) (now disk 0) (d.durable (told_now told)).is_log);
  };
  shows = record {
    line = d.lines ∙ ahead.counted;
    halted = d.halted ∙ ahead.serves;
    catalog = λ none. d.noted;
    count = λ none. d.count;
    len = λ none. d.len;
  };
  met = λ none. refl;
  sound = sound_goes changes past.state.catalog.definitions d.plain.granted.fit ahead.sound;
  idle = λ none.
      let i = d.plain.way.was_idle in
      subst (λ (s : EngineState). IsIdle s after) (sym d.plain.state) (record {
        pending = i.pending;
        kept = i.kept;
        none_prepared = i.none_prepared;
        live = i.live ∙ ap (λ (cs : List Change). after_changes cs past.state.catalog.live) (sym (noted_one text past.state.catalog changes d.plain.granted.makes.comes).1);
        last = let low = i.last in omega (arith, low);
      });
  rest = λ told none. rest_now told;
}
  where
    core : Core
    core = record { server = server; engine = was.engine; disk = disk }

    t : Transaction
    t = of_changes xid changes

    ahead : IsAhead past was
    ahead = d.plain.way.ahead

    after : State
    after = logged t past.state

    reply : Reply
    reply = Done 0 (past.state.count + 1)

    ack : Ack
    ack = record { number = past.state.count + 1; call = disk.calls }

    joined : so_far past ++ t ∷ [] ≡ past.base.found ++ (past.state.asked ++ t ∷ [])
    joined = more_of past.base.found past.state.asked t

    told_now : IsTrue past.base.start.told → IsTrue disk.told
    told_now told = subst IsTrue (sym d.secure.told) told

    rest_now : IsTrue past.base.start.told → IsAtRest past.base core core.engine.state.gist after after.given
    rest_now told =
        let r = d.plain.way.rest told in
        record {
          durable = subst (λ (l : List Transaction). IsDurable server.log l disk) joined (d.durable (told_now told));
          knows = subst (λ (set : XidSet). Knows set (xids_of past.base.found ++ (past.state.given ++ xid ∷ []))) (sym d.xids) r.knows;
          asked_given = λ x on. ⊎_elim (λ old. Contains-append_left past.state.given (xid ∷ []) x (r.asked_given x old)) (λ new. Contains-append_right past.state.given (xid ∷ []) x new)
              (Contains-append_cases (xids_of past.state.asked) (xid ∷ []) x (subst (λ (l : List ℕ). Contains l x) (map-append (λ (u : Transaction). u.xid) past.state.asked (t ∷ [])) on));
          catalog = subst (λ (l : List Transaction). IsCatalogOf l (catalog_after changes past.state.catalog)) joined (catalog_goes (so_far past) t past.state.catalog r.catalog);
          at_work = d.work (told_now told);
          recovered = λ could.
              subst (λ (g : Gist). IsRecovered (shelf_of was.engine) (past.base.found ++ (past.state.asked ++ t ∷ [])) (alone (reader_of was.engine) g)) (sym (ap (λ (s : EngineState). s.gist) d.plain.state))
              (subst (λ (l : List Transaction). IsRecovered (shelf_of was.engine) l (alone (reader_of was.engine) idle.gist)) joined (plain_recovered past idle text changes xid was d.plain told could));
        }

-- it is acknowledged
pub plain_done : (past : Past) (idle : EngineState) (text : List ℕ) (changes : List Change) (xid number call : ℕ) (core : Core) (bytes : List ℕ) (log : Binlog) (disk : Disk) (server : Server) (reply : Reply)
    → IsPlain past idle text changes xid core → IsSpelt core changes xid → IsNoted past core changes → past.state.len + logged_size changes ≤ past.base.limit → LogsOne core bytes (Ok tt) log disk → number ≡ flushed_of log
    → call ≡ disk.calls → Acknowledges number call (with_log log core.server) server → reply ≡ Done 0 number
    → PlaysTo past text reply (record { server = server; engine = core.engine; disk = disk })
plain_done past idle text changes xid number call core bytes log disk server reply is spelt noted room one number_is call_is acks reply_is =
    subst (λ (r : Reply). PlaysTo past text r (record { server = server; engine = core.engine; disk = disk })) (sym (reply_is ∙ ap (λ (n : ℕ). Done 0 n) count_is))
    (plain_now past idle text changes xid core server disk (record {
      plain = is;
      room = room;
      secure = secure_acknowledged past.base all (logged_core log disk core) server (record { number = past.state.count + 1; call = disk.calls }) ack_is
          (λ told. let here = durable told in (here.is_log.bytes, durable_holds log all disk here))
          (λ told.
          let first = subst IsTrue is.way.ahead.stopped.secure.told (subst IsTrue one.device.told told) in
          let count = is.way.ahead.stopped.count first in
          omega (arith, count, length-append past.base.found past.state.asked, length-append (so_far past) (of_changes xid changes ∷ [])))
          refl (secure_one past (of_changes xid changes) core idle.gist log disk is.way.ahead was_logged);
      durable = λ told. subst (λ (l : Binlog). IsDurable l all disk) (sym acks.log) (durable told);
      work = λ told.
          let told₁ = subst IsTrue one.device.told told in
          let w = (is.way.rest (subst IsTrue is.way.ahead.stopped.secure.told told₁)).at_work in
          let same = sym (logged_files past core (of_changes xid changes) idle.gist disk was_logged told₁) in
          record { holds = subst core.engine.holds same w.holds; reads = subst (EachReads core.engine.reading core.engine.state.kept) same w.reads };
      acks = ack_is;
      noted = subst (λ (d : DictionaryState). HasCatalog d (catalog_after changes past.state.catalog)) (sym acks.dictionary) noted;
      xids = acks.xids;
      lines = acks.lines;
      limit = acks.limit;
      halted = acks.halted;
      count = ap flushed_of acks.log ∙ one.counts.0 ∙ ap (λ (n : ℕ). n + 1) is.way.count;
      len = ap end_in acks.log ∙ one_len changes xid core bytes log disk past.state.len spelt one is.way.len;
    }))
  where
    all : List Transaction
    all = so_far past ++ of_changes xid changes ∷ []

    was_logged : Logs past.base (so_far past) (of_changes xid changes) core idle.gist disk
    was_logged = plain_logs past idle text changes xid core bytes (Ok tt) log disk is spelt one

    count_is : number ≡ past.state.count + 1
    count_is = number_is ∙ one.counts.0 ∙ ap (λ (n : ℕ). n + 1) is.way.count

    durable : IsTrue disk.told → IsDurable log all disk
    durable told = one_durable past idle (past.state.given ++ xid ∷ []) changes xid core bytes log disk is.way spelt one (subst IsTrue one.device.told told)

    ack_is : server.acks.items ≡ core.server.acks.items ++ (record { number = past.state.count + 1; call = disk.calls }) ∷ []
    ack_is =
        acks.acks ∙ ap (λ (n : ℕ). core.server.acks.items ++ (record { number = n; call = call }) ∷ []) count_is
        ∙ ap (λ (n : ℕ). core.server.acks.items ++ (record { number = past.state.count + 1; call = n }) ∷ []) call_is
