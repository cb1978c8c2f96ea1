-- How a line ends: with a refusal, a halt, or nothing done; and how a statement on its way goes on over a call of the engine.
use Rattle.std.proofs.Common.{◌≡◌, ℕ, List, [], ◌∷◌, ◌++◌, Option, Some, None, IsTrue, refl, sym, ◌∙◌, ap, subst, arith, append_assoc, length-append}
use Rattle.std.specs.Prelude.{Contains, option_to_list}
use Rattle.std.proofs.lemmas.List.{append-nil}
use Rattle.disk_model.specs.File.{File}
use Rattle.disk_model.specs.Disk.{Disk, now}
use Rattle.row_format.specs.declared.change.Transaction.{Transaction}
use Rattle.binlog_file.specs.declared.binlog.Binlog.{Binlog}
use Rattle.binlog_file.specs.Binlog.{IsLog}
use Rattle.log_tables.specs.declared.gist.Gist.{Gist}
use Rattle.engine_api.specs.Many.{IsAtWork}
use Rattle.engine_api.specs.Reads.{Reading}
use Rattle.volume_rules.proofs.SameLemmas.{same_back, volume_same}
use Rattle.plugd.specs.LogOne.{IsDurable}
use Rattle.plugd.proofs.AheadLemmas.{Called, core_of, stopped_called, log_called}
use Rattle.engine_api.specs.States.{EngineState}
use Rattle.plugd.specs.declared.reply.Reply.{Reply}
use Rattle.plugd.specs.declared.reply.Reply.TheVariants.{Done, Rows, Refused, Halted, BadLine}
use Rattle.plugd.specs.declared.reply.HaltCause.{HaltCause}
use Rattle.plugd.specs.Crash.{all_of}
use Rattle.plugd.specs.Noting.{HasCatalog}
use Rattle.plugd.specs.Play.{Rules, State, Turn, Plays, numbers_of, with_given, halted_at, fails}
use Rattle.plugd.specs.Serve.{Core, rules_of, shelf_of, IsCause, Secure, IsIdle, IsAtRest, Serving}
use Rattle.plugd.specs.Spell.{with_halt}
use Rattle.plugd.specs.Way.{Past, IsAhead, IsOnWay, HaltsBy, PlaysTo, EndsAt}
use Rattle.plugd.proofs.TextLemmas.{some_text}

-- one line more
pub plays_push : (rules : Rules) (before : State) (lines : List (List ℕ)) (replies : List Reply) (state : State) (line : List ℕ) (more : List Reply) (after : State)
    → Plays rules before lines replies state → Turn rules line state more after → Plays rules before (lines ++ line ∷ []) (replies ++ more) after
plays_push rules before [] replies state line more after is turn =
    (more, [], after, subst (λ (s : State). Turn rules line s more after) is.1 turn, (refl, refl), ap (λ (l : List Reply). l ++ more) is.0 ∙ sym (append-nil more))
plays_push rules before (x ∷ xs) replies state line more after is turn =
    (is.0, is.1 ++ more, is.2, is.3, plays_push rules is.2 xs is.1 state line more after is.4 turn, ap (λ (l : List Reply). l ++ more) is.5 ∙ append_assoc is.0 is.1 more)

pub numbers-append : (xs ys : List Reply) → numbers_of (xs ++ ys) ≡ numbers_of xs ++ numbers_of ys
numbers-append [] ys = refl
numbers-append (Done count number ∷ xs) ys = ap (λ (l : List ℕ). number ∷ l) (numbers-append xs ys)
numbers-append (Rows rows ∷ xs) ys = numbers-append xs ys
numbers-append (Refused refusal ∷ xs) ys = numbers-append xs ys
numbers-append (Halted cause ∷ xs) ys = numbers-append xs ys
numbers-append (BadLine line ∷ xs) ys = numbers-append xs ys

-- a reply that tells no number leaves the numbers
pub numbers_same : (replies more : List Reply) (numbers : List ℕ) → numbers_of more ≡ [] → numbers ≡ numbers_of replies → numbers ≡ numbers_of (replies ++ more)
numbers_same replies more numbers none is = is ∙ sym (append-nil (numbers_of replies)) ∙ ap (λ (l : List ℕ). numbers_of replies ++ l) (sym none) ∙ sym (numbers-append replies more)

some_same : {X : Type 0} {x y : X} → Some x ≡ Some y → x ≡ y
some_same e = cc

no_none : {X : Type 0} {x : X} → Some x ≡ None → ⊥
no_none e = cc

-- The line ends with a halt before anything was logged.
pub halted_now : (past : Past) (core : Core) (cause : HaltCause) (text : List ℕ) → HaltsBy past core cause
    → PlaysTo past text (Halted cause) (record { server = with_halt cause core.server; engine = core.engine; disk = core.disk })
halted_now past core cause text by line gives = record {
  state = after;
  fixed = record { kind = ahead.fixed.kind; limit = ahead.fixed.limit; small = ahead.fixed.small };
  line = omega (arith, ahead.line, length-append past.lines (line ∷ []));
  stopped = record {
    secure = record {
      told = secure.told;
      later = secure.later;
      no_fewer = secure.no_fewer;
      safe = secure.safe;
      sound = secure.sound;
      in_time = secure.in_time;
      opened = secure.opened;
    };
    plays = plays_push (rules_of past.base) past.base.first past.lines past.replies past.state line (Halted cause ∷ []) after ahead.stopped.plays
        (fails (some_text text line gives).0 (record { gives = (some_text text line gives).1; serves = ahead.is_serving }) cause refl refl);
    numbers = numbers_same past.replies (Halted cause ∷ []) _ refl ahead.stopped.numbers;
    cause = λ it some. subst (IsCause past.base core.engine.kind core.disk) (some_same some) by.is_cause;
    count = ahead.stopped.count;
    whole = λ told none. ahead.stopped.whole told ahead.met;
  };
  shows = record {
    line = ahead.counted;
    halted = refl;
    catalog = λ none. absurd (no_none none);
    count = λ none. absurd (no_none none);
    len = λ none. absurd (no_none none);
  };
  met = λ none. absurd (no_none none);
  sound = ahead.sound;
  idle = λ none. absurd (no_none none);
  rest = λ told none. absurd (no_none none);
}
  where
    ahead : IsAhead past core
    ahead = by.ahead

    after : State
    after = halted_at cause None past.state

    same : all_of past.base.found past.state ≡ all_of past.base.found after
    same = ap (λ (o : Option Transaction). past.base.found ++ (past.state.asked ++ option_to_list o)) ahead.met

    secure : Secure past.base (all_of past.base.found after) core
    secure = subst (λ (all : List Transaction). Secure past.base all core) same ahead.stopped.secure

-- Nothing more of the line is done for want of memory.
pub ends_now : (past : Past) (core : Core) → IsAhead past core → EndsAt past core
ends_now past core ahead = record { state = past.state; stopped = ahead.stopped; halted = ahead.serves ∙ sym ahead.is_serving }

-- The line ends with a refusal, and the engine is idle again; by then these xids were given.
pub refused_now : (past : Past) (was : EngineState) (given : List ℕ) (core : Core) (reply : Reply) (line : List ℕ) → IsOnWay past was given core → HasCatalog core.server.dictionary past.state.catalog → numbers_of (reply ∷ []) ≡ []
    → IsIdle core.engine.state past.state
    → ((xid : ℕ) → Contains past.state.given xid → Contains given xid)
    → (IsTrue past.base.start.told → IsAtRest past.base core core.engine.state.gist past.state given)
    → Turn (rules_of past.base) line past.state (reply ∷ []) (with_given given past.state)
    → Serving past.base (past.lines ++ line ∷ []) (past.replies ++ reply ∷ []) core
refused_now past was given core reply line way catalog none idle more rest turn = record {
  state = after;
  fixed = ahead.fixed;
  line = omega (arith, ahead.line, length-append past.lines (line ∷ []));
  stopped = record {
    secure = ahead.stopped.secure;
    plays = plays_push (rules_of past.base) past.base.first past.lines past.replies past.state line (reply ∷ []) after ahead.stopped.plays turn;
    numbers = numbers_same past.replies (reply ∷ []) _ none ahead.stopped.numbers;
    cause = ahead.stopped.cause;
    count = ahead.stopped.count;
    whole = ahead.stopped.whole;
  };
  shows = record {
    line = ahead.counted;
    halted = ahead.serves ∙ sym ahead.is_serving;
    catalog = λ none. catalog;
    count = λ none. way.count;
    len = λ none. way.len;
  };
  met = λ none. ahead.met;
  sound = ahead.sound;
  idle = λ none. record { pending = idle.pending; kept = idle.kept; none_prepared = idle.none_prepared; live = idle.live; last = idle.last };
  rest = λ told none. let r = rest told in record { durable = r.durable; knows = r.knows; asked_given = λ xid on. more xid (r.asked_given xid on); catalog = r.catalog; at_work = r.at_work; recovered = r.recovered };
}
  where
    ahead : IsAhead past core
    ahead = way.ahead

    after : State
    after = with_given given past.state

-- a durable log stays so where its file is as it was
pub durable_called : (log : Binlog) (list : List Transaction) (old new : Disk) → now new 0 ≡ now old 0 → IsDurable log list old → IsDurable log list new
durable_called log list old new same is = record { is_log = subst (IsLog log list) (sym same) is.is_log; durable = is.durable }

-- what a call of the engine is to the way: it leaves the log alone, and each of its gists goes with the log
pub on_way_called : (past : Past) (was : EngineState) (given : List ℕ) (core : Core) (a b : Gist) (reading : Reading) (after : EngineState) (holds : List File → Type 0) (disk : Disk)
    → IsOnWay past was given core → Called past.base (past.base.found ++ past.state.asked) core reading a b disk
    → (IsTrue core.disk.told → IsAtWork (record { kind = core.engine.kind; reading = reading; state = after; holds = holds }) (now disk))
    → IsOnWay past was given (core_of core.server core.engine.kind reading after holds disk)
on_way_called past was given core a b reading after holds disk way called work = record {
  ahead = record {
    fixed = record { kind = ahead.fixed.kind; limit = ahead.fixed.limit; small = ahead.fixed.small };
    line = ahead.line;
    counted = ahead.counted;
    stopped = stopped_called past.base past.lines past.replies past.state (past.base.found ++ past.state.asked) core a b core.server reading after holds disk refl called ahead.stopped;
    sound = ahead.sound;
    serves = ahead.serves;
    is_serving = ahead.is_serving;
    met = ahead.met;
  };
  count = way.count;
  len = way.len;
  was_idle = way.was_idle;
  rest = λ told.
      let r = way.rest told in
      let told₂ = subst IsTrue (sym ahead.stopped.secure.told) told in
      record {
        durable = durable_called core.server.log (past.base.found ++ past.state.asked) core.disk disk (log_called past.base (past.base.found ++ past.state.asked) core reading a b disk called told₂) r.durable;
        knows = r.knows;
        asked_given = r.asked_given;
        catalog = r.catalog;
        at_work = work told₂;
        recovered = λ could. r.recovered (volume_same (shelf_of core.engine) core.engine.kind reading core.engine.reading past.base.start (same_back core.engine.reading reading called.same) could);
      };
}
  where
    ahead : IsAhead past core
    ahead = way.ahead

-- a call that failed with the device: only what is safe is left
pub halts_called : (past : Past) (was : EngineState) (given : List ℕ) (core : Core) (a b : Gist) (reading : Reading) (after : EngineState) (holds : List File → Type 0) (disk : Disk) (cause : HaltCause)
    → IsOnWay past was given core → Called past.base (past.base.found ++ past.state.asked) core reading a b disk → IsCause past.base core.engine.kind disk cause
    → HaltsBy past (core_of core.server core.engine.kind reading after holds disk) cause
halts_called past was given core a b reading after holds disk cause way called is = record {
  ahead = record {
    fixed = record { kind = ahead.fixed.kind; limit = ahead.fixed.limit; small = ahead.fixed.small };
    line = ahead.line;
    counted = ahead.counted;
    stopped = stopped_called past.base past.lines past.replies past.state (past.base.found ++ past.state.asked) core a b core.server reading after holds disk refl called ahead.stopped;
    sound = ahead.sound;
    serves = ahead.serves;
    is_serving = ahead.is_serving;
    met = ahead.met;
  };
  is_cause = is;
}
  where
    ahead : IsAhead past core
    ahead = way.ahead
