-- A line is answered.
use Rattle.std.proofs.Common.{◌≡◌, ℕ, ◌+◌, ◌<◌, List, [], ◌∷◌, ◌++◌, length, take, Some, None, Result, Ok, Err, OnErr, IfOk, refl, sym, ◌∙◌, ap, subst, arith, length-append}
use Rattle.std.specs.Prelude.{IsErr}
use Rattle.std.specs.declared.alloc.AllocError.{AllocError}
use Rattle.plugd.specs.declared.reply.HaltCause.{HaltCause}
use Rattle.plugd.specs.declared.reply.Reply.{Reply}
use Rattle.plugd.specs.declared.reply.Reply.TheVariants.{Halted, BadLine}
use Rattle.plugd.specs.declared.server.Server.{Server}
use Rattle.plugd.specs.Texts.{Gives, IsUnknown}
use Rattle.plugd.specs.Play.{Turn, next_line, settles, bad, halts, numbers_of}
use Rattle.plugd.specs.Serve.{Base, Core, rules_of, Serving, Halts}
use Rattle.plugd.specs.Way.{IsOnWay, IsBegun, SomeOnWay, PlaysOne}
use Rattle.schedule_text.specs.Lines.{settle, IsLine}
use Rattle.plugd.proofs.TextLemmas.{settles_line, given_line, unknown_line, some_text}
use Rattle.plugd.proofs.WayLemmas.{plays_push, numbers_same}
use Rattle.plugd.proofs.GivenLemmas.{served_by}

-- the server, behind one line more
abbrev pub counted : Server → Server
counted old = record { alloc = old.alloc; log = old.log; xids = old.xids; dictionary = old.dictionary; acks = old.acks; spelling = old.spelling; lines = old.lines + 1; limit = old.limit; halted = old.halted }

-- a line that does nothing
next_now : (base : Base) (lines : List (List ℕ)) (replies : List Reply) (core : Core) (line : List ℕ) (more : List Reply) → (s : Serving base lines replies core)
    → Turn (rules_of base) line s.state more (next_line s.state) → numbers_of more ≡ [] → Serving base (lines ++ line ∷ []) (replies ++ more) (served_by (counted core.server) core)
next_now base lines replies core line more s turn none = record {
  state = next_line s.state;
  fixed = record { kind = s.fixed.kind; limit = s.fixed.limit; small = s.fixed.small };
  line = let before = s.line in omega (arith, before, length-append lines (line ∷ []));
  stopped = record {
    secure = let x = s.stopped.secure in record { told = x.told; later = x.later; no_fewer = x.no_fewer; safe = x.safe; sound = x.sound; in_time = x.in_time; opened = x.opened };
    plays = plays_push (rules_of base) base.first lines replies s.state line more (next_line s.state) s.stopped.plays turn;
    numbers = numbers_same replies more _ none s.stopped.numbers;
    cause = s.stopped.cause;
    count = s.stopped.count;
    whole = s.stopped.whole;
  };
  shows = record {
    line = ap (λ (n : ℕ). n + 1) s.shows.line;
    halted = s.shows.halted;
    catalog = s.shows.catalog;
    count = s.shows.count;
    len = s.shows.len;
  };
  met = s.met;
  sound = s.sound;
  idle = λ serves. let i = s.idle serves in record { pending = i.pending; kept = i.kept; none_prepared = i.none_prepared; live = i.live; last = i.last };
  rest = λ told serves. let r = s.rest told serves in record { durable = r.durable; knows = r.knows; asked_given = r.asked_given; catalog = r.catalog; at_work = r.at_work; recovered = r.recovered };
}

-- `settle`
pub settled_now : (base : Base) (lines : List (List ℕ)) (replies : List Reply) (core : Core) (front line : List ℕ) → IsLine front settle → front ≡ take 65542 line → Serving base lines replies core
    → Serving base (lines ++ line ∷ []) (replies ++ []) (served_by (counted core.server) core)
settled_now base lines replies core front line is part s = next_now base lines replies core line [] s (settles (settles_line front line part is) refl refl) refl

-- a line that is not known
pub bad_now : (base : Base) (lines : List (List ℕ)) (replies : List Reply) (core : Core) (front line : List ℕ) → IsUnknown front → front ≡ take 65542 line → Serving base lines replies core
    → Serving base (lines ++ line ∷ []) (replies ++ BadLine (core.server.lines + 1) ∷ []) (served_by (counted core.server) core)
bad_now base lines replies core front line is part s =
    next_now base lines replies core line (BadLine (core.server.lines + 1) ∷ []) s
    (bad (unknown_line front line part is) (ap (λ (n : ℕ). BadLine (n + 1) ∷ []) s.shows.line) refl) refl

-- a statement after a halt
pub still_halted : (base : Base) (lines : List (List ℕ)) (replies : List Reply) (core : Core) (front line text : List ℕ) (cause : HaltCause) → Gives front text → core.server.halted ≡ Some cause
    → front ≡ take 65542 line → Serving base lines replies core → Serving base (lines ++ line ∷ []) (replies ++ Halted cause ∷ []) (served_by (counted core.server) core)
still_halted base lines replies core front line text cause is halted part s =
    let it = some_text text line (given_line front line text part is) in
    next_now base lines replies core line (Halted cause ∷ []) s (halts it.0 it.1 cause (sym s.shows.halted ∙ halted) refl refl) refl

-- a statement is on its way
on_way : (base : Base) (lines : List (List ℕ)) (replies : List Reply) (core : Core) → (s : Serving base lines replies core) → core.server.halted ≡ None
    → IsOnWay (record { base = base; lines = lines; replies = replies; state = s.state }) core.engine.state s.state.given (served_by (counted core.server) core)
on_way base lines replies core s serves = record {
  ahead = record {
    fixed = record { kind = s.fixed.kind; limit = s.fixed.limit; small = s.fixed.small };
    line = s.line;
    counted = ap (λ (n : ℕ). n + 1) s.shows.line;
    stopped = record {
      secure = let x = s.stopped.secure in record { told = x.told; later = x.later; no_fewer = x.no_fewer; safe = x.safe; sound = x.sound; in_time = x.in_time; opened = x.opened };
      plays = s.stopped.plays;
      numbers = s.stopped.numbers;
      cause = s.stopped.cause;
      count = s.stopped.count;
      whole = s.stopped.whole;
    };
    sound = s.sound;
    serves = serves;
    is_serving = is;
    met = s.met is;
  };
  count = s.shows.count is;
  len = s.shows.len is;
  was_idle = s.idle is;
  rest = λ told. let r = s.rest told is in record { durable = r.durable; knows = r.knows; asked_given = r.asked_given; catalog = r.catalog; at_work = r.at_work; recovered = r.recovered };
}
  where
    is : s.state.halted ≡ None
    is = sym s.shows.halted ∙ serves

-- and nothing of it was done
begun : (base : Base) (lines : List (List ℕ)) (replies : List Reply) (core : Core) → (s : Serving base lines replies core) → core.server.halted ≡ None
    → IsBegun (record { base = base; lines = lines; replies = replies; state = s.state }) (served_by (counted core.server) core)
begun base lines replies core s serves = record { way = on_way base lines replies core s serves; catalog = s.shows.catalog (sym s.shows.halted ∙ serves) }

pub some_on_way : (base : Base) (lines : List (List ℕ)) (replies : List Reply) (core : Core) → Serving base lines replies core → core.server.halted ≡ None → SomeOnWay (served_by (counted core.server) core)
some_on_way base lines replies core s serves = (record { base = base; lines = lines; replies = replies; state = s.state }, begun base lines replies core s serves)

-- the count of lines has room
pub few_lines : (base : Base) (lines : List (List ℕ)) (replies : List Reply) (core : Core) → Serving base lines replies core → length lines < 4294967296 → core.server.lines < 4294967296
few_lines base lines replies core s few = let shown = s.shows.line in let line = s.line in omega (arith, shown, line, few)

-- it is played to its reply
pub played_now : (base : Base) (lines : List (List ℕ)) (replies : List Reply) (core new : Core) (front line text : List ℕ) (reply : Reply) → Gives front text → core.server.halted ≡ None
    → PlaysOne text (served_by (counted core.server) core) new (Ok reply) → front ≡ take 65542 line → Serving base lines replies core → Serving base (lines ++ line ∷ []) (replies ++ reply ∷ []) new
played_now base lines replies core new front line text reply is serves plays part s =
    plays.ok (record { base = base; lines = lines; replies = replies; state = s.state }) (begun base lines replies core s serves) reply refl line (given_line front line text part is)

-- it is not, for want of memory
pub unplayed_now : (base : Base) (lines : List (List ℕ)) (replies : List Reply) (core new : Core) (text : List ℕ) (e : AllocError) → core.server.halted ≡ None → PlaysOne text (served_by (counted core.server) core) new (Err e)
    → Serving base lines replies core → Halts base lines replies new
unplayed_now base lines replies core new text e serves plays s = plays.err (record { base = base; lines = lines; replies = replies; state = s.state }) (begun base lines replies core s serves)

-- nor was the line read
pub unread_now : (base : Base) (lines : List (List ℕ)) (replies : List Reply) (core : Core) → Serving base lines replies core → Halts base lines replies core
unread_now base lines replies core s = record { state = s.state; stopped = s.stopped; halted = s.shows.halted }

-- of a want of memory nothing is asked as of an answer
pub if_err : {T : Type 0} (P : T → Type 0) (r : Result T AllocError) → IsErr r → IfOk r P
if_err P (Ok value) is = cc
if_err P (Err e) is = tt

-- and what is asked of it holds
pub on_err : {T P : Type 0} (r : Result T AllocError) → P → OnErr r P
on_err (Ok value) is = tt
on_err (Err e) is = is
