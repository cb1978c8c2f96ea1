-- A statement gets its xid, and its transaction is spelt: the run stays what it is.
use Rattle.std.proofs.Common.{◌≡◌, ℕ, List, [], ◌∷◌, ◌++◌, map, IsTrue, refl, sym, ◌∙◌, ap, subst, append_assoc}
use Rattle.binlog_file.specs.Binlog.{flushed_of, end_in}
use Rattle.engine_api.specs.States.{EngineState}
use Rattle.plugd.specs.declared.ack.Ack.{Ack}
use Rattle.plugd.specs.declared.server.Server.{Server}
use Rattle.plugd.specs.declared.xids.XidSet.{XidSet}
use Rattle.plugd.specs.Crash.{all_of, Safe}
use Rattle.plugd.specs.LogOne.{IsDurable}
use Rattle.plugd.specs.Play.{IsNextGiven}
use Rattle.plugd.specs.Serve.{Core, Secure, rules_of}
use Rattle.plugd.specs.Spell.{IsSameBut}
use Rattle.plugd.specs.Way.{Past, IsAhead, IsOnWay}
use Rattle.plugd.specs.Xids.{xids_of, IsNextXid}
use Rattle.plugd.specs.XidSet.{Knows}
use Rattle.plugd.proofs.DoneLemmas.{so_far}

-- the core with another server
abbrev pub served_by : Server → Core → Core
served_by server core = record { server = server; engine = core.engine; disk = core.disk }

-- what of a server the run sees while a statement is on its way
pub record IsLike (old new : Server) : Type 0 where
  pub lines : new.lines ≡ old.lines
  pub halted : new.halted ≡ old.halted
  pub limit : new.limit ≡ old.limit
  pub acks : new.acks.items ≡ old.acks.items

-- the run is ahead with it too
pub ahead_like : (past : Past) (core : Core) (server : Server) → IsLike core.server server → IsAhead past core → IsAhead past (served_by server core)
ahead_like past core server like is = record {
  fixed = record { kind = is.fixed.kind; limit = like.limit ∙ is.fixed.limit; small = is.fixed.small };
  line = is.line;
  counted = like.lines ∙ is.counted;
  stopped = record {
    secure = record {
      told = s.told;
      later = s.later;
      no_fewer = s.no_fewer;
      safe = λ told. subst (λ (l : List Ack). Safe core.engine.kind past.base.start past.base.found (all_of past.base.found past.state) l core.disk) (sym like.acks) (s.safe told);
      sound = s.sound;
      in_time = s.in_time;
      opened = s.opened;
    };
    plays = is.stopped.plays;
    numbers = ap (map (λ (ack : Ack). ack.number)) like.acks ∙ is.stopped.numbers;
    cause = is.stopped.cause;
    count = is.stopped.count;
    whole = is.stopped.whole;
  };
  sound = is.sound;
  serves = like.halted ∙ is.serves;
  is_serving = is.is_serving;
  met = is.met;
}
  where
    s : Secure past.base (all_of past.base.found past.state) core
    s = is.stopped.secure

-- the statement is on its way with it too, and these xids were given by now
pub way_like : (past : Past) (idle : EngineState) (given now_given : List ℕ) (core : Core) (server : Server) → IsLike core.server server → server.log ≡ core.server.log
    → (IsTrue past.base.start.told → Knows server.xids (xids_of past.base.found ++ now_given))
    → IsOnWay past idle given core → IsOnWay past idle now_given (served_by server core)
way_like past idle given now_given core server like log knows is = record {
  ahead = ahead_like past core server like is.ahead;
  count = ap flushed_of log ∙ is.count;
  len = ap end_in log ∙ is.len;
  was_idle = is.was_idle;
  rest = λ told.
      let r = is.rest told in
      record {
        durable = subst (λ l. IsDurable l (so_far past) core.disk) (sym log) r.durable;
        knows = knows told;
        asked_given = r.asked_given;
        catalog = r.catalog;
        at_work = r.at_work;
        recovered = r.recovered;
      };
}

-- the server with other xids
abbrev pub with_xids : XidSet → Server → Server
with_xids xids old = record { alloc = old.alloc; log = old.log; xids = xids; dictionary = old.dictionary; acks = old.acks; spelling = old.spelling; lines = old.lines; limit = old.limit; halted = old.halted }

-- it is like the one before
pub like_given : (xids : XidSet) (old : Server) → IsLike old (with_xids xids old)
like_given xids old = record { lines = refl; halted = refl; limit = refl; acks = refl }

-- so it is behind a spelling
pub like_spelt : (old new : Server) → IsSameBut old new → IsLike old new
like_spelt old new same = record { lines = same.lines; halted = same.halted; limit = same.limit; acks = same.acks }

-- what the set of xids gave
abbrev pub Gave : XidSet → XidSet → ℕ → Type 0
Gave old new xid = (used : List ℕ) → Knows old used → IsNextXid used xid × Knows new (used ++ xid ∷ [])

-- the xid is the next one
pub given_next : (past : Past) (idle : EngineState) (core : Core) (xids : XidSet) (xid : ℕ) → IsOnWay past idle past.state.given core → Gave core.server.xids xids xid → IsNextGiven (rules_of past.base) past.state xid
given_next past idle core xids xid way gave = λ told. (gave (xids_of past.base.found ++ past.state.given) (way.rest told).knows).0

-- and the statement goes on with it
pub given_way : (past : Past) (idle : EngineState) (core : Core) (xids : XidSet) (xid : ℕ) → IsOnWay past idle past.state.given core → Gave core.server.xids xids xid
    → IsOnWay past idle (past.state.given ++ xid ∷ []) (served_by (with_xids xids core.server) core)
given_way past idle core xids xid way gave =
    way_like past idle past.state.given (past.state.given ++ xid ∷ []) core (with_xids xids core.server) (like_given xids core.server) refl
    (λ told.
    subst (Knows xids) (append_assoc (xids_of past.base.found) past.state.given (xid ∷ [])) (gave (xids_of past.base.found ++ past.state.given) (way.rest told).knows).1)
    way

-- it goes on behind its spelling too
pub spelt_way : (past : Past) (idle : EngineState) (given : List ℕ) (core : Core) (server : Server) → IsSameBut core.server server → IsOnWay past idle given core → IsOnWay past idle given (served_by server core)
spelt_way past idle given core server same way =
    way_like past idle given given core server (like_spelt core.server server same) same.log
    (λ told. subst (λ (set : XidSet). Knows set (xids_of past.base.found ++ given)) (sym same.xids) (way.rest told).knows)
    way
