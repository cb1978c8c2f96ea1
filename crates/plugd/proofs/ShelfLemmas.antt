-- What a run leaves, told by the engine as it was handed in.
use Rattle.std.proofs.Common.{◌≡◌, ℕ, List, Option, subst}
use Rattle.std.specs.declared.alloc.Global.{Global}
use Rattle.std.specs.declared.string.String.{String}
use Rattle.disk_model.specs.File.{File}
use Rattle.disk_model.specs.Disk.{Disk}
use Rattle.disk_model.proofs.Moments.{weaker}
use Rattle.row_format.specs.declared.change.Transaction.{Transaction}
use Rattle.engine_api.specs.States.{Kind, EngineState}
use Rattle.engine_api.specs.Many.{Working}
use Rattle.engine_api.specs.Reads.{Reading, SameReading}
use Rattle.engine_api.specs.Calls.{IsSame}
use Rattle.volume_rules.specs.Images.{EachRecoverable}
use Rattle.volume_rules.proofs.SameLemmas.{read_by, same_back, recoverable_same, recovered_same, volume_same}
use Rattle.plugd.specs.declared.ack.Ack.{Ack}
use Rattle.plugd.specs.declared.play.Ending.{Ending}
use Rattle.plugd.specs.declared.reply.Reply.{Reply}
use Rattle.plugd.specs.declared.run.Status.{Status}
use Rattle.plugd.specs.declared.server.Server.{Server}
use Rattle.plugd.specs.Open.{IsBase}
use Rattle.plugd.specs.Run.{Ended, Ends}
use Rattle.plugd.specs.Serve.{Base, Core, Secure, Halts, shelf_of}
use Rattle.plugd.specs.Session.{EndsIn, World, world}

-- the engine of this kind, with another reading
abbrev read_as : Kind → Reading → EngineState → (List File → Type 0) → Working
read_as kind reading state holds = record { kind = kind; reading = reading; state = state; holds = holds }

-- the core with this engine
abbrev core_with : Server → Working → Disk → Core
core_with server engine disk = record { server = server; engine = engine; disk = disk }

-- what is secure by one reading is so by the other
secure_by : (base : Base) (all : List Transaction) (server : Server) (engine : Working) (reading : Reading) (state : EngineState) (holds : List File → Type 0) (disk : Disk) → SameReading engine.reading reading
    → Secure base all (core_with server (read_as engine.kind reading state holds) disk) → Secure base all (core_with server engine disk)
secure_by base all server engine reading state holds disk same s = record {
  told = s.told;
  later = s.later;
  no_fewer = s.no_fewer;
  safe = s.safe;
  sound = λ told could. weaker base.start disk (EachRecoverable (shelf_of engine) (read_by engine.kind reading)) (EachRecoverable (shelf_of engine) (read_by engine.kind engine.reading))
      (λ files each. recoverable_same (shelf_of engine) engine.kind reading engine.reading files (same_back engine.reading reading same) each)
      (s.sound told (volume_same (shelf_of engine) engine.kind engine.reading reading base.start same could));
  in_time = s.in_time;
  opened = λ told could. recovered_same (shelf_of engine) engine.kind reading engine.reading base.found (disk.at base.opened) (same_back engine.reading reading same)
      (s.opened told (volume_same (shelf_of engine) engine.kind engine.reading reading base.start same could));
}

-- what was played is told by the engine as it was handed in
halts_by : (base : Base) (lines : List (List ℕ)) (replies : List Reply) (server : Server) (engine : Working) (reading : Reading) (state : EngineState) (holds : List File → Type 0) (disk : Disk) → SameReading engine.reading reading
    → Halts base lines replies (core_with server (read_as engine.kind reading state holds) disk) → Halts base lines replies (core_with server engine disk)
halts_by base lines replies server engine reading state holds disk same h = record {
  state = h.state;
  stopped = record {
    secure = secure_by base _ server engine reading state holds disk same h.stopped.secure;
    plays = h.stopped.plays;
    numbers = h.stopped.numbers;
    cause = h.stopped.cause;
    count = h.stopped.count;
    whole = h.stopped.whole;
  };
  halted = h.halted;
}

-- so is the end of a run
ends_as : (P Q : List (List ℕ) → List Reply → Type 0) (start : World) (ending : Ending) (end : World) → ((lines : List (List ℕ)) (replies : List Reply) → P lines replies → Q lines replies) → EndsIn P start ending end → EndsIn Q start ending end
ends_as P Q start ending end gives e = record {
  read = e.read;
  lines = e.lines;
  replies = e.replies;
  took = e.took;
  played = e.played;
  halts = gives e.lines e.replies e.halts;
  told = e.told;
  reason = e.reason;
  faults = e.faults;
}

pub ends_by : (base : Base) (engine : Working) (server : Server) (kind : Kind) (reading : Reading) (state : EngineState) (holds : List File → Type 0) (start : World) (ending : Ending) (end : World) → IsSame engine.kind kind engine.reading reading
    → Ends base (read_as kind reading state holds) start ending server end → Ends base engine start ending server end
ends_by base engine server kind reading state holds start ending end same e =
    ends_as (λ lines replies. Halts base lines replies (core_with server (read_as kind reading state holds) end.disk)) (λ lines replies. Halts base lines replies (core_with server engine end.disk)) start ending end
    (λ lines replies h. halts_by base lines replies server engine reading state holds end.disk same.reading
    (subst (λ (k : Kind). Halts base lines replies (core_with server (read_as k reading state holds) end.disk)) same.kind h)) e

-- and what it began with
pub base_by : (limit : ℕ) (engine : Working) (kind : Kind) (reading : Reading) (state : EngineState) (holds : List File → Type 0) (disk : Disk) (base : Base) → IsSame engine.kind kind engine.reading reading
    → IsBase limit (read_as kind reading state holds) disk base → IsBase limit engine disk base
base_by limit engine kind reading state holds disk base same b =
    let is = subst (λ (k : Kind). IsBase limit (read_as k reading state holds) disk base) same.kind b in
    record {
      start = is.start;
      limit_is = is.limit_is;
      line = is.line;
      given = is.given;
      asked = is.asked;
      halted = is.halted;
      met = is.met;
      found = is.found;
      catalog = is.catalog;
      live = λ told could. is.live told (volume_same (shelf_of engine) engine.kind engine.reading reading disk same.reading could);
    }

-- the same run, where its last disk has another name
pub other_end : (limit : ℕ) (words : List (String Global)) (engine : Working) (start : World) (answer : Status) (acks : List Ack) (d₀ d₁ : Disk) (left : Option (List ℕ)) (source_faults : ℕ) (held : Option (List ℕ)) (sink_faults : ℕ) → d₁ ≡ d₀
    → Ended limit words engine start answer acks (world d₁ left source_faults held sink_faults)
    → Ended limit words engine start answer acks (world d₀ left source_faults held sink_faults)
other_end limit words engine start answer acks d₀ d₁ left source_faults held sink_faults same ran =
    subst (λ (d : Disk). Ended limit words engine start answer acks (world d left source_faults held sink_faults)) same ran
