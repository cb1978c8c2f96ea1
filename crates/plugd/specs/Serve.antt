-- Where a session stands after some lines, from the opening on. (This project.)
use Rattle.std.specs.Prelude.{◌≡◌, ◌≤◌, ◌+◌, ℕ, List, [], ◌∷◌, ◌++◌, length, map, Contains, None, Some, IsTrue, true, false}
use Rattle.fault_counts.specs.Rose.{Rose}
use Rattle.disk_model.specs.Disk.{Disk, now, contents}
use Rattle.row_format.specs.declared.change.Transaction.{Transaction}
use Rattle.log_tables.specs.Changes.{tables_after, installed_after}
use Rattle.dictionary.specs.Dictionary.{definitions_of}
use Rattle.binlog_file.specs.Logged.{IsLogged}
use Rattle.binlog_file.specs.Binlog.{flushed_of, end_in}
use Rattle.log_tables.specs.declared.gist.Gist.{Gist}
use Rattle.engine_api.specs.States.{Kind, EngineState}
use Rattle.engine_api.specs.Many.{Working, IsAtWork}
use Rattle.sql_step.specs.Catalogs.{Catalog}
use Rattle.recovery_rules.specs.Recovery.{ShelfEngine, IsRecovered}
use Rattle.volume_rules.specs.Readers.{Reader, on_shelf, with_gists}
use Rattle.volume_rules.specs.Images.{IsRecoverableVolume, EachRecovered}
use Rattle.plugd.specs.declared.reply.Reply.{Reply}
use Rattle.plugd.specs.declared.reply.HaltCause.{HaltCause}
use Rattle.plugd.specs.declared.reply.HaltCause.TheVariants.{Device, NotAVolume}
use Rattle.plugd.specs.declared.server.Server.{Server}
use Rattle.plugd.specs.LogOne.{IsDurable}
use Rattle.plugd.specs.Asked.{engine_name, engine_flags, engine_facts}
use Rattle.plugd.specs.Noting.{AreSound, HasCatalog}
use Rattle.plugd.specs.Xids.{xids_of}
use Rattle.plugd.specs.XidSet.{Knows}
use Rattle.plugd.specs.Crash.{StaysRecoverable, all_of, Safe}
use Rattle.plugd.specs.Play.{Rules, State, Plays, numbers_of}

-- the number by which the engine knows the one session
abbrev pub session : ℕ
session = 1

-- what a session began with: the disk before the opening, the transactions that the opening found, how long the log may get, the moment
-- of the opening's end, and the first state
pub record Base : Type 0 where
  pub start : Disk
  pub found : List Transaction
  pub limit : ℕ
  pub opened : ℕ
  pub first : State

-- what plays lines: the server, the engine and the disk
pub record Core : Type 1 where
  pub server : Server
  pub engine : Working
  pub disk : Disk

-- the rules of a session
abbrev pub rules_of : Base → Rules
rules_of base = record { limit = base.limit; told = base.start.told; found = xids_of base.found }

-- the engine is JOURNAL: a crash-safe engine of this name and library, whose files are not the log's
pub record IsJournal (kind : Kind) : Type 0 where
  pub name : kind.name ≡ engine_name
  pub library : kind.soname ≡ engine_facts.soname
  pub flags : kind.flags ≡ engine_flags
  pub apart : Contains kind.files 0 → ⊥

-- how the engine's files are read
abbrev pub reader_of : Working → Reader
reader_of it = record { kind = it.kind; reading = it.reading }

-- the shelf with this one engine
abbrev pub shelf_of : Working → List ShelfEngine
shelf_of it = on_shelf (reader_of it ∷ [])

-- the volume could be recovered at the start
abbrev pub CouldRecover : Base → Working → Type 0
CouldRecover base engine = IsRecoverableVolume (shelf_of engine) (reader_of engine ∷ []) base.start

-- the cause of a halt: a fault of the device, or, where contents are not told, a file of the engine that is none of its
abbrev pub IsCause : Base → Kind → Disk → HaltCause → Type 0
IsCause base kind disk Device = Rose base.start.faults disk.faults
IsCause base kind disk (NotAVolume file) = (base.start.told ≡ false) × Contains kind.files file

-- the volume is safe since the start, and an image may have all these transactions
pub record Secure (base : Base) (all : List Transaction) (core : Core) : Type 0 where
  pub told : core.disk.told ≡ base.start.told
  pub later : base.start.calls ≤ core.disk.calls
  pub no_fewer : base.start.faults ≤ core.disk.faults
  pub safe : IsTrue base.start.told → Safe core.engine.kind base.start base.found all core.server.acks.items core.disk
  pub sound : StaysRecoverable (shelf_of core.engine) (reader_of core.engine ∷ []) base.start core.disk
  pub in_time : (base.start.calls ≤ base.opened) × (base.opened ≤ core.disk.calls)
  pub opened : IsTrue base.start.told → CouldRecover base core.engine → EachRecovered (shelf_of core.engine) (reader_of core.engine ∷ []) base.found (core.disk.at base.opened)

-- some lines were played, which left this state
pub record Stopped (base : Base) (lines : List (List ℕ)) (replies : List Reply) (core : Core) (state : State) : Type 0 where
  pub secure : Secure base (all_of base.found state) core
  pub plays : Plays (rules_of base) base.first lines replies state
  pub numbers : map (λ ack. ack.number) core.server.acks.items ≡ numbers_of replies
  pub cause : (cause : HaltCause) → state.halted ≡ Some cause → IsCause base core.engine.kind core.disk cause
  pub count : IsTrue base.start.told → state.count ≡ length base.found + length state.asked
  pub whole : IsTrue base.start.told → state.met ≡ None → IsLogged (contents core.disk 0) (base.found ++ state.asked)

-- the server is in this state
pub record Shows (server : Server) (state : State) : Type 0 where
  pub line : server.lines ≡ state.line
  pub halted : server.halted ≡ state.halted
  pub catalog : state.halted ≡ None → HasCatalog server.dictionary state.catalog
  pub count : state.halted ≡ None → flushed_of server.log ≡ state.count
  pub len : state.halted ≡ None → end_in server.log ≡ state.len

-- the catalog is that of this log
pub record IsCatalogOf (log : List Transaction) (here : Catalog) : Type 0 where
  pub definitions : here.definitions ≡ definitions_of (tables_after log)
  pub installed : here.installed ≡ installed_after log

-- nothing is on its way in an engine of this state: it has what the catalog says, committed, and its images read so
pub record IsIdle (idle : EngineState) (state : State) : Type 0 where
  pub pending : idle.pending ≡ []
  pub kept : idle.kept ≡ idle.gist ∷ []
  pub none_prepared : idle.gist.prepared ≡ []
  pub live : idle.gist.tables ≡ state.catalog.live
  pub last : idle.gist.last ≤ state.count

-- Every transaction of the log is durable, these xids were given, the engine's files are what it takes them for, and with this gist the
-- engine is at the log.
pub record IsAtRest (base : Base) (core : Core) (gist : Gist) (state : State) (given : List ℕ) : Type 0 where
  pub durable : IsDurable core.server.log (base.found ++ state.asked) core.disk
  pub knows : Knows core.server.xids (xids_of base.found ++ given)
  pub asked_given : (xid : ℕ) → Contains (xids_of state.asked) xid → Contains state.given xid
  pub catalog : IsCatalogOf (base.found ++ state.asked) state.catalog
  pub at_work : IsAtWork core.engine (now core.disk)
  pub recovered : CouldRecover base core.engine → IsRecovered (shelf_of core.engine) (base.found ++ state.asked) (with_gists (reader_of core.engine ∷ []) (gist ∷ []))

-- what stays over all lines
pub record IsFixed (base : Base) (core : Core) : Type 0 where
  pub kind : IsJournal core.engine.kind
  pub limit : core.server.limit ≡ base.limit
  pub small : base.limit ≤ 2147483647

-- some lines were played, and the server goes on
pub record Serving (base : Base) (lines : List (List ℕ)) (replies : List Reply) (core : Core) : Type 0 where
  pub state : State
  pub fixed : IsFixed base core
  pub line : state.line ≡ length lines
  pub stopped : Stopped base lines replies core state
  pub shows : Shows core.server state
  pub met : state.halted ≡ None → state.met ≡ None
  pub sound : AreSound state.catalog.definitions
  pub idle : state.halted ≡ None → IsIdle core.engine.state state
  pub rest : IsTrue base.start.told → state.halted ≡ None → IsAtRest base core core.engine.state.gist state state.given

-- some lines were played, and what is left is to end
pub record Halts (base : Base) (lines : List (List ℕ)) (replies : List Reply) (core : Core) : Type 0 where
  pub state : State
  pub stopped : Stopped base lines replies core state
  pub halted : core.server.halted ≡ state.halted
