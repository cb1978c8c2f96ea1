-- How a whole run ends. (This project.)
use Rattle.std.specs.Prelude.{◌≡◌, ◌≢◌, ◌⊎◌, ◌≤◌, ℕ, List, [], ◌∷◌, length, map, codes, Option, Some, None, IsTrue}
use Rattle.std.specs.declared.string.String.{String}
use Rattle.std.specs.Prelude.{string_bytes}
use Rattle.std.specs.declared.alloc.Global.{Global}
use Rattle.fault_counts.specs.Rose.{Rose}
use Rattle.disk_model.specs.Disk.{Disk}
use Rattle.engine_api.specs.States.{Kind}
use Rattle.engine_api.specs.Many.{Working}
use Rattle.xid_recovery.specs.declared.report.OpenFault.{OpenFault}
use Rattle.xid_recovery.specs.declared.report.OpenFault.TheVariants as fault
use Rattle.volume_rules.specs.Images.{IsRecoverableVolume}
use Rattle.plugd.specs.declared.ack.Ack.{Ack}
use Rattle.plugd.specs.declared.play.Ending.{Ending}
use Rattle.plugd.specs.declared.play.Ending.TheVariants.{EndOfInput, SourceFailed, SinkFailed, TooLong, OutOfMemory}
use Rattle.plugd.specs.declared.run.Status.{Status}
use Rattle.plugd.specs.declared.run.Status.TheVariants as status
use Rattle.plugd.specs.declared.server.Server.{Server}
use Rattle.plugd.specs.declared.reply.HaltCause.{HaltCause}
use Rattle.plugd.specs.declared.reply.HaltCause.TheVariants as cause
use Rattle.plugd.specs.Serve.{Base, Halts, IsJournal, reader_of, shelf_of}
use Rattle.plugd.specs.Open.{IsBase, Refused}
use Rattle.plugd.specs.Crash.{StaysRecoverable}
use Rattle.plugd.specs.Session.{input_limit, World, world, EndsIn}

-- the one word of a run
abbrev pub IsPlay : List (String Global) → Type 0
IsPlay words = map string_bytes words ≡ codes "play" ∷ []

-- the shelf has one engine, which is JOURNAL
abbrev pub IsShelf : List Kind → Type 0
IsShelf (kind ∷ []) = IsJournal kind
IsShelf _ = ⊥

-- P of the one engine on the shelf, as it was handed in
abbrev pub OnShelf : List Working → (Working → Type 0) → Type 0
OnShelf (engine ∷ []) P = P engine
OnShelf _ P = ⊥

-- the status of an ending while the run is not halted
abbrev pub plain_status : Ending → Status
plain_status EndOfInput = status.Ok
plain_status SourceFailed = status.SourceFault
plain_status SinkFailed = status.SinkFault
plain_status TooLong = status.InputTooLong
plain_status OutOfMemory = status.NoMemory

-- the status of a halted run
abbrev pub halted_status : HaltCause → Status
halted_status cause.Device = status.Device
halted_status (cause.NotAVolume file) = status.NotAVolume file

-- want of memory goes before the cause of a halt, and that before all others
pub record IsStatus (ending : Ending) (halted : Option HaltCause) (answer : Status) : Type 0 where
  pub memory : ending ≡ OutOfMemory → answer ≡ status.NoMemory
  pub halt : ending ≢ OutOfMemory → (cause : HaltCause) → halted ≡ Some cause → answer ≡ halted_status cause
  pub plain : halted ≡ None → answer ≡ plain_status ending

-- the status of an opening that was refused
abbrev pub fault_status : OpenFault → Status
fault_status fault.Device = status.Device
fault_status (fault.NotAVolume file) = status.NotAVolume file
fault_status (fault.EngineMissing name) = status.EngineMissing name
fault_status (fault.Ahead engine engine_last log_last) = status.Ahead engine engine_last log_last
fault_status fault.Memory = status.NoMemory

-- the end of the input, or of what could be played of it, and where it leaves the server
abbrev pub Ends : Base → Working → World → Ending → Server → World → Type 0
Ends base engine start ending server end = EndsIn (λ lines replies. Halts base lines replies (record { server = server; engine = engine; disk = end.disk })) start ending end

-- the ways in which a run with this engine ends
pub data Ended (limit : ℕ) (words : List (String Global)) (engine : Working) (start : World) (answer : Status) (acks : List Ack) (end : World) : Type 0 where
  -- its words are not known: nothing was done
  usage : ¬ (IsPlay words) → answer ≡ status.Usage 0 → acks ≡ [] → end ≡ start → Ended limit words engine start answer acks end
  -- the volume was not opened: nothing was read or written but the disk
  refused : IsPlay words → (refusal : OpenFault) → answer ≡ fault_status refusal → acks ≡ [] → (disk : Disk) → Refused engine start.disk refusal disk
      → end ≡ world disk start.left start.source_faults start.held start.sink_faults
      → Ended limit words engine start answer acks end
  -- the input was played
  played : IsPlay words → (base : Base) → IsBase limit engine start.disk base → (ending : Ending) → (server : Server) → Ends base engine start ending server end
      → acks ≡ server.acks.items → IsStatus ending server.halted answer → Ended limit words engine start answer acks end

-- Over a volume that could be recovered, where no count of faults rose and the input is not too long, a run is Ok or found no memory.
abbrev pub IsComplete : List (String Global) → World → World → Status → Working → Type 0
IsComplete words start end answer engine = IsPlay words → IsTrue start.disk.told → IsRecoverableVolume (shelf_of engine) (reader_of engine ∷ []) start.disk
    → (xs : List ℕ) → start.left ≡ Some xs → length xs ≤ input_limit
    → (Rose start.disk.faults end.disk.faults → ⊥) → (Rose start.source_faults end.source_faults → ⊥) → (Rose start.sink_faults end.sink_faults → ⊥)
    → (answer ≡ status.Ok) ⊎ (answer ≡ status.NoMemory)

-- at each moment of a run over a volume that could be recovered, each faithful crash image is recoverable
abbrev pub IsSound : World → World → Working → Type 0
IsSound start end engine = StaysRecoverable (shelf_of engine) (reader_of engine ∷ []) start.disk end.disk

-- A run with this engine: how it ends, that it is complete, and what each crash leaves.
pub record Runs (limit : ℕ) (words : List (String Global)) (start : World) (answer : Status) (acks : List Ack) (end : World) (engine : Working) : Type 0 where
  pub ended : Ended limit words engine start answer acks end
  pub complete : IsComplete words start end answer engine
  pub recoverable : IsSound start end engine
