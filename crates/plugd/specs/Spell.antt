-- What the server's own steps do to it. (This project.)
use Rattle.std.specs.Prelude.{◌≡◌, ◌<◌, ◌≤◌, ◌+◌, ◌∷◌, ◌++◌, [], ℕ, List, Option, None, Some, Bool, true, false, vec_len, vec_capacity, Result, Ok}
use Rattle.std.specs.declared.alloc.AllocError.{AllocError}
use Rattle.row_format.specs.declared.change.Change.{Change}
use Rattle.binlog_file.specs.Binlog.{end_in, Carries}
use Rattle.sql_value.specs.declared.refusal.Refusal.{Refusal}
use Rattle.sql_value.specs.declared.refusal.Refusal.TheVariants.{DuplicateEntry, TableFull}
use Rattle.engine_api.specs.declared.fault.Code.{Code}
use Rattle.engine_api.specs.declared.fault.Code.TheVariants.{Duplicate}
use Rattle.engine_api.specs.declared.fault.EngineFault.{EngineFault}
use Rattle.engine_api.specs.declared.fault.EngineFault.TheVariants as fault
use Rattle.plugd.specs.Play.{logged_size}
use Rattle.plugd.specs.Noting.{dictionary_after}
use Rattle.plugd.specs.declared.reply.HaltCause.{HaltCause}
use Rattle.plugd.specs.declared.reply.HaltCause.TheVariants.{Device, NotAVolume}
use Rattle.plugd.specs.declared.server.Server.{Server}

-- the cause of a halt, where a fault of the engine is one
abbrev pub cause_by : EngineFault → Option HaltCause
cause_by fault.Device = Some Device
cause_by (fault.NotAVolume file) = Some (NotAVolume file)
cause_by fault.Memory = None
cause_by (fault.Code it) = None

-- the refusal that a code of a row that was to be written means
abbrev pub refusal_by : Code → Refusal
refusal_by Duplicate = DuplicateEntry
refusal_by _ = TableFull

-- the server, halted
abbrev pub with_halt : HaltCause → Server → Server
with_halt cause old = record { alloc = old.alloc; log = old.log; xids = old.xids; dictionary = old.dictionary; acks = old.acks; spelling = old.spelling; lines = old.lines; limit = old.limit; halted = Some cause }

-- one acknowledgement more
pub record Acknowledges (number call : ℕ) (old new : Server) : Type 0 where
  pub acks : new.acks.items ≡ old.acks.items ++ (record { number = number; call = call }) ∷ []
  pub dictionary : new.dictionary ≡ old.dictionary
  pub log : new.log ≡ old.log
  pub xids : new.xids ≡ old.xids
  pub lines : new.lines ≡ old.lines
  pub limit : new.limit ≡ old.limit
  pub halted : new.halted ≡ old.halted

-- only what is spelt, the room for acknowledgements, and what the dictionary notes may be another
pub record IsSameBut (old new : Server) : Type 0 where
  pub log : new.log ≡ old.log
  pub xids : new.xids ≡ old.xids
  pub acks : new.acks.items ≡ old.acks.items
  pub lines : new.lines ≡ old.lines
  pub limit : new.limit ≡ old.limit
  pub halted : new.halted ≡ old.halted

-- What is spelt is the transaction of these changes under this xid, chained to the end of the log, there is room for one acknowledgement
-- more, and the changes are noted; or the log would pass its limit with it, and nothing is noted.
pub record Spells (xid : ℕ) (changes : List Change) (old new : Server) (result : Result Bool AllocError) : Type 0 where
  pub same : IsSameBut old new
  pub spelt : result ≡ Ok true → Carries new.log new.spelling.items ((record { xid = xid; changes = changes }) ∷ [])
  pub fits : result ≡ Ok true → end_in old.log + logged_size changes ≤ old.limit
  pub room : result ≡ Ok true → vec_len new.acks < vec_capacity new.acks
  pub noted : result ≡ Ok true → new.dictionary ≡ dictionary_after changes old.dictionary
  pub spent : result ≡ Ok false → old.limit < end_in old.log + logged_size changes
  pub unnoted : result ≡ Ok false → new.dictionary ≡ old.dictionary
