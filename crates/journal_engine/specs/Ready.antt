-- What the tests know of an engine between two calls. (This project.)
use Rattle.std.specs.Prelude.{◌≡◌, List, [], IsTrue}
use Rattle.disk_model.specs.File.{File}
use Rattle.disk_model.specs.Disk.{Disk}
use Rattle.engine_api.specs.States.{Kind, EngineState}
use Rattle.engine_api.specs.Reads.{files_in}
use Rattle.live_tables.specs.Alone.{IsAlone}
use Rattle.journal_engine.specs.Engine.{journal_flags}

-- it can do what JOURNAL can, nothing is pending, and its files are what it takes them for
pub record IsIdle (kind : Kind) (state : EngineState) (holds : List File → Type 0) (disk : Disk) : Type 0 where
  pub flags : kind.flags ≡ journal_flags
  pub idle : state.pending ≡ []
  pub files : IsTrue disk.told → holds (files_in kind.files disk)

-- it can do what JOURNAL can, transaction 1 is the only one, and its files are what it takes them for
pub record IsReady (kind : Kind) (state : EngineState) (holds : List File → Type 0) (disk : Disk) : Type 0 where
  pub flags : kind.flags ≡ journal_flags
  pub alone : IsAlone 1 state
  pub files : IsTrue disk.told → holds (files_in kind.files disk)
