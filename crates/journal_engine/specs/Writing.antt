-- What one record more in the journal does, and a sync of it. (This project.)
use Rattle.std.specs.Prelude.{◌≡◌, ℕ, [], ◌∷◌, Option, Some, None, Result, OnOk, IsTrue, true, false}
use Rattle.disk_model.specs.Disk.{Disk, now, HasCause}
use Rattle.log_tables.specs.Gists.{empty_gist}
use Rattle.redo_journal.specs.declared.record.Record.{Record}
use Rattle.redo_journal.specs.declared.journal.Journal.{Journal}
use Rattle.redo_journal.specs.Journals.{first_file_of, IsKept}
use Rattle.redo_journal.specs.Reading.{is_short}
use Rattle.redo_journal.specs.Appending.{Admits, HasFiles, OfMore, StandsForMore, LosesNone, LosesNoneBehind, KeepsSynced, SettlesFile}
use Rattle.engine_api.specs.declared.fault.EngineFault.{EngineFault}
use Rattle.engine_api.specs.States.{EngineState, begun_state}
use Rattle.engine_api.specs.Calls.{IsDevice, IsRefused, IsDoneOrDevice, AnswersOnly}

-- the files hold one record more, and all of them are synced
abbrev pub SyncsMore : Record → Journal → Disk → Journal → Disk → Type 0
SyncsMore it old before new after = OfMore it old before (λ wanted synced records. IsKept new wanted records records (now after))

-- Device and Memory alone
abbrev pub AnswersNoCode : Result (Unit {0}) EngineFault → Type 0
AnswersNoCode result = AnswersOnly [] [] true result

-- One record more, made durable: what the journal stands for, what its files hold, what a crash leaves, and the cause of a fault.
-- Without memory nothing was done, and a Commit or a Rollback takes none.
pub record Writes (it : Record) (result : Result (Unit {0}) EngineFault) (old new : Journal) (before after : Disk) : Type 0 where
  pub first : first_file_of new ≡ first_file_of old
  pub journal : OnOk result (StandsForMore it old new)
  pub kept : OnOk result (SyncsMore it old before new after)
  pub moments : LosesNoneBehind it old before after
  pub refused : IsRefused result → (new ≡ old) × (after ≡ before)
  pub short : IsTrue (is_short it) → IsDoneOrDevice result
  pub answers : AnswersNoCode result
  pub cause : HasCause IsDevice result before after

-- there is a journal, behind whose records this one fits
abbrev pub AdmitsIn : Option Journal → Record → Type 0
AdmitsIn None it = ⊥
AdmitsIn (Some journal) it = Admits journal it

-- there is a journal, and its files hold what it stands for
abbrev pub HasFilesIn : Option Journal → Disk → Type 0
HasFilesIn None disk = ⊥
HasFilesIn (Some journal) disk = HasFiles journal disk

-- both are journals, of which P holds
abbrev pub OfBoth : (Journal → Journal → Type 0) → Option Journal → Option Journal → Type 0
OfBoth P (Some old) (Some new) = P old new
OfBoth P _ _ = ⊥

-- it is a journal, of which P holds
abbrev pub OfJournal : (Journal → Type 0) → Option Journal → Type 0
OfJournal P None = Unit {0}
OfJournal P (Some journal) = P journal

-- nothing is left in memory
abbrev pub IsEmptied : Option Journal → EngineState → Type 0
IsEmptied journal state = (journal ≡ None) × (state ≡ begun_state empty_gist)

-- the journal and the tables are as they were
abbrev pub AreSame : Option Journal → Option Journal → EngineState → EngineState → Type 0
AreSame was is state_was state_is = (is ≡ was) × (state_is ≡ state_was)

-- the journal after one record more, in its file, and synced there
abbrev pub GoesOnWith : Record → Disk → Disk → Journal → Journal → Type 0
GoesOnWith it before after old new = (first_file_of new ≡ first_file_of old) × StandsForMore it old new × SyncsMore it old before new after

-- One record more in an engine's journal: after Ok the tables are as they were, after a fault of the device nothing is left.
pub record Puts (it : Record) (result : Result (Unit {0}) EngineFault) (was is : Option Journal) (state_was state_is : EngineState) (before after : Disk) : Type 0 where
  pub more : OnOk result (OfBoth (GoesOnWith it before after) was is)
  pub same : OnOk result (state_is ≡ state_was)
  pub moments : OfJournal (λ old. LosesNoneBehind it old before after) was
  pub refused : IsRefused result → AreSame was is state_was state_is × (after ≡ before)
  pub emptied : IsDevice result → IsEmptied is state_is
  pub short : IsTrue (is_short it) → IsDoneOrDevice result
  pub answers : AnswersNoCode result
  pub cause : HasCause IsDevice result before after

-- The journal's records made durable: after Ok all is as it was, after a fault of the device nothing is left; without a journal it is
-- refused.
pub record Flushes (first : ℕ) (result : Result (Unit {0}) EngineFault) (was is : Option Journal) (state_was state_is : EngineState) (before after : Disk) : Type 0 where
  pub same : OnOk result (AreSame was is state_was state_is)
  pub synced : OfJournal (λ journal. OnOk result (KeepsSynced journal before journal after)) was
  pub settled : OfJournal (λ journal. OnOk result (SettlesFile journal after)) was
  pub moments : OfJournal (λ journal. LosesNone journal before after) was
  pub none : OnOk result (was ≡ None → ⊥)
  pub refused : IsRefused result → AreSame was is state_was state_is × (after ≡ before) × (was ≡ None)
  pub emptied : IsDevice result → IsEmptied is state_is
  pub answers : AnswersOnly [] (first ∷ []) false result
  pub cause : HasCause IsDevice result before after
