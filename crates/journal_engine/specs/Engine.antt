-- What the engine tells, what its files stand for, and what is always so. (This project.)
use Rattle.std.specs.Prelude.{◌≡◌, ◌<◌, ◌+◌, ◌*◌, ◌^◌, ℕ, List, [], ◌∷◌, length, map, codes, Option, Some, None, Bool, true, false, IsTrue, nat_lt}
use Rattle.std.specs.List.{list_all}
use Rattle.disk_model.specs.File.{File}
use Rattle.frame_codec.specs.Frame.{limit}
use Rattle.framed_file.specs.Framed.{header_len}
use Rattle.row_format.specs.declared.change.Change.{Change}
use Rattle.row_format.specs.Schemas.{IsSchema}
use Rattle.row_format.specs.Changes.{AreFitChanges}
use Rattle.binlog_events.specs.Items.{is_on_table}
use Rattle.log_tables.specs.declared.table.Table.{Table}
use Rattle.log_tables.specs.declared.gist.Prepared.{Prepared}
use Rattle.log_tables.specs.declared.gist.Gist.{Gist}
use Rattle.log_tables.specs.Gists.{empty_gist}
use Rattle.redo_journal.specs.declared.record.Record.{Record}
use Rattle.redo_journal.specs.declared.record.Record.TheVariants.{Prepare}
use Rattle.redo_journal.specs.declared.journal.Area.{Area}
use Rattle.redo_journal.specs.declared.journal.Journal.{Journal}
use Rattle.redo_journal.specs.Replays.{Replay, start, Allows, after_record, after_records, end_behind, commit_size}
use Rattle.redo_journal.specs.Journals.{Stands, IsFaithfulImage, first_file_of, IsJournal, IsKept}
use Rattle.engine_api.specs.declared.flags.Flags.{Flags}
use Rattle.engine_api.specs.declared.flags.KeyRule.TheVariants.{Allowed}
use Rattle.engine_api.specs.States.{Kind, EngineState, Pending, share_of, prepared_state, begun_state}
use Rattle.engine_api.specs.Reads.{Reading}

-- what the engine tells: its name, its library, the number of its first file, its journal where it has begun, and what it has
pub record Journaled : Type 0 where
  pub name : List ℕ
  pub soname : List ℕ
  pub first_file : ℕ
  pub journal : Option Journal
  pub live : EngineState

-- an engine that has not begun: no journal, no table, and nothing pending
abbrev pub not_begun : ℕ → Journaled
not_begun first = record { name = codes "JOURNAL"; soname = codes "ha_journal.so"; first_file = first; journal = None; live = begun_state empty_gist }

-- what it can do
abbrev pub journal_flags : Flags
journal_flags = record { transactional = true; crash_safe = true; key = Allowed; nulls = true }

-- the numbers of its files
abbrev pub files_of : ℕ → List ℕ
files_of first = first ∷ (first + 1) ∷ []

-- what never changes of it
abbrev pub kind_of : Journaled → Kind
kind_of e = record { name = e.name; soname = e.soname; flags = journal_flags; files = files_of e.first_file }

-- the gist that records stand for
abbrev pub gist_of : List Record → Gist
gist_of records = (after_records records start).gist

-- the gist with one record more
abbrev pub gist_with : Record → Gist → Gist
gist_with it gist = (after_record it (record { gist = gist; numbered = false })).gist

-- nothing is pending, and the record may stand behind others that stand for this gist
abbrev pub MayFollow : Record → EngineState → Type 0
MayFollow it state = (state.pending ≡ []) × ((replay : Replay) × (replay.gist ≡ state.gist) × Allows replay it)

-- two images are a journal whose records stand for this gist
abbrev pub StandAs : List (List ℕ) → Gist → Type 0
StandAs (one ∷ other ∷ []) gist = (records : List Record) × Stands None one other records × (gist_of records ≡ gist)
StandAs _ gist = ⊥

-- how the bytes of its files are read
abbrev pub journal_reading : Reading
journal_reading = record { faithful = λ place file image. IsFaithfulImage file image; stands = StandAs }

-- The journal's records stand for this gist. Where there is no journal, it is empty.
abbrev pub StandsFor : ℕ → Option Journal → Gist → Type 0
StandsFor first None gist = gist ≡ empty_gist
StandsFor first (Some journal) gist = (first_file_of journal ≡ first) × ((records : List Record) × IsJournal journal records × (gist_of records ≡ gist))

-- these files, of these numbers, hold the journal's records, all of them synced, which stand for this gist
abbrev pub IsHeld : ℕ → Option Journal → Gist → List File → Type 0
IsHeld first None gist files = ⊥
IsHeld first (Some journal) gist files = (files_at : ℕ → File) × (map files_at (files_of first) ≡ files) × ((records : List Record) × IsKept journal None records records files_at × (gist_of records ≡ gist))

-- changes that can be spelt in a journal: each fits, and is one on a table
abbrev pub AreWritable : List Change → Type 0
AreWritable changes = AreFitChanges changes × IsTrue (list_all is_on_table changes)

-- each table has a schema that can be spelt
abbrev pub HaveSchemas : List Table → Type 0
HaveSchemas [] = Unit {0}
HaveSchemas (it ∷ rest) = IsSchema it.definition.schema × HaveSchemas rest

-- the changes of each prepared transaction fit
abbrev pub PreparedFit : List Prepared → Type 0
PreparedFit [] = Unit {0}
PreparedFit (it ∷ rest) = AreFitChanges it.changes × PreparedFit rest

-- what each transaction has pending can be spelt
abbrev pub PendingFit : List Pending → Type 0
PendingFit [] = Unit {0}
PendingFit (it ∷ rest) = AreWritable it.changes × PendingFit rest

-- all that the engine has can be spelt
pub record CanBeSpelt (state : EngineState) : Type 0 where
  pub tables : HaveSchemas state.gist.tables
  pub prepared : PreparedFit state.gist.prepared
  pub pending : PendingFit state.pending

-- what is always so: the engine has what its journal's records stand for, an image reads as that alone, and all of it can be spelt
pub record IsWell (first : ℕ) (journal : Option Journal) (state : EngineState) : Type 0 where
  pub files_fit : first + 1 < 2 ^ 32
  pub stands : StandsFor first journal state.gist
  pub alone : state.kept ≡ state.gist ∷ []
  pub spelt : CanBeSpelt state

-- where the records of an area end; without one, behind the header that it will have
abbrev pub end_on : Option Area → ℕ
end_on None = header_len
end_on (Some area) = area.len

-- where the next record of the journal goes
abbrev pub journal_end : Option Journal → ℕ
journal_end None = header_len
journal_end (Some journal) = end_on journal.area

-- a Prepare of this transaction at this place would leave no room for a Commit of each transaction that is then prepared
abbrev pub is_past : ℕ → ℕ → ℕ → EngineState → Bool
is_past at txn xid state = nat_lt limit (end_behind at (Prepare (share_of txn xid state)) + commit_size * length (prepared_state txn xid state).gist.prepared)

-- the journal has no room for the prepare of this transaction
abbrev pub is_spent : Option Journal → ℕ → ℕ → EngineState → Bool
is_spent journal txn xid state = is_past (journal_end journal) txn xid state
