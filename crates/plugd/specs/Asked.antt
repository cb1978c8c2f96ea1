-- What is known of the one engine, what a text comes to there, and what is there behind its changes. (This project.)
use Rattle.std.specs.Prelude.{ℕ, List, [], Bool, true, false, codes}
use Rattle.row_format.specs.declared.change.Change.{Change}
use Rattle.log_tables.specs.Changes.{after_changes, installed_changes}
use Rattle.engine_api.specs.declared.flags.Flags.{Flags}
use Rattle.engine_api.specs.declared.flags.KeyRule.TheVariants.{Allowed}
use Rattle.sql_effect.specs.declared.shape.EngineFacts.{EngineFacts}
use Rattle.dictionary.specs.Dictionary.{definitions_of, bare_tables}
use Rattle.sql_step.specs.declared.outcome.Outcome.{Outcome}
use Rattle.sql_step.specs.declared.outcome.Outcome.TheVariants.{Rows, Changed, Noted}
use Rattle.sql_step.specs.Catalogs.{Catalog}
use Rattle.sql_step.specs.Steps.{IsText, ComesTo}

-- the name of the one engine
abbrev pub engine_name : List ℕ
engine_name = codes "JOURNAL"

-- what it can do
abbrev pub engine_flags : Flags
engine_flags = record { transactional = true; crash_safe = true; key = Allowed; nulls = true }

-- what is known of it
abbrev pub engine_facts : EngineFacts
engine_facts = record { name = engine_name; soname = codes "ha_journal.so"; flags = engine_flags; keeps_rows = true }

-- the text spells a statement that comes to this
abbrev pub Comes : List ℕ → Catalog → Outcome → Type 0
Comes text here outcome = IsText text (λ asks. ComesTo here engine_facts asks outcome)

-- What is there after changes, one after the other. The definitions go through them as tables without rows.
abbrev pub catalog_after : List Change → Catalog → Catalog
catalog_after changes here = record {
  definitions = definitions_of (after_changes changes (bare_tables here.definitions));
  installed = installed_changes changes here.installed;
  live = after_changes changes here.live;
}

-- a statement that was carried out: its text, and what that came to
pub record Work : Type 0 where
  pub text : List ℕ
  pub outcome : Outcome

-- the changes of an outcome, which the log is to have
abbrev pub changes_in : Outcome → List Change
changes_in (Rows rows) = []
changes_in (Changed count changes) = changes
changes_in (Noted changes) = changes

-- how many rows an outcome counts
abbrev pub rows_in : Outcome → ℕ
rows_in (Changed count changes) = count
rows_in _ = 0

-- what an outcome changes is the engine's
abbrev pub is_in_engine : Outcome → Bool
is_in_engine (Changed count changes) = true
is_in_engine _ = false

-- the changes of a statement, in order
abbrev pub changes_by : Work → List Change
changes_by work = changes_in work.outcome

-- how many rows it counts
abbrev pub count_of : Work → ℕ
count_of work = rows_in work.outcome

-- it is prepared in the engine: an INSTALL is prepared nowhere
abbrev pub is_prepared_for : Work → Bool
is_prepared_for work = is_in_engine work.outcome
