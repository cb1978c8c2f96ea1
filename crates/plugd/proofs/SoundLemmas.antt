-- The definitions of a catalog stay sound over changes that can be spelt.
use Rattle.std.proofs.Common.{ℕ, List, [], ◌∷◌, All, Option, Some, None}
use Rattle.std.proofs.lemmas.List.Elements.{All-nil, All-cons, All-head, All-tail}
use Rattle.sql_value.specs.declared.value.Value.{Value}
use Rattle.row_format.specs.declared.change.Change.{Change}
use Rattle.row_format.specs.declared.change.Transaction.{Transaction}
use Rattle.row_format.specs.Changes.{AreFitChanges}
use Rattle.row_format.specs.Rows.{IsRow}
use Rattle.row_format.specs.Schemas.{IsSchema}
use Rattle.log_tables.specs.declared.table.Definition.{Definition}
use Rattle.log_tables.specs.declared.table.Table.{Table}
use Rattle.log_tables.specs.Changes.{after_changes, tables_after}
use Rattle.log_tables.specs.Keys.{IsOrdered}
use Rattle.sql_effect.specs.Logs.{IsSound}
use Rattle.sql_effect.proofs.SoundLemmas.{stay_sound, log_sound}
use Rattle.dictionary.specs.Dictionary.{definitions_of, bare_tables}
use Rattle.sql_step.specs.Catalogs.{AreSchemas}
use Rattle.plugd.specs.Noting.{AreSound}

-- a definition, as a table without rows
abbrev bare : Definition → Table
bare it = record { definition = it; rows = [] }

-- no rows are in order
none_ordered : (key : Option ℕ) → IsOrdered key []
none_ordered None = tt
none_ordered (Some column) = tt

-- without its rows a table is sound, too
bare_one : (t : Table) → IsSound t → IsSound (bare t.definition)
bare_one t is = record { named = is.named; schema = is.schema; rows = All-nil (IsRow t.definition.schema); ordered = none_ordered t.definition.schema.key }

pub bare_sound : (ts : List Table) → All IsSound ts → AreSound (definitions_of ts)
bare_sound [] all = All-nil IsSound
bare_sound (t ∷ ts) all = All-cons IsSound (bare t.definition) (bare_tables (definitions_of ts)) (bare_one t (All-head IsSound t ts all)) (bare_sound ts (All-tail IsSound t ts all))

-- they stay sound
pub sound_goes : (changes : List Change) (ds : List Definition) → AreFitChanges changes → AreSound ds → AreSound (definitions_of (after_changes changes (bare_tables ds)))
sound_goes changes ds fit sound = bare_sound (after_changes changes (bare_tables ds)) (stay_sound changes (bare_tables ds) fit sound)

-- those of a log are
pub sound_first : (log : List Transaction) → All (λ (it : Transaction). AreFitChanges it.changes) log → AreSound (definitions_of (tables_after log))
sound_first log fit = bare_sound (tables_after log) (log_sound log fit)

-- and their schemas are schemas
pub sound_schemas : (ds : List Definition) → AreSound ds → AreSchemas ds
sound_schemas [] all = All-nil (λ (it : Definition). IsSchema it.schema)
sound_schemas (d ∷ ds) all =
    All-cons (λ (it : Definition). IsSchema it.schema) d ds (All-head IsSound (bare d) (bare_tables ds) all).schema (sound_schemas ds (All-tail IsSound (bare d) (bare_tables ds) all))
