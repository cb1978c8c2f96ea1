-- What a statement finds: the tables and engines that there are, and the tables that the engine at hand has. (This project.)
use Rattle.std.specs.Prelude.{◌≡◌, ℕ, List, [], ◌∷◌, All, Option, Some, Bool, true, map, ◌&&◌, Result}
use Rattle.std.specs.Str.{bytes_eq}
use Rattle.std.specs.List.{list_any}
use Rattle.sql_value.specs.declared.refusal.Refusal.{Refusal}
use Rattle.sql_value.specs.declared.value.Value.{Value}
use Rattle.row_format.specs.declared.schema.Schema.{Schema}
use Rattle.row_format.specs.Schemas.{IsSchema}
use Rattle.log_tables.specs.declared.table.Definition.{Definition}
use Rattle.log_tables.specs.declared.table.Table.{Table}
use Rattle.log_tables.specs.Keys.{IsOrdered}
use Rattle.log_tables.specs.Tables.{table_named}
use Rattle.engine_api.specs.States.{Kind, EngineState, live_tables}
use Rattle.engine_api.specs.Live.{live_bytes, rows_found, schema_found}
use Rattle.sql_text.specs.declared.statement.Statement.{Statement}
use Rattle.sql_text.specs.declared.statement.Statement.TheVariants as statement
use Rattle.sql_effect.specs.declared.shape.Effect.{Effect}
use Rattle.sql_effect.specs.declared.shape.EngineFacts.{EngineFacts}
use Rattle.sql_effect.specs.declared.shape.Sizes.{Sizes}
use Rattle.sql_effect.specs.declared.shape.View.{View}
use Rattle.sql_effect.specs.Effects.{effect_of}
use Rattle.sql_effect.specs.Texts.{IsEffect}
use Rattle.dictionary.specs.Dictionary.{DictionaryState, definition_named}

-- the definitions of the tables that there are, in order of creation; the installed engines; and the tables that the engine at hand has
pub record Catalog : Type 0 where
  pub definitions : List Definition
  pub installed : List (List ℕ)
  pub live : List Table

-- what a dictionary and an engine tell
abbrev pub catalog_of : DictionaryState → EngineState → Catalog
catalog_of dictionary state = record { definitions = dictionary.definitions; installed = dictionary.installed; live = live_tables state }

-- what is known of an engine of this kind, which keeps rows
abbrev pub facts_here : Kind → EngineFacts
facts_here kind = record { name = kind.name; soname = kind.soname; flags = kind.flags; keeps_rows = true }

-- the rows that the engine has of the table of this name
abbrev pub rows_here : List ℕ → Catalog → List (List Value)
rows_here table catalog = rows_found (table_named table catalog.live)

-- its schema there, where the engine has it
abbrev pub schema_there : List ℕ → Catalog → Option Schema
schema_there table catalog = schema_found (table_named table catalog.live)

-- a table, with the rows that the engine has of it
abbrev pub table_here : Catalog → Definition → Table
table_here catalog it = record { definition = it; rows = rows_here it.table catalog }

-- what a statement sees: each table with the rows that the engine has of it, and the installed engines
abbrev pub view_here : Catalog → View
view_here catalog = record { tables = map (table_here catalog) catalog.definitions; installed = catalog.installed }

-- the bytes that the engine has, and that a transaction by itself has none in the log before
abbrev pub sizes_here : Catalog → Sizes
sizes_here catalog = record { live = live_bytes catalog.live; «open» = 0 }

-- what a statement does, as a transaction by itself, to what is seen here
abbrev pub effect_here : Catalog → EngineFacts → Statement → Result Effect Refusal
effect_here catalog facts asks = effect_of (facts ∷ []) (view_here catalog) (sizes_here catalog) asks

-- so it is of a text
abbrev pub IsEffectHere : Catalog → EngineFacts → List ℕ → Result Effect Refusal → Type 0
IsEffectHere catalog facts text effect = IsEffect (facts ∷ []) (view_here catalog) (sizes_here catalog) text effect

-- the engine of this name is installed
abbrev pub is_there : List ℕ → List (List ℕ) → Bool
is_there name installed = list_any (bytes_eq name) installed

-- the engine at hand has this name, and is installed
abbrev pub serves : List ℕ → List (List ℕ) → EngineFacts → Bool
serves name installed facts = is_there name installed && bytes_eq facts.name name

-- it has this name, and is in this library
abbrev pub is_from : List ℕ → List ℕ → EngineFacts → Bool
is_from name soname facts = bytes_eq facts.name name && bytes_eq facts.soname soname

-- the schema of each table is one
abbrev pub AreSchemas : List Definition → Type 0
AreSchemas definitions = All (λ it. IsSchema it.schema) definitions

-- The rows that a SELECT looks at are in the order of the key of their table, where it has one. Of another statement nothing is said.
abbrev pub IsInOrderHere : Catalog → Statement → Type 0
IsInOrderHere catalog (statement.Select table names where_is) =
    (it : Definition) → definition_named table catalog.definitions ≡ Some it → IsOrdered it.schema.key (rows_here table catalog)
IsInOrderHere catalog _ = Unit {0}
