-- What a statement does. (This project, but for what the parts cite.)
use Rattle.std.specs.Prelude.{ℕ, ◌+◌, List, [], ◌∷◌, length, Option, Some, None, Bool, true, cond, not, map, ◌&&◌, find, is_none, Result, Ok, Err, ◌<◌, ◌^◌, All}
use Rattle.std.specs.Str.{bytes_eq}
use Rattle.std.specs.List.{list_any}
use Rattle.sql_value.specs.declared.refusal.Refusal.{Refusal}
use Rattle.sql_value.specs.declared.refusal.Refusal.TheVariants.{NoSuchTable, TableExists, PluginInstalled, NoSuchLibrary, UnknownEngine, SchemaUnsuitable, NotBuilt}
use Rattle.sql_value.specs.Names.{IsName}
use Rattle.sql_value.specs.declared.value.Value.{Value}
use Rattle.row_format.specs.declared.change.Change.{Change}
use Rattle.row_format.specs.declared.change.Change.TheVariants as change
use Rattle.row_format.specs.declared.change.TableMap.{TableMap}
use Rattle.row_format.specs.declared.change.Transaction.{Transaction}
use Rattle.row_format.specs.declared.schema.Schema.{Schema}
use Rattle.row_format.specs.Rows.{first_of_two, IsRow}
use Rattle.row_format.specs.Schemas.{IsSchema}
use Rattle.log_tables.specs.declared.table.Definition.{Definition}
use Rattle.log_tables.specs.declared.table.Table.{Table}
use Rattle.log_tables.specs.Changes.{after_changes, tables_after, installed_after}
use Rattle.log_tables.specs.Tables.{table_named, new_table}
use Rattle.engine_api.specs.Live.{table_bytes}
use Rattle.sql_text.specs.declared.statement.Cond.{Cond}
use Rattle.sql_text.specs.declared.statement.Statement.{Statement}
use Rattle.sql_text.specs.declared.statement.Statement.TheVariants as statement
use Rattle.sql_plan.specs.Plans.{plan_refusal, schema_of, unless}
use Rattle.sql_effect.specs.declared.shape.Effect.{Effect}
use Rattle.sql_effect.specs.declared.shape.EngineFacts.{EngineFacts}
use Rattle.sql_effect.specs.declared.shape.Sizes.{Sizes}
use Rattle.sql_effect.specs.declared.shape.View.{View}
use Rattle.sql_effect.specs.Insert.{written, inserts, inserts_refusal}
use Rattle.sql_effect.specs.Rewrite.{◌>>=◌, refused_or, changes_from}
use Rattle.sql_effect.specs.Select.{search_refusal, selected}
use Rattle.sql_effect.specs.Sizes.{room_refusal, size_refusal}

-- rows are answered, and nothing changes
abbrev pub answers : List (List Value) → Effect
answers rows = record { rows = rows; count = 0; changes = [] }

-- one change of tables or of engines
abbrev pub makes : Change → Effect
makes change = record { rows = []; count = 0; changes = change ∷ [] }

-- rows change, and are counted
abbrev pub counts : List Change → Effect
counts changes = record { rows = []; count = length changes; changes = changes }

-- the engine has this name
abbrev pub is_engine : List ℕ → EngineFacts → Bool
is_engine name engine = bytes_eq engine.name name

-- the engine has this name, and is in this library
abbrev pub is_library : List ℕ → List ℕ → EngineFacts → Bool
is_library name soname engine = is_engine name engine && bytes_eq engine.soname soname

-- the plugin is installed
abbrev pub is_installed : List ℕ → View → Bool
is_installed name view = list_any (bytes_eq name) view.installed

-- the engine of this name that a statement may use: one that is at hand, and installed
abbrev pub engine_named : List ℕ → List EngineFacts → View → Option EngineFacts
engine_named name shelf view = cond (is_installed name view) (find (is_engine name) shelf) None

-- the table as row changes name it
abbrev pub map_of : Definition → TableMap
map_of definition = record { table = definition.table; schema = definition.schema }

-- these changes, unless they make the transaction too large
abbrev pub sized : Sizes → List Change → Result Effect Refusal
sized sizes changes = refused_or (size_refusal sizes.open changes) (Ok (counts changes))

-- an INSERT of these rows
abbrev pub insert_effect : EngineFacts → Sizes → Table → List (List Value) → Result Effect Refusal
insert_effect engine sizes table rows =
    refused_or (inserts_refusal engine.keeps_rows table.definition.schema sizes.live table.rows rows) (sized sizes (inserts (map_of table.definition) rows))

-- a SELECT of these columns where the condition chooses
abbrev pub select_effect : Table → Option (List (List ℕ)) → Option Cond → Result Effect Refusal
select_effect table names where_is = refused_or
    (search_refusal table.definition.schema.columns where_is table.rows) (Ok (answers (selected table.definition.schema.columns names where_is table.rows)))

-- an UPDATE or a DELETE
abbrev pub rewrite_effect : Sizes → Table → Statement → Result Effect Refusal
rewrite_effect sizes table asks = changes_from (map_of table.definition) asks sizes.live [] table.rows >>= sized sizes

-- a statement on its table, where planning did not refuse it
abbrev pub table_effect : EngineFacts → Sizes → Table → Statement → Result Effect Refusal
table_effect engine sizes table (statement.Drop name) = Ok (makes (change.Drop name))
table_effect engine sizes table (statement.Insert name rows) = insert_effect engine sizes table (written rows)
table_effect engine sizes table (statement.Select name names where_is) = select_effect table names where_is
table_effect engine sizes table (statement.Update name sets where_is) = rewrite_effect sizes table (statement.Update name sets where_is)
table_effect engine sizes table (statement.Delete name where_is) = rewrite_effect sizes table (statement.Delete name where_is)
table_effect engine sizes table _ = Err NotBuilt

-- a statement on a table whose engine was looked for
abbrev pub planned_effect : Option EngineFacts → Sizes → Table → Statement → Result Effect Refusal
planned_effect None sizes table asks = Err UnknownEngine
planned_effect (Some engine) sizes table asks = refused_or (plan_refusal asks (Some table.definition) engine.flags) (table_effect engine sizes table asks)

-- a statement on a table that was looked for
abbrev pub use_effect : List EngineFacts → View → Sizes → Option Table → Statement → Result Effect Refusal
use_effect shelf view sizes None asks = Err NoSuchTable
use_effect shelf view sizes (Some table) asks = planned_effect (engine_named table.definition.engine shelf view) sizes table asks

-- a CREATE of a table with the schema that was planned
abbrev pub made_effect : Sizes → List ℕ → List ℕ → Option Schema → Result Effect Refusal
made_effect sizes table engine None = Err SchemaUnsuitable
made_effect sizes table engine (Some schema) = refused_or
    (room_refusal (sizes.live + table_bytes (new_table table engine schema))) (Ok (makes (change.Create table engine schema)))

-- a CREATE in an engine that was looked for
abbrev pub create_in : Option EngineFacts → Sizes → List ℕ → List ℕ → Statement → Result Effect Refusal
create_in None sizes table name asks = Err UnknownEngine
create_in (Some engine) sizes table name asks = refused_or
    (plan_refusal asks None engine.flags) (made_effect sizes table name (schema_of asks None engine.flags))

-- a CREATE, unless there is a table of its name
abbrev pub create_effect : List EngineFacts → View → Sizes → List ℕ → List ℕ → Statement → Result Effect Refusal
create_effect shelf view sizes table engine asks = refused_or
    (unless (is_none (table_named table view.tables)) TableExists) (create_in (engine_named engine shelf view) sizes table engine asks)

-- an INSTALL of a plugin that is not installed, and whose engine is at hand
abbrev pub install_effect : List EngineFacts → View → List ℕ → List ℕ → Result Effect Refusal
install_effect shelf view name soname = refused_or (first_of_two
    (unless (not (is_installed name view)) PluginInstalled) (unless (list_any (is_library name soname) shelf) NoSuchLibrary)) (Ok (makes (change.Install name)))

-- What a statement does to a view, or why it is refused: the rows that it answers, how many rows it changes, and its changes.
abbrev pub effect_of : List EngineFacts → View → Sizes → Statement → Result Effect Refusal
effect_of shelf view sizes (statement.Create table items engine) = create_effect shelf view sizes table engine (statement.Create table items engine)
effect_of shelf view sizes (statement.Drop table) = use_effect shelf view sizes (table_named table view.tables) (statement.Drop table)
effect_of shelf view sizes (statement.Insert table rows) = use_effect shelf view sizes (table_named table view.tables) (statement.Insert table rows)
effect_of shelf view sizes (statement.Select table names where_is) =
    use_effect shelf view sizes (table_named table view.tables) (statement.Select table names where_is)
effect_of shelf view sizes (statement.Update table sets where_is) =
    use_effect shelf view sizes (table_named table view.tables) (statement.Update table sets where_is)
effect_of shelf view sizes (statement.Delete table where_is) =
    use_effect shelf view sizes (table_named table view.tables) (statement.Delete table where_is)
effect_of shelf view sizes (statement.Install name soname) = install_effect shelf view name soname
effect_of shelf view sizes _ = Err NotBuilt

-- an engine at hand keeps rows; one that is not is taken to
abbrev pub does_keep : Option EngineFacts → Bool
does_keep None = true
does_keep (Some engine) = engine.keeps_rows

-- a table as it is seen: with no rows, where its engine keeps none
abbrev pub seen_of : List EngineFacts → Table → Table
seen_of shelf table = cond (does_keep (find (is_engine table.definition.engine) shelf)) table (record { definition = table.definition; rows = [] })

-- The view of a session: what a log makes, with the session's own open changes on top. It is right for tables of engines that have kept their
-- rows since the log began, as a crash-safe one has, and of those that keep none.
abbrev pub view_of : List EngineFacts → List Transaction → List Change → View
view_of shelf log own = record { tables = map (seen_of shelf) (after_changes own (tables_after log)); installed = installed_after log }

-- a table with a schema that is one, and rows that go into it, each at a place that can be told
pub record IsTable (table : Table) : Type 0 where
  pub named : IsName table.definition.table
  pub schema : IsSchema table.definition.schema
  pub rows : All (IsRow table.definition.schema) table.rows
  pub few : length table.rows < 2 ^ 32

-- each of these is such a table
abbrev pub AreTables : List Table → Type 0
AreTables tables = All IsTable tables
