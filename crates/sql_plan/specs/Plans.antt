-- What a statement is planned to, or why it is refused before a row is looked at. (This project.)
use Rattle.std.specs.Prelude.{◌≡◌, ℕ, List, [], ◌∷◌, Option, Some, None, Bool, true, false, cond, ◌&&◌, slice_get, is_some, option_map, option_and_then, ◌||◌, IsTrue}
use Rattle.std.specs.Str.{bytes_eq}
use Rattle.std.specs.List.{list_all, list_any}
use Rattle.sql_value.specs.declared.refusal.Refusal.{Refusal}
use Rattle.sql_value.specs.declared.refusal.Refusal.TheVariants.{SchemaUnsuitable, UnknownColumn, ValueCount}
use Rattle.sql_value.specs.declared.value.Value.{Value}
use Rattle.sql_value.specs.declared.value.Value.TheVariants as value
use Rattle.row_format.specs.declared.schema.Column.{Column}
use Rattle.row_format.specs.declared.schema.Schema.{Schema}
use Rattle.row_format.specs.Rows.{first_of_two}
use Rattle.log_tables.specs.declared.table.Definition.{Definition}
use Rattle.engine_api.specs.declared.flags.Flags.{Flags}
use Rattle.sql_text.specs.declared.statement.Assign.{Assign}
use Rattle.sql_text.specs.declared.statement.Cond.{Cond}
use Rattle.sql_text.specs.declared.statement.Literal.{Literal}
use Rattle.sql_text.specs.declared.statement.Literal.TheVariants as literal
use Rattle.sql_text.specs.declared.statement.Op.{Op}
use Rattle.sql_text.specs.declared.statement.Op.TheVariants as op
use Rattle.sql_text.specs.declared.statement.Operand.{Operand}
use Rattle.sql_text.specs.declared.statement.Operand.TheVariants as operand
use Rattle.sql_text.specs.declared.statement.Statement.{Statement}
use Rattle.sql_text.specs.declared.statement.Statement.TheVariants as statement
use Rattle.sql_text.specs.declared.statement.Step.{Step}
use Rattle.sql_text.specs.declared.statement.Step.TheVariants as step
use Rattle.sql_text.specs.declared.statement.Sum.{Sum}
use Rattle.sql_plan.specs.declared.shape.Path.{Path}
use Rattle.sql_plan.specs.declared.shape.Path.TheVariants as path
use Rattle.sql_plan.specs.declared.shape.Plan.{Plan}
use Rattle.sql_plan.specs.declared.shape.PlanFault.{PlanFault}
use Rattle.sql_plan.specs.declared.shape.PlanFault.TheVariants as fault
use Rattle.sql_plan.specs.Names.{cond_known, assign_known, select_known}
use Rattle.sql_plan.specs.Types.{cond_refusal, sets_refusal, rows_refusal, is_counted, is_big_int, has_terms}
use Rattle.sql_plan.specs.Tables.{created_schema}

-- a refusal, unless so
abbrev pub unless : Bool → Refusal → Option Refusal
unless true refusal = None
unless false refusal = Some refusal

-- the columns of the table, where there is one
abbrev pub columns_of : Option Definition → List Column
columns_of None = []
columns_of (Some it) = it.schema.columns

-- a CREATE is refused where it has no schema
abbrev pub create_refusal : Option Schema → Option Refusal
create_refusal None = Some SchemaUnsuitable
create_refusal (Some schema) = None

-- Why a statement on a table with these columns is refused, if it is: a column that is not there; a row with another number of values; then
-- types and literals in the order of the text.
abbrev pub use_refusal : Statement → List Column → Option Refusal
use_refusal (statement.Insert table rows) columns = first_of_two (unless (list_all (is_counted columns) rows) ValueCount) (rows_refusal columns rows)
use_refusal (statement.Select table names where_is) columns = first_of_two (unless (select_known columns names && cond_known columns where_is) UnknownColumn) (cond_refusal columns where_is)
use_refusal (statement.Update table sets where_is) columns =
    first_of_two (unless (list_all (assign_known columns) sets && cond_known columns where_is) UnknownColumn) (first_of_two (sets_refusal columns sets) (cond_refusal columns where_is))
use_refusal (statement.Delete table where_is) columns = first_of_two (unless (cond_known columns where_is) UnknownColumn) (cond_refusal columns where_is)
use_refusal _ columns = None

-- why a statement is refused at planning, if it is: a CREATE for a schema that does not suit
abbrev pub plan_refusal : Statement → Option Definition → Flags → Option Refusal
plan_refusal (statement.Create table items engine) definition flags = create_refusal (created_schema flags items)
plan_refusal other definition flags = use_refusal other (columns_of definition)

-- what is asked for looks for rows of a table
abbrev pub IsSearch : Statement → Type 0
IsSearch (statement.Select table names where_is) = Unit {0}
IsSearch (statement.Update table sets where_is) = Unit {0}
IsSearch (statement.Delete table where_is) = Unit {0}
IsSearch _ = ⊥

-- what is asked for is about a table
abbrev pub IsOnTable : Statement → Type 0
IsOnTable (statement.Create table items engine) = Unit {0}
IsOnTable (statement.Drop table) = Unit {0}
IsOnTable (statement.Insert table rows) = Unit {0}
IsOnTable other = IsSearch other

-- unless it makes the table, the definition is there
abbrev pub HasDefinition : Statement → Option Definition → Type 0
HasDefinition (statement.Create table items engine) definition = Unit {0}
HasDefinition other definition = IsTrue (is_some definition)

-- the value of a literal that is one
abbrev pub value_of : Literal → Option Value
value_of literal.Null = None
value_of (literal.Int n) = cond (is_big_int n) (Some (value.Int n)) None
value_of (literal.Text text) = Some (value.Text text)

-- one operand is this column, and the other a literal
abbrev pub key_literal : List ℕ → Operand → Operand → Option Literal
key_literal key (operand.Column name) (operand.Literal it) = cond (bytes_eq key name) (Some it) None
key_literal key (operand.Literal it) (operand.Column name) = cond (bytes_eq key name) (Some it) None
key_literal key _ _ = None

-- each of the sums is one operand
abbrev pub key_of_sums : List ℕ → Sum → Sum → Option Literal
key_of_sums key left right = cond (has_terms left.rest || has_terms right.rest) None (key_literal key left.first right.first)

-- it is a comparison for equality
abbrev pub key_if : Op → Option Literal → Option Literal
key_if op.Eq it = it
key_if _ it = None

-- the literal that a step compares the key with
abbrev pub key_in_step : List ℕ → Step → Option Literal
key_in_step key (step.Compare left how right) = key_if how (key_of_sums key left right)
key_in_step key _ = None

-- a condition of one step
abbrev pub key_in_steps : List ℕ → List Step → Option Literal
key_in_steps key (it ∷ []) = key_in_step key it
key_in_steps key _ = None

-- the value that the whole condition compares the key with
abbrev pub key_in_cond : List ℕ → Option Cond → Option Value
key_in_cond key None = None
key_in_cond key (Some cond) = option_and_then value_of (key_in_steps key cond.steps)

-- the name of the key column
abbrev pub key_of_schema : Schema → Option (List ℕ)
key_of_schema schema = key_at schema.columns schema.key
  where
    name_found : Option Column → Option (List ℕ)
    name_found None = None
    name_found (Some column) = Some column.name

    key_at : List Column → Option ℕ → Option (List ℕ)
    key_at columns None = None
    key_at columns (Some place) = name_found (slice_get columns place)

-- by key where there is a value for it, else by a scan
abbrev pub by_value : Option Value → Path
by_value None = path.Scan
by_value (Some key) = path.Key key

-- by the key of this name where the condition compares it with a value; else by a scan
abbrev pub by_cond : Option (List ℕ) → Option Cond → Path
by_cond None where_is = path.Scan
by_cond (Some key) where_is = by_value (key_in_cond key where_is)

-- an UPDATE sets the key
abbrev pub sets_key : Option (List ℕ) → List Assign → Bool
sets_key None sets = false
sets_key (Some key) sets = list_any (λ (it : Assign). bytes_eq key it.column) sets

-- how the rows of a statement are found
abbrev pub path_of : Statement → Schema → Path
path_of (statement.Insert table rows) schema = path.Rows
path_of (statement.Select table names where_is) schema = by_cond (key_of_schema schema) where_is
path_of (statement.Update table sets where_is) schema = cond (sets_key (key_of_schema schema) sets) path.Scan (by_cond (key_of_schema schema) where_is)
path_of (statement.Delete table where_is) schema = by_cond (key_of_schema schema) where_is
path_of _ schema = path.Scan

-- the schema of what a statement is about
abbrev pub schema_of : Statement → Option Definition → Flags → Option Schema
schema_of (statement.Create table items engine) definition flags = created_schema flags items
schema_of _ definition flags = option_map (λ (it : Definition). it.schema) definition

-- a fault tells this refusal, or want of memory
abbrev pub IsFault : Option Refusal → PlanFault → Type 0
IsFault refusal (fault.Refused it) = refusal ≡ Some it
IsFault refusal fault.Memory = Unit {0}

-- a plan has the statement whole, this schema and this path
pub record IsPlanOf (asks : Statement) (of_table : Option Schema) (way : Path) (plan : Plan) : Type 0 where
  pub work : plan.work ≡ asks
  pub schema : of_table ≡ Some plan.schema
  pub path : plan.path ≡ way

-- the plan of a statement that is not refused
pub record IsPlan (asks : Statement) (definition : Option Definition) (flags : Flags) (plan : Plan) : Type 0 where
  pub granted : plan_refusal asks definition flags ≡ None
  pub made : IsPlanOf asks (schema_of asks definition flags) (path_of asks plan.schema) plan
