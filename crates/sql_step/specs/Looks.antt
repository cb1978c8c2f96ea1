-- Which tables of the dictionary the engine can use, and which it can make. (This project.)
use Rattle.std.specs.Prelude.{◌≡◌, ◌≢◌, ℕ, List, Option, Some, None, true, false, IsTrue, is_some}
use Rattle.sql_value.specs.declared.refusal.Refusal.{Refusal}
use Rattle.sql_value.specs.declared.refusal.Refusal.TheVariants.{NoSuchTable, TableExists, UnknownEngine}
use Rattle.log_tables.specs.declared.table.Definition.{Definition}
use Rattle.sql_effect.specs.declared.shape.EngineFacts.{EngineFacts}
use Rattle.dictionary.specs.Dictionary.{definition_named}
use Rattle.sql_step.specs.Catalogs.{Catalog, schema_there, serves}

-- The table of this name is defined so, its engine is this one, and this has it with the schema that is defined.
pub record IsUsable (table : List ℕ) (catalog : Catalog) (facts : EngineFacts) (it : Definition) : Type 0 where
  pub defined : definition_named table catalog.definitions ≡ Some it
  pub served : IsTrue (serves it.engine catalog.installed facts)
  pub live : schema_there table catalog ≡ Some it.schema

-- The table of this name is defined as one of this engine, which has no table of this name and schema.
pub record IsAbsentThere (table : List ℕ) (catalog : Catalog) (facts : EngineFacts) : Type 0 where
  pub it : Definition
  pub defined : definition_named table catalog.definitions ≡ Some it
  pub served : IsTrue (serves it.engine catalog.installed facts)
  pub other : schema_there table catalog ≢ Some it.schema

-- Why a table cannot be used: there is none of this name; its engine is not at hand, or not installed; or the engine has it not, or with
-- another schema.
pub data IsNotUsable (table : List ℕ) (catalog : Catalog) (facts : EngineFacts) : Refusal → Type 0 where
  absent : definition_named table catalog.definitions ≡ None → IsNotUsable table catalog facts NoSuchTable
  unserved : (it : Definition) → definition_named table catalog.definitions ≡ Some it → serves it.engine catalog.installed facts ≡ false
      → IsNotUsable table catalog facts UnknownEngine
  differs : IsAbsentThere table catalog facts → IsNotUsable table catalog facts NoSuchTable

-- no table of this name is defined, the engine of this name is this one, and it has no table of this name
pub record IsMakeable (table engine : List ℕ) (catalog : Catalog) (facts : EngineFacts) : Type 0 where
  pub free : definition_named table catalog.definitions ≡ None
  pub served : IsTrue (serves engine catalog.installed facts)
  pub none : schema_there table catalog ≡ None

-- No table of this name is defined, and the engine of this name, which is this one, has a table of this name all the same.
pub record IsThereAlone (table engine : List ℕ) (catalog : Catalog) (facts : EngineFacts) : Type 0 where
  pub free : definition_named table catalog.definitions ≡ None
  pub served : IsTrue (serves engine catalog.installed facts)
  pub live : IsTrue (is_some (schema_there table catalog))

-- Why a table cannot be made: there is one of this name; its engine is not at hand, or not installed; or the engine has one all the same.
pub data IsNotMakeable (table engine : List ℕ) (catalog : Catalog) (facts : EngineFacts) : Refusal → Type 0 where
  defined : IsTrue (is_some (definition_named table catalog.definitions)) → IsNotMakeable table engine catalog facts TableExists
  unserving : definition_named table catalog.definitions ≡ None → serves engine catalog.installed facts ≡ false
      → IsNotMakeable table engine catalog facts UnknownEngine
  taken : IsThereAlone table engine catalog facts → IsNotMakeable table engine catalog facts TableExists
