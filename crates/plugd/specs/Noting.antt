-- What does a dictionary tell after the changes of a transaction? (This project.)
use Rattle.std.specs.Prelude.{◌≡◌, List, All}
use Rattle.std.specs.List.{fold}
use Rattle.row_format.specs.declared.change.Change.{Change}
use Rattle.dictionary.specs.Dictionary.{DictionaryState, bare_tables, dictionary_change}
use Rattle.log_tables.specs.declared.table.Definition.{Definition}
use Rattle.sql_effect.specs.Logs.{IsSound}
use Rattle.sql_step.specs.Catalogs.{Catalog}

-- a dictionary after changes, one after the other
abbrev pub dictionary_after : List Change → DictionaryState → DictionaryState
dictionary_after changes old = fold (λ so_far it. dictionary_change it so_far) old changes

-- each of these definitions has a name and a schema that are such
abbrev pub AreSound : List Definition → Type 0
AreSound definitions = All IsSound (bare_tables definitions)

-- the dictionary has the definitions and the installed engines of this catalog
pub record HasCatalog (dictionary : DictionaryState) (here : Catalog) : Type 0 where
  pub definitions : dictionary.definitions ≡ here.definitions
  pub installed : dictionary.installed ≡ here.installed
