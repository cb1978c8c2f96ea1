-- What does a dictionary tell after changes? (This project.)
use Rattle.std.specs.Prelude.{◌≡◌, ◌+◌, ◌-◌, ◌^◌, ℕ, List, [], ◌∷◌, ◌++◌, Option, Bool, true, false, cond, not, find, map, min}
use Rattle.std.specs.Str.{bytes_eq}
use Rattle.std.specs.List.{list_any}
use Rattle.row_format.specs.declared.change.Change.{Change}
use Rattle.row_format.specs.declared.change.Change.TheVariants.{Install, Uninstall, Create, Drop}
use Rattle.row_format.specs.declared.change.Transaction.{Transaction}
use Rattle.log_tables.specs.declared.table.Definition.{Definition}
use Rattle.log_tables.specs.declared.table.Table.{Table}
use Rattle.log_tables.specs.Changes.{after_change, after_changes, applies, installed_change, installed_changes, installed_after}

-- the definitions of the tables that there are, in order of creation, the installed engines, in order, and how many changes made them
pub record DictionaryState : Type 0 where
  pub definitions : List Definition
  pub installed : List (List ℕ)
  pub version : ℕ

-- the definitions of these tables
abbrev pub definitions_of : List Table → List Definition
definitions_of tables = map (λ it. it.definition) tables

-- the tables of these definitions, with no rows
abbrev pub bare_tables : List Definition → List Table
bare_tables definitions = map (λ it. record { definition = it; rows = [] }) definitions

-- the definition is of the table of this name
abbrev pub is_definition_of : List ℕ → Definition → Bool
is_definition_of name definition = bytes_eq definition.table name

-- the definition of the table of this name, if there is one
abbrev pub definition_named : List ℕ → List Definition → Option Definition
definition_named name definitions = find (is_definition_of name) definitions

-- The change makes another dictionary of these tables and installed engines: a table that is not there is created, or one that is there is
-- dropped, an engine that is not installed is, or one that is is no more. A row change makes none.
abbrev pub takes_effect : Change → List Table → List (List ℕ) → Bool
takes_effect (Create table engine schema) tables names = applies (Create table engine schema) tables
takes_effect (Drop table) tables names = applies (Drop table) tables
takes_effect (Install name) tables names = not (list_any (bytes_eq name) names)
takes_effect (Uninstall name) tables names = list_any (bytes_eq name) names
takes_effect _ tables names = false

-- the change takes effect on this dictionary
abbrev pub HasEffect : Change → DictionaryState → Type 0
HasEffect change old = takes_effect change (bare_tables old.definitions) old.installed ≡ true

-- the number, or the last one of 64 bits
abbrev pub capped : ℕ → ℕ
capped n = min n (2 ^ 64 - 1)

-- a version, which a change that takes effect raises by one, up to the last number of 64 bits
abbrev pub raised : Bool → ℕ → ℕ
raised takes version = cond takes (capped (version + 1)) version

-- The dictionary after a change, which the tables of its definitions and the installed engines go through as a log's do.
-- One that takes no effect leaves all as it is.
abbrev pub dictionary_change : Change → DictionaryState → DictionaryState
dictionary_change change old = record {
  definitions = definitions_of (after_change change (bare_tables old.definitions));
  installed = installed_change change old.installed;
  version = raised (takes_effect change (bare_tables old.definitions) old.installed) old.version;
}

-- how many of these changes take effect, one after the other
abbrev pub count_of_effects : List Change → List Table → List (List ℕ) → ℕ
count_of_effects [] tables names = 0
count_of_effects (it ∷ rest) tables names =
    cond (takes_effect it tables names) 1 0 + count_of_effects rest (after_change it tables) (installed_change it names)

-- The dictionary is that of these changes, from nothing: it has the definitions of the tables that they make, the engines that they leave
-- installed of a fresh volume's, and the number of those that took effect.
pub record Tells (changes : List Change) (dictionary : DictionaryState) : Type 0 where
  pub definitions : dictionary.definitions ≡ definitions_of (after_changes changes [])
  pub installed : dictionary.installed ≡ installed_changes changes (installed_after [])
  pub version : dictionary.version ≡ capped (count_of_effects changes [] (installed_after []))

-- the changes of a log, in order
abbrev pub changes_of : List Transaction → List Change
changes_of [] = []
changes_of (it ∷ rest) = it.changes ++ changes_of rest
