-- The definitions of tables, under one change: what stands in the tables besides makes no difference.
use Rattle.std.proofs.Common.{◌≡◌, ℕ, List, [], ◌∷◌, ◌++◌, Option, Some, None, Bool, true, false, cond, refl, sym, ap, ◌∙◌}
use Rattle.std.specs.Prelude.{is_some, is_none, not, map}
use Rattle.std.specs.Str.{bytes_eq}
use Rattle.std.specs.List.{list_any}
use Rattle.std.specs.Option.{option_map}
use Rattle.sql_value.specs.declared.value.Value.{Value}
use Rattle.row_format.specs.declared.schema.Schema.{Schema}
use Rattle.row_format.specs.declared.change.Change.{Change}
use Rattle.row_format.specs.declared.change.Change.TheVariants.{Install, Uninstall, Create, Drop, Insert, Update, Delete}
use Rattle.log_tables.specs.declared.table.Definition.{Definition}
use Rattle.log_tables.specs.declared.table.Table.{Table}
use Rattle.log_tables.specs.Tables.{is_named, table_named, at_table, new_table}
use Rattle.log_tables.specs.Changes.{after_change, changed, with_rows, rows_after}
use Rattle.dictionary.specs.Dictionary.{definitions_of, bare_tables, is_definition_of, definition_named, takes_effect}

-- the definition that a CREATE makes
abbrev pub made : List ℕ → List ℕ → Schema → Definition
made table engine schema = record { table = table; engine = engine; schema = schema }

-- the definitions with the first of this name left out
abbrev pub without_definition : List ℕ → List Definition → List Definition
without_definition name [] = []
without_definition name (it ∷ rest) = cond (is_definition_of name it) rest (it ∷ without_definition name rest)

-- a change of the definitions alone
abbrev pub definitions_change : Change → List Definition → List Definition
definitions_change (Create table engine schema) ds = cond (is_some (definition_named table ds)) ds (ds ++ made table engine schema ∷ [])
definitions_change (Drop table) ds = without_definition table ds
definitions_change _ ds = ds

-- the change takes effect, told by the definitions alone
abbrev pub takes_by : Change → List Definition → List (List ℕ) → Bool
takes_by (Create table engine schema) ds names = is_none (definition_named table ds)
takes_by (Drop table) ds names = is_some (definition_named table ds)
takes_by (Install name) ds names = not (list_any (bytes_eq name) names)
takes_by (Uninstall name) ds names = list_any (bytes_eq name) names
takes_by _ ds names = false

pub definitions_of-bare_tables : (ds : List Definition) → definitions_of (bare_tables ds) ≡ ds
definitions_of-bare_tables [] = refl
definitions_of-bare_tables (d ∷ ds) = ap (λ xs. d ∷ xs) (definitions_of-bare_tables ds)

definitions_of-append : (ts us : List Table) → definitions_of (ts ++ us) ≡ definitions_of ts ++ definitions_of us
definitions_of-append [] us = refl
definitions_of-append (t ∷ ts) us = ap (λ xs. t.definition ∷ xs) (definitions_of-append ts us)

-- the definition of a name is that of the table of that name
pub definition_named-definitions_of : (name : List ℕ) (ts : List Table)
    → definition_named name (definitions_of ts) ≡ option_map (λ it. it.definition) (table_named name ts)
definition_named-definitions_of name [] = refl
definition_named-definitions_of name (t ∷ ts) =
    ap (cond (is_named name t) (Some t.definition)) (definition_named-definitions_of name ts) ∙ both (is_named name t) (table_named name ts)
  where
    both : (b : Bool) (r : Option Table) → cond b (Some t.definition) (option_map (λ it. it.definition) r) ≡ option_map (λ it. it.definition) (cond b (Some t) r)
    both true r = refl
    both false r = refl

-- what is made of what was found is there where it was found
pub is_some-option_map : {X Y : Type 0} (f : X → Y) (r : Option X) → is_some (option_map f r) ≡ is_some r
is_some-option_map f None = refl
is_some-option_map f (Some x) = refl

is_some-definition_named : (name : List ℕ) (ts : List Table) → is_some (definition_named name (definitions_of ts)) ≡ is_some (table_named name ts)
is_some-definition_named name ts = ap is_some (definition_named-definitions_of name ts) ∙ is_some-option_map (λ (it : Table). it.definition) (table_named name ts)

-- a table that is dropped
definitions_of-dropped : (name : List ℕ) (ts : List Table) → definitions_of (at_table name (λ _. []) ts) ≡ without_definition name (definitions_of ts)
definitions_of-dropped name [] = refl
definitions_of-dropped name (t ∷ ts) = both (is_named name t) ∙ ap (λ xs. cond (is_named name t) (definitions_of ts) (t.definition ∷ xs)) (definitions_of-dropped name ts)
  where
    both : (b : Bool) → definitions_of (cond b ts (t ∷ at_table name (λ _. []) ts)) ≡ cond b (definitions_of ts) (t.definition ∷ definitions_of (at_table name (λ _. []) ts))
    both true = refl
    both false = refl

-- a table whose rows are changed
definition-with_rows : (t : Table) (rows : Option (List (List Value))) → (with_rows t rows).definition ≡ t.definition
definition-with_rows t None = refl
definition-with_rows t (Some rows) = refl

definitions_of-changed : (name : List ℕ) (c : Change) (ts : List Table) → definitions_of (at_table name (changed c) ts) ≡ definitions_of ts
definitions_of-changed name c [] = refl
definitions_of-changed name c (t ∷ ts) = both (is_named name t) (definitions_of-changed name c ts)
  where
    both : (b : Bool) → definitions_of (at_table name (changed c) ts) ≡ definitions_of ts
        → definitions_of (cond b (changed c t ++ ts) (t ∷ at_table name (changed c) ts)) ≡ t.definition ∷ definitions_of ts
    both true rest = ap (λ d. d ∷ definitions_of ts) (definition-with_rows t (rows_after c t))
    both false rest = ap (λ xs. t.definition ∷ xs) rest

-- a table that is created
definitions_of-created : (table engine : List ℕ) (schema : Schema) (ts : List Table)
    → definitions_of (after_change (Create table engine schema) ts) ≡ definitions_change (Create table engine schema) (definitions_of ts)
definitions_of-created table engine schema ts =
    both (is_some (table_named table ts))
    ∙ ap (λ b. cond b (definitions_of ts) (definitions_of ts ++ made table engine schema ∷ [])) (sym (is_some-definition_named table ts))
  where
    both : (b : Bool) → definitions_of (cond b ts (ts ++ new_table table engine schema ∷ [])) ≡ cond b (definitions_of ts) (definitions_of ts ++ made table engine schema ∷ [])
    both true = refl
    both false = definitions_of-append ts (new_table table engine schema ∷ [])

-- The definitions after a change are told by those before.
pub definitions_of-after_change : (c : Change) (ts : List Table) → definitions_of (after_change c ts) ≡ definitions_change c (definitions_of ts)
definitions_of-after_change (Create table engine schema) ts = definitions_of-created table engine schema ts
definitions_of-after_change (Drop table) ts = definitions_of-dropped table ts
definitions_of-after_change (Insert map row) ts = definitions_of-changed map.table (Insert map row) ts
definitions_of-after_change (Update map place before after) ts = definitions_of-changed map.table (Update map place before after) ts
definitions_of-after_change (Delete map place before) ts = definitions_of-changed map.table (Delete map place before) ts
definitions_of-after_change (Install name) ts = refl
definitions_of-after_change (Uninstall name) ts = refl

-- So rows make no difference.
pub definitions_of-rows : (c : Change) (ts : List Table) → definitions_of (after_change c ts) ≡ definitions_of (after_change c (bare_tables (definitions_of ts)))
definitions_of-rows c ts =
    definitions_of-after_change c ts
    ∙ sym (ap (definitions_change c) (definitions_of-bare_tables (definitions_of ts)))
    ∙ sym (definitions_of-after_change c (bare_tables (definitions_of ts)))

pub is_none-is_some : {X : Type 0} (r : Option X) → is_none r ≡ not (is_some r)
is_none-is_some None = refl
is_none-is_some (Some x) = refl

-- So is whether it takes effect.
pub takes_effect-takes_by : (c : Change) (ts : List Table) (names : List (List ℕ)) → takes_effect c ts names ≡ takes_by c (definitions_of ts) names
takes_effect-takes_by (Create table engine schema) ts names =
    is_none-is_some (table_named table ts) ∙ ap not (sym (is_some-definition_named table ts)) ∙ sym (is_none-is_some (definition_named table (definitions_of ts)))
takes_effect-takes_by (Drop table) ts names = sym (is_some-definition_named table ts)
takes_effect-takes_by (Insert map row) ts names = refl
takes_effect-takes_by (Update map place before after) ts names = refl
takes_effect-takes_by (Delete map place before) ts names = refl
takes_effect-takes_by (Install name) ts names = refl
takes_effect-takes_by (Uninstall name) ts names = refl
