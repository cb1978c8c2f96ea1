-- What is found in the dictionary and in the engine is what a statement's effect sees.
use Rattle.std.proofs.Common.{◌≡◌, ◌≢◌, ℕ, List, [], ◌∷◌, map, Option, Some, None, Bool, true, false, cond, IsTrue, Bor, refl, sym, ap, subst, ◌∙◌}
use Rattle.std.specs.Prelude.{◌&&◌, option_map, is_some}
use Rattle.std.specs.Option.{option_copied}
use Rattle.std.specs.Str.{bytes_eq}
use Rattle.std.proofs.lemmas.Bool.{and_parts}
use Rattle.std.proofs.lemmas.Slice.Eq.{bytes_eq-Decides}
use Rattle.row_format.specs.declared.schema.Schema.{Schema}
use Rattle.row_format.specs.Schemas.{IsSchema, same_schema}
use Rattle.row_format.proofs.SameLemmas.{same_schema-true, same_schema_refl}
use Rattle.log_tables.specs.declared.table.Definition.{Definition}
use Rattle.log_tables.specs.Tables.{table_named}
use Rattle.engine_api.specs.States.{Kind, EngineState}
use Rattle.engine_api.specs.Live.{live_rows}
use Rattle.dictionary.specs.Dictionary.{DictionaryState, definition_named, is_definition_of}
use Rattle.sql_effect.specs.declared.shape.EngineFacts.{EngineFacts}
use Rattle.sql_effect.specs.Effects.{engine_named}
use Rattle.sql_effect.proofs.EffectLemmas.{all_found}
use Rattle.sql_exec.specs.Plannings.{IsAtHand, IsSeen, HasSchema}
use Rattle.sql_step.specs.Catalogs.{Catalog, catalog_of, facts_here, table_here, view_here, is_there, serves, AreSchemas}
use Rattle.sql_step.specs.Looks.{IsUsable}

-- the table of a name, as the view has it
pub named_here : (name : List ℕ) (catalog : Catalog) (ds : List Definition) → table_named name (map (table_here catalog) ds) ≡ option_map (table_here catalog) (definition_named name ds)
named_here name catalog [] = refl
named_here name catalog (d ∷ ds) = by (is_definition_of name d) (named_here name catalog ds)
  where
    by : (b : Bool) → table_named name (map (table_here catalog) ds) ≡ option_map (table_here catalog) (definition_named name ds)
        → cond b (Some (table_here catalog d)) (table_named name (map (table_here catalog) ds)) ≡ option_map (table_here catalog) (cond b (Some d) (definition_named name ds))
    by true rest = refl
    by false rest = rest

-- no table that is not defined is seen
pub none_here : (name : List ℕ) (catalog : Catalog) → definition_named name catalog.definitions ≡ None → table_named name (view_here catalog).tables ≡ None
none_here name catalog is = named_here name catalog catalog.definitions ∙ ap (option_map (table_here catalog)) is

-- one that is defined is
pub some_here : (name : List ℕ) (catalog : Catalog) (it : Definition) → definition_named name catalog.definitions ≡ Some it
    → table_named name (view_here catalog).tables ≡ Some (table_here catalog it)
some_here name catalog it is = named_here name catalog catalog.definitions ∙ ap (option_map (table_here catalog)) is

pub same_some : {A : Type 0} {x y : A} → Some x ≡ Some y → x ≡ y
same_some e = cc

-- what is found by a name has it
pub defined_name : (name : List ℕ) (ds : List Definition) (it : Definition) → definition_named name ds ≡ Some it → it.table ≡ name
defined_name name [] it is = absurd cc
defined_name name (d ∷ ds) it is = by (is_definition_of name d) refl is (defined_name name ds it)
  where
    by : (b : Bool) → is_definition_of name d ≡ b → cond b (Some d) (definition_named name ds) ≡ Some it → (definition_named name ds ≡ Some it → it.table ≡ name) → it.table ≡ name
    by true named found rest = ap (λ (x : Definition). x.table) (sym (same_some found)) ∙ (bytes_eq-Decides d.table name).0 named
    by false named found rest = rest found

-- an engine that serves a name has it
pub engine_is : (name : List ℕ) (installed : List (List ℕ)) (facts : EngineFacts) → IsTrue (serves name installed facts) → name ≡ facts.name
engine_is name installed facts is = sym ((bytes_eq-Decides facts.name name).0 (and_parts (is_there name installed) (bytes_eq facts.name name) is).1)

-- the engine that a name finds
pub engine_here : (name : List ℕ) (catalog : Catalog) (facts : EngineFacts)
    → engine_named name (facts ∷ []) (view_here catalog) ≡ cond (serves name catalog.installed facts) (Some facts) None
engine_here name catalog facts = by (is_there name catalog.installed) (bytes_eq facts.name name)
  where
    by : (a b : Bool) → cond a (cond b (Some facts) None) None ≡ cond (a && b) (Some facts) None
    by true true = refl
    by true false = refl
    by false true = refl
    by false false = refl

-- One that serves is at hand.
pub at_hand : (name : List ℕ) (catalog : Catalog) (kind : Kind) → IsTrue (serves name catalog.installed (facts_here kind)) → IsAtHand (facts_here kind ∷ []) (view_here catalog) kind
at_hand name catalog kind is = record {
  facts = facts_here kind;
  found = subst (λ (n : List ℕ). engine_named n (facts_here kind ∷ []) (view_here catalog) ≡ Some (facts_here kind)) (engine_is name catalog.installed (facts_here kind) is)
      (engine_here name catalog (facts_here kind) ∙ ap (λ (b : Bool). cond b (Some (facts_here kind)) None) is);
  flags = refl;
  keeps_rows = refl;
}

-- One that does not is not found.
pub not_at_hand : (name : List ℕ) (catalog : Catalog) (facts : EngineFacts) → serves name catalog.installed facts ≡ false
    → engine_named name (facts ∷ []) (view_here catalog) ≡ None
not_at_hand name catalog facts is = engine_here name catalog facts ∙ ap (λ (b : Bool). cond b (Some facts) None) is

-- A table that can be used is seen as the engine has it.
pub seen_here : (table : List ℕ) (known : DictionaryState) (kind : Kind) (s : EngineState) (it : Definition) → IsUsable table (catalog_of known s) (facts_here kind) it
    → IsSeen table (Some it) (view_here (catalog_of known s)) kind s
seen_here table known kind s it usable = record {
  it = table_here (catalog_of known s) it;
  found = some_here table (catalog_of known s) it usable.defined;
  defined = refl;
  engine = engine_is it.engine known.installed (facts_here kind) usable.served;
  rows = ap (λ (n : List ℕ). live_rows n s) (sym (defined_name table known.definitions it usable.defined));
}

-- It has a schema that is one.
pub schema_here : (table : List ℕ) (known : DictionaryState) (kind : Kind) (s : EngineState) (it : Definition) → AreSchemas known.definitions
    → IsUsable table (catalog_of known s) (facts_here kind) it → HasSchema table it.schema s
schema_here table known kind s it schemas usable = record {
  live = usable.live;
  schema = all_found (λ (d : Definition). IsSchema d.schema) (is_definition_of table) known.definitions it schemas usable.defined;
}

-- The engine has the table with this schema, or not.
pub schema_as : (o : Option Schema) (there schema : Schema) (same : Bool) → o ≡ Some there → same ≡ same_schema there schema → IsTrue same → o ≡ Some schema
schema_as o there schema same is told true_is = is ∙ ap Some (same_schema-true there schema (sym told ∙ true_is))

pub schema_other : (o : Option Schema) (there schema : Schema) (same : Bool) → o ≡ Some there → same ≡ same_schema there schema → same ≡ false → o ≢ Some schema
schema_other o there schema same is told isnt e =
    let alike : there ≡ schema = same_some (sym is ∙ e) in
    true_false (sym (same_schema_refl schema) ∙ ap (λ (x : Schema). same_schema x schema) (sym alike) ∙ sym told ∙ isnt)
  where
    true_false : true ≡ false → ⊥
    true_false e = cc

-- What is lent is there where what it is of is.
some_lent : {T : Type 0} (r : Option (Bor T)) → is_some (option_copied r) ≡ is_some r
some_lent None = refl
some_lent (Some x) = refl

pub lent_there : {T : Type 0} (r : Option (Bor T)) (o : Option T) (b : Bool) → option_copied r ≡ o → b ≡ is_some r → b ≡ true → IsTrue (is_some o)
lent_there r o b lent told true_is = ap is_some (sym lent) ∙ some_lent r ∙ sym told ∙ true_is

none_of : {T : Type 0} (o : Option T) → is_some o ≡ false → o ≡ None
none_of None is = refl
none_of (Some x) is = absurd cc

pub lent_none : {T : Type 0} (r : Option (Bor T)) (o : Option T) (b : Bool) → option_copied r ≡ o → b ≡ is_some r → b ≡ false → o ≡ None
lent_none r o b lent told isnt = none_of o (ap is_some (sym lent) ∙ some_lent r ∙ sym told ∙ isnt)
