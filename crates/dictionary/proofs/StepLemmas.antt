-- One step of a dictionary, by its definitions alone: what each change comes to where it applies, and where it does not.
use Rattle.std.proofs.Common.{◌≡◌, ◌+◌, ℕ, List, [], ◌∷◌, ◌++◌, Option, Result, Ok, Err, OnErr, Bool, true, false, cond, refl, sym, ap, ◌∙◌, ◌||◌, true≢false, ◌⊎◌, inl, inr}
use Rattle.std.specs.Prelude.{is_some, is_none, not, filter}
use Rattle.std.specs.Str.{bytes_eq}
use Rattle.std.specs.List.{list_any}
use Rattle.sql_value.specs.declared.value.Value.{Value}
use Rattle.row_format.specs.declared.change.TableMap.{TableMap}
use Rattle.row_format.specs.declared.schema.Schema.{Schema}
use Rattle.row_format.specs.declared.change.Change.{Change}
use Rattle.row_format.specs.declared.change.Change.TheVariants.{Install, Uninstall, Create, Drop, Insert, Update, Delete}
use Rattle.log_tables.specs.Changes.{installed_change}
use Rattle.dictionary.specs.Dictionary.{DictionaryState, bare_tables, definition_named, dictionary_change, raised, capped, HasEffect}
use Rattle.dictionary.proofs.DefinitionLemmas.{made, without_definition, definitions_change, takes_by, definitions_of-bare_tables, definitions_of-after_change, takes_effect-takes_by, is_none-is_some}

-- one dictionary is the change of another where its parts are those of the change
pub steps : (c : Change) (old new : DictionaryState) → new.definitions ≡ definitions_change c old.definitions → new.installed ≡ installed_change c old.installed
    → new.version ≡ raised (takes_by c old.definitions old.installed) old.version → new ≡ dictionary_change c old
steps c old new ds ns v =
    let bare = definitions_of-bare_tables old.definitions in
    let same = definitions_of-after_change c (bare_tables old.definitions) ∙ ap (definitions_change c) bare in
    let takes = takes_effect-takes_by c (bare_tables old.definitions) old.installed ∙ ap (λ xs. takes_by c xs old.installed) bare in
    let definitions = ds ∙ sym same in
    let version = v ∙ sym (ap (λ b. raised b old.version) takes) in
    λ i. record { definitions = definitions i; installed = ns i; version = version i }

-- a step of what is equal is a step
pub steps-on : (c : Change) (old now : DictionaryState) {new : DictionaryState} → old ≡ now → new ≡ dictionary_change c old → new ≡ dictionary_change c now
steps-on c old now same is = is ∙ ap (dictionary_change c) same

is_none-there : {X : Type 0} (r : Option X) (b : Bool) → is_some r ≡ b → is_none r ≡ not b
is_none-there r b e = is_none-is_some r ∙ ap not e

-- a table that is there is not created
pub kept-created : (table engine : List ℕ) (schema : Schema) (d : DictionaryState) → is_some (definition_named table d.definitions) ≡ true
    → d ≡ dictionary_change (Create table engine schema) d
kept-created table engine schema d there =
    steps (Create table engine schema) d d
    (sym (ap (λ b. cond b d.definitions (d.definitions ++ made table engine schema ∷ [])) there))
    refl
    (sym (ap (λ b. raised b d.version) (is_none-there (definition_named table d.definitions) true there)))

-- one that is not there is, at the end
pub steps-created : (table engine : List ℕ) (schema : Schema) (old new : DictionaryState) → is_some (definition_named table old.definitions) ≡ false
    → new.definitions ≡ old.definitions ++ made table engine schema ∷ [] → new.installed ≡ old.installed → new.version ≡ capped (old.version + 1)
    → new ≡ dictionary_change (Create table engine schema) old
steps-created table engine schema old new free ds ns v =
    steps (Create table engine schema) old new
    (ds ∙ sym (ap (λ b. cond b old.definitions (old.definitions ++ made table engine schema ∷ [])) free))
    ns
    (v ∙ sym (ap (λ b. raised b old.version) (is_none-there (definition_named table old.definitions) false free)))

-- a table that is dropped is left out
pub steps-dropped : (table : List ℕ) (old new : DictionaryState) (b : Bool) → is_some (definition_named table old.definitions) ≡ b
    → new.definitions ≡ without_definition table old.definitions → new.installed ≡ old.installed → new.version ≡ raised b old.version
    → new ≡ dictionary_change (Drop table) old
steps-dropped table old new b there ds ns v = steps (Drop table) old new ds ns (v ∙ sym (ap (λ x. raised x old.version) there))

-- an engine that is installed is not installed
pub kept-installed : (name : List ℕ) (d : DictionaryState) → list_any (bytes_eq name) d.installed ≡ true → d ≡ dictionary_change (Install name) d
kept-installed name d there =
    steps (Install name) d d refl
    (sym (ap (λ b. cond b d.installed (d.installed ++ name ∷ [])) there))
    (sym (ap (λ b. raised (not b) d.version) there))

-- one that is not is, at the end
pub steps-installed : (name : List ℕ) (old new : DictionaryState) → list_any (bytes_eq name) old.installed ≡ false
    → new.definitions ≡ old.definitions → new.installed ≡ old.installed ++ name ∷ [] → new.version ≡ capped (old.version + 1)
    → new ≡ dictionary_change (Install name) old
steps-installed name old new free ds ns v =
    steps (Install name) old new ds
    (ns ∙ sym (ap (λ b. cond b old.installed (old.installed ++ name ∷ [])) free))
    (v ∙ sym (ap (λ b. raised (not b) old.version) free))

-- where none passes the test, leaving out those that pass leaves all
pub filter-none : (test : List ℕ → Bool) (names : List (List ℕ)) → list_any test names ≡ false → filter (λ it. not (test it)) names ≡ names
filter-none test [] h = refl
filter-none test (n ∷ ns) h = both (test n) h (filter-none test ns)
  where
    rest : List (List ℕ)
    rest = filter (λ it. not (test it)) ns

    both : (b : Bool) → (b || list_any test ns) ≡ false → (list_any test ns ≡ false → rest ≡ ns) → cond (not b) (n ∷ rest) rest ≡ n ∷ ns
    both true h same = absurd (true≢false h)
    both false h same = ap (λ xs. n ∷ xs) (same h)

-- an engine that is not installed leaves all as it is
pub kept-uninstalled : (name : List ℕ) (d : DictionaryState) → list_any (bytes_eq name) d.installed ≡ false → d ≡ dictionary_change (Uninstall name) d
kept-uninstalled name d free =
    steps (Uninstall name) d d refl
    (sym (filter-none (bytes_eq name) d.installed free))
    (sym (ap (λ b. raised b d.version) free))

-- one that is installed is left out
pub steps-uninstalled : (name : List ℕ) (old new : DictionaryState) → list_any (bytes_eq name) old.installed ≡ true
    → new.definitions ≡ old.definitions → new.installed ≡ filter (λ it. not (bytes_eq name it)) old.installed → new.version ≡ capped (old.version + 1)
    → new ≡ dictionary_change (Uninstall name) old
steps-uninstalled name old new there ds ns v = steps (Uninstall name) old new ds ns (v ∙ sym (ap (λ b. raised b old.version) there))

-- a change of rows leaves all as it is
pub kept-rows : (c : Change) (d : DictionaryState)
    → ((map : TableMap) × (row : List Value) × (c ≡ Insert map row))
    ⊎ (((map : TableMap) × (place : ℕ) × (before : List Value) × (after : List Value) × (c ≡ Update map place before after))
    ⊎ ((map : TableMap) × (place : ℕ) × (before : List Value) × (c ≡ Delete map place before)))
    → d ≡ dictionary_change c d
kept-rows c d (inl h) = steps (Insert h.0 h.1) d d refl refl refl ∙ sym (ap (λ x. dictionary_change x d) h.2)
kept-rows c d (inr (inl h)) = steps (Update h.0 h.1 h.2 h.3) d d refl refl refl ∙ sym (ap (λ x. dictionary_change x d) h.4)
kept-rows c d (inr (inr h)) = steps (Delete h.0 h.1 h.2) d d refl refl refl ∙ sym (ap (λ x. dictionary_change x d) h.3)

-- whatever is answered, what holds holds after want of memory
pub after_any : {T E P : Type 0} (r : Result T E) → P → OnErr r P
after_any (Ok x) h = tt
after_any (Err e) h = h

-- a table whose name is free may be created
pub created-effect : (table engine : List ℕ) (schema : Schema) (d : DictionaryState) → is_some (definition_named table d.definitions) ≡ false
    → HasEffect (Create table engine schema) d
created-effect table engine schema d free =
    takes_effect-takes_by (Create table engine schema) (bare_tables d.definitions) d.installed
    ∙ ap (λ ds. is_none (definition_named table ds)) (definitions_of-bare_tables d.definitions)
    ∙ is_none-there (definition_named table d.definitions) false free
