-- Changes that are noted: what the dictionary has then, and what it tells.
use Rattle.std.proofs.Common.{◌≡◌, ℕ, List, [], ◌∷◌, ◌++◌, refl, sym, ◌∙◌, ap, subst, append_assoc}
use Rattle.std.proofs.lemmas.List.{append-nil}
use Rattle.row_format.specs.declared.change.Change.{Change}
use Rattle.log_tables.specs.declared.table.Definition.{Definition}
use Rattle.log_tables.specs.declared.table.Table.{Table}
use Rattle.log_tables.specs.Changes.{after_change, after_changes, installed_changes}
use Rattle.dictionary.specs.Dictionary.{DictionaryState, dictionary_change, definitions_of, bare_tables, Tells}
use Rattle.dictionary.proofs.DefinitionLemmas.{definitions_change, definitions_of-after_change, definitions_of-bare_tables}
use Rattle.dictionary.proofs.TellsLemmas.{Tells-push}
use Rattle.sql_step.specs.Catalogs.{Catalog}
use Rattle.plugd.specs.Asked.{catalog_after}
use Rattle.plugd.specs.Noting.{dictionary_after, HasCatalog}

-- tables of the same definitions have the same definitions after changes
pub definitions_alike : (cs : List Change) (ts us : List Table) → definitions_of ts ≡ definitions_of us → definitions_of (after_changes cs ts) ≡ definitions_of (after_changes cs us)
definitions_alike [] ts us same = same
definitions_alike (c ∷ cs) ts us same =
    definitions_alike cs (after_change c ts) (after_change c us) (definitions_of-after_change c ts ∙ ap (definitions_change c) same ∙ sym (definitions_of-after_change c us))

-- the definitions of a dictionary that noted changes
noted_definitions : (cs : List Change) (d : DictionaryState) → (dictionary_after cs d).definitions ≡ definitions_of (after_changes cs (bare_tables d.definitions))
noted_definitions [] d = sym (definitions_of-bare_tables d.definitions)
noted_definitions (c ∷ cs) d =
    let next = after_change c (bare_tables d.definitions) in
    noted_definitions cs (dictionary_change c d) ∙ definitions_alike cs (bare_tables (definitions_of next)) next (definitions_of-bare_tables (definitions_of next))

-- and its engines
noted_installed : (cs : List Change) (d : DictionaryState) → (dictionary_after cs d).installed ≡ installed_changes cs d.installed
noted_installed [] d = refl
noted_installed (c ∷ cs) d = noted_installed cs (dictionary_change c d)

-- A dictionary that has a catalog has the catalog after the changes that it notes.
pub has_noted : (cs : List Change) (d : DictionaryState) (here : Catalog) → HasCatalog d here → HasCatalog (dictionary_after cs d) (catalog_after cs here)
has_noted cs d here has = record {
  definitions = noted_definitions cs d ∙ ap (λ (ds : List Definition). definitions_of (after_changes cs (bare_tables ds))) has.definitions;
  installed = noted_installed cs d ∙ ap (installed_changes cs) has.installed;
}

-- It tells the changes that it told, followed by these.
pub tells_noted : (cs before : List Change) (d : DictionaryState) → Tells before d → Tells (before ++ cs) (dictionary_after cs d)
tells_noted [] before d tells = subst (λ (l : List Change). Tells l d) (sym (append-nil before)) tells
tells_noted (c ∷ cs) before d tells =
    subst (λ (l : List Change). Tells l (dictionary_after cs (dictionary_change c d))) (append_assoc before (c ∷ []) cs)
    (tells_noted cs (before ++ c ∷ []) (dictionary_change c d) (Tells-push before c d tells))
