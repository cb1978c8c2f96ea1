-- The dictionary of a log, and its catalog: they go on with the log.
use Rattle.std.proofs.Common.{◌≡◌, ℕ, List, [], ◌∷◌, ◌++◌, refl, sym, ◌∙◌, ap, append_assoc}
use Rattle.std.proofs.lemmas.List.{append-nil}
use Rattle.row_format.specs.declared.change.Change.{Change}
use Rattle.row_format.specs.declared.change.Transaction.{Transaction}
use Rattle.log_tables.specs.declared.table.Table.{Table}
use Rattle.log_tables.specs.Changes.{installed_changes, installed_after, tables_after}
use Rattle.log_tables.proofs.FoldLemmas.{tables_after-append, installed_after-append}
use Rattle.dictionary.specs.Dictionary.{DictionaryState, definitions_of, bare_tables, Tells, changes_of}
use Rattle.dictionary.proofs.DefinitionLemmas.{definitions_of-bare_tables}
use Rattle.dictionary.proofs.TellsLemmas.{after_changes-changes_of, installed_changes-changes_of}
use Rattle.sql_step.specs.Catalogs.{Catalog}
use Rattle.plugd.specs.Asked.{catalog_after}
use Rattle.plugd.specs.Serve.{IsCatalogOf}
use Rattle.plugd.proofs.NotingLemmas.{definitions_alike}

-- the changes of a log with one transaction more
pub changes_of-push : (log : List Transaction) (t : Transaction) → changes_of (log ++ t ∷ []) ≡ changes_of log ++ t.changes
changes_of-push [] t = append-nil t.changes
changes_of-push (it ∷ log) t = ap (λ (l : List Change). it.changes ++ l) (changes_of-push log t) ∙ sym (append_assoc it.changes (changes_of log) t.changes)

-- A dictionary that tells the changes of a log has the catalog of the log.
pub told_catalog : (log : List Transaction) (d : DictionaryState) (live : List Table) → Tells (changes_of log) d
    → IsCatalogOf log (record { definitions = d.definitions; installed = d.installed; live = live })
told_catalog log d live tells = record {
  definitions = tells.definitions ∙ ap definitions_of (after_changes-changes_of log []);
  installed = tells.installed ∙ installed_changes-changes_of log (installed_after []);
}

-- The catalog goes on with the log.
pub catalog_on : (log : List Transaction) (t : Transaction) (here : Catalog) → IsCatalogOf log here → IsCatalogOf (log ++ t ∷ []) (catalog_after t.changes here)
catalog_on log t here is = record {
  definitions = definitions_alike t.changes (bare_tables here.definitions) (tables_after log) (definitions_of-bare_tables here.definitions ∙ is.definitions)
      ∙ sym (ap definitions_of (tables_after-append log t));
  installed = ap (installed_changes t.changes) is.installed ∙ sym (installed_after-append log t);
}
