-- What a dictionary tells of changes, after one more.
use Rattle.std.proofs.Common.{◌≡◌, ◌+◌, ℕ, List, [], ◌∷◌, ◌++◌, Bool, true, false, cond, refl, sym, ap, ◌∙◌, add_assoc, zero-add, add-zero, arith}
use Rattle.row_format.specs.declared.change.Change.{Change}
use Rattle.row_format.specs.declared.change.Transaction.{Transaction}
use Rattle.log_tables.specs.declared.table.Table.{Table}
use Rattle.log_tables.specs.Changes.{after_change, after_changes, after_all, installed_change, installed_changes, installed_all, installed_after}
use Rattle.log_tables.proofs.FoldLemmas.{after_changes-append}
use Rattle.dictionary.specs.Dictionary.{DictionaryState, definitions_of, bare_tables, takes_effect, capped, raised, dictionary_change, count_of_effects, Tells, changes_of}
use Rattle.dictionary.proofs.DefinitionLemmas.{definitions_change, takes_by, definitions_of-bare_tables, definitions_of-after_change, takes_effect-takes_by}

pub installed_changes-append : (cs ds : List Change) (ns : List (List ℕ)) → installed_changes (cs ++ ds) ns ≡ installed_changes ds (installed_changes cs ns)
installed_changes-append [] ds ns = refl
installed_changes-append (c ∷ cs) ds ns = installed_changes-append cs ds (installed_change c ns)

count_of_effects-push : (cs : List Change) (c : Change) (ts : List Table) (ns : List (List ℕ))
    → count_of_effects (cs ++ c ∷ []) ts ns ≡ count_of_effects cs ts ns + cond (takes_effect c (after_changes cs ts) (installed_changes cs ns)) 1 0
count_of_effects-push [] c ts ns = add-zero _ ∙ sym (zero-add _)
count_of_effects-push (it ∷ cs) c ts ns =
    ap (λ k. cond (takes_effect it ts ns) 1 0 + k) (count_of_effects-push cs c (after_change it ts) (installed_change it ns)) ∙ sym (add_assoc _ _ _)

raised-capped : (b : Bool) (n : ℕ) → raised b (capped n) ≡ capped (n + cond b 1 0)
raised-capped true n = omega arith
raised-capped false n = ap capped (sym (add-zero n))

-- the tables behind a dictionary's definitions, and those of the changes, have the same definitions
same_definitions : (cs : List Change) (d : DictionaryState) → Tells cs d → definitions_of (bare_tables d.definitions) ≡ definitions_of (after_changes cs [])
same_definitions cs d h = definitions_of-bare_tables d.definitions ∙ h.definitions

-- so a change takes effect on both or on neither
takes_effect-told : (cs : List Change) (c : Change) (d : DictionaryState) → Tells cs d
    → takes_effect c (bare_tables d.definitions) d.installed ≡ takes_effect c (after_changes cs []) (installed_changes cs (installed_after []))
takes_effect-told cs c d h =
    takes_effect-takes_by c (bare_tables d.definitions) d.installed
    ∙ ap (λ ds. takes_by c ds d.installed) (same_definitions cs d h)
    ∙ ap (takes_by c (definitions_of (after_changes cs []))) h.installed
    ∙ sym (takes_effect-takes_by c (after_changes cs []) (installed_changes cs (installed_after [])))

-- one more change is one step
pub Tells-push : (cs : List Change) (c : Change) (d : DictionaryState) → Tells cs d → Tells (cs ++ c ∷ []) (dictionary_change c d)
Tells-push cs c d h =
    let before = after_changes cs [] in
    let names = installed_changes cs (installed_after []) in
    let count = count_of_effects cs [] (installed_after []) in
    record {
      definitions = definitions_of-after_change c (bare_tables d.definitions)
          ∙ ap (definitions_change c) (same_definitions cs d h)
          ∙ sym (definitions_of-after_change c before)
          ∙ sym (ap definitions_of (after_changes-append cs (c ∷ []) []));
      installed = ap (installed_change c) h.installed ∙ sym (installed_changes-append cs (c ∷ []) (installed_after []));
      version = ap (raised (takes_effect c (bare_tables d.definitions) d.installed)) h.version
          ∙ ap (λ b. raised b (capped count)) (takes_effect-told cs c d h)
          ∙ raised-capped (takes_effect c before names) count
          ∙ sym (ap capped (count_of_effects-push cs c [] (installed_after [])));
    }

-- the changes of a log make the tables of the log
pub after_changes-changes_of : (log : List Transaction) (ts : List Table) → after_changes (changes_of log) ts ≡ after_all log ts
after_changes-changes_of [] ts = refl
after_changes-changes_of (it ∷ log) ts = after_changes-append it.changes (changes_of log) ts ∙ after_changes-changes_of log (after_changes it.changes ts)

-- and its installed engines
pub installed_changes-changes_of : (log : List Transaction) (ns : List (List ℕ)) → installed_changes (changes_of log) ns ≡ installed_all log ns
installed_changes-changes_of [] ns = refl
installed_changes-changes_of (it ∷ log) ns = installed_changes-append it.changes (changes_of log) ns ∙ installed_changes-changes_of log (installed_changes it.changes ns)
