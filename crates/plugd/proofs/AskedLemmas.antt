-- What a text changes that was carried out: it applies to the log's tables, it is the engine's, and the catalog goes on with the log.
use Rattle.std.proofs.Common.{◌≡◌, ℕ, List, [], ◌∷◌, ◌++◌, Option, Some, None, Bool, true, false, Result, Ok, refl, sym, ◌∙◌, ap, subst}
use Rattle.std.specs.Prelude.{Contains}
use Rattle.row_format.specs.declared.schema.Schema.{Schema}
use Rattle.row_format.specs.declared.change.Change.{Change}
use Rattle.row_format.specs.declared.change.Change.TheVariants as change
use Rattle.row_format.specs.declared.change.Transaction.{Transaction}
use Rattle.log_tables.specs.Tables.{part_of}
use Rattle.log_tables.specs.Changes.{tables_after}
use Rattle.log_tables.proofs.FoldLemmas.{IsDictionary-tables_after}
use Rattle.engine_api.specs.declared.flags.Flags.{Flags}
use Rattle.engine_api.specs.Live.{allows}
use Rattle.engine_api.specs.States.{Kind}
use Rattle.recovery_rules.specs.Recovery.{Suits}
use Rattle.volume_rules.proofs.ListLemmas.{only_one, not_on_none}
use Rattle.sql_text.specs.declared.statement.Statement.{Statement}
use Rattle.sql_text.specs.declared.statement.Statement.TheVariants as statement
use Rattle.sql_effect.specs.declared.shape.Effect.{Effect}
use Rattle.sql_step.specs.declared.outcome.Outcome.{Outcome}
use Rattle.sql_step.specs.declared.outcome.Outcome.TheVariants.{Rows, Changed, Noted}
use Rattle.sql_step.specs.Catalogs.{Catalog, effect_here, IsInOrderHere}
use Rattle.sql_step.specs.Logs.{IsOf, AreOwn, IsOnTables}
use Rattle.sql_step.specs.Outcomes.{outcome_of, IsLoggable, AreLoggable}
use Rattle.sql_step.specs.Steps.{IsUnbuilt, ComesTo}
use Rattle.sql_step.proofs.LawLemmas.{changes_own, changes_allowed, one_noted}
use Rattle.plugd.specs.Asked.{Work, Comes, catalog_after, changes_in, changes_by, engine_facts, engine_name, is_prepared_for}
use Rattle.plugd.specs.Play.{Makes}
use Rattle.plugd.specs.Serve.{IsCatalogOf, IsJournal}
use Rattle.plugd.specs.Way.{Past, CanLog, IsGranted}
use Rattle.plugd.proofs.DictionaryLemmas.{catalog_on}

-- What no engine has of a text is the installation of one engine.
pub noted_one : (text : List ℕ) (here : Catalog) (changes : List Change) → Comes text here (Noted changes) → (name : List ℕ) × (changes ≡ change.Install name ∷ [])
noted_one text here changes comes = one_noted here engine_facts comes.asks changes comes.holds

-- What an engine has of a text is on tables.
on_tables : (asks : Statement) (it : Effect) (count : ℕ) (changes : List Change) → (IsUnbuilt asks → ⊥) → Changed count changes ≡ outcome_of asks it
    → IsOnTables asks × (it.changes ≡ changes) × ((here : Catalog) → IsInOrderHere here asks)
on_tables (statement.Create table items engine) it count changes built is = (tt, cc, λ here. tt)
on_tables (statement.Drop table) it count changes built is = (tt, cc, λ here. tt)
on_tables (statement.Insert table rows) it count changes built is = (tt, cc, λ here. tt)
on_tables (statement.Select table names where_is) it count changes built is = absurd cc
on_tables (statement.Install name soname) it count changes built is = absurd cc
on_tables _ it count changes built is = absurd (built tt)

-- the engine's flags allow what is made
journal_suits : (kind : Kind) (changes : List Change) → IsJournal kind
    → ((table : List ℕ) (schema : Schema) → Contains changes (change.Create table engine_name schema) → allows engine_facts.flags schema ≡ true) → Suits kind.name (allows kind.flags) changes
journal_suits kind changes is each = record {
  allowed = λ table schema on.
      subst (λ (f : Flags). allows f schema ≡ true) (sym is.flags) (each table schema (subst (λ (n : List ℕ). Contains changes (change.Create table n schema)) is.name on));
}

install_makes_none : (name table engine : List ℕ) (schema : Schema) → Contains (change.Install name ∷ []) (change.Create table engine schema) → ⊥
install_makes_none name table engine schema on = let one = only_one (change.Install name) (change.Create table engine schema) on in cc

true_false : {A : Type 0} → true ≡ false → A
true_false e = cc

-- A log with this catalog can have what a text has come to.
can_log : (here : Catalog) (text : List ℕ) (outcome : Outcome) → Comes text here outcome → CanLog here (record { text = text; outcome = outcome }) (changes_in outcome)
can_log here text (Rows rows) comes = record {
  suits = λ kind is. journal_suits kind [] is (λ table schema on. absurd (not_on_none (change.Create table engine_name schema) on));
  own = λ touches log is live. true_false (sym touches);
}
can_log here text (Changed count changes) comes =
    let it = comes.holds.it in
    let on = on_tables comes.asks it count changes comes.holds.built comes.holds.is in
    let is = comes.holds.effect (on.2 here) in
    record {
      suits = λ kind journal. journal_suits kind changes journal
          (λ table schema has. changes_allowed here engine_facts comes.asks it on.0 is table schema (subst (λ (l : List Change). Contains l (change.Create table engine_name schema)) (sym on.1) has));
      own = λ touches log of_log live. subst (λ (l : List Change). AreOwn engine_name l (tables_after log)) on.1
          (changes_own (tables_after log) here engine_facts comes.asks it
          (record { distinct = IsDictionary-tables_after log; definitions = of_log.definitions; live = live }) refl on.0 is);
    }
can_log here text (Noted changes) comes =
    let one = noted_one text here changes comes in
    record {
      suits = λ kind journal. journal_suits kind changes journal
          (λ table schema has. absurd (install_makes_none one.0 table engine_name schema (subst (λ (l : List Change). Contains l (change.Create table engine_name schema)) one.1 has)));
      own = λ touches log is live. true_false (sym touches);
    }

-- What a text has come to is granted.
pub granted_now : (past : Past) (text : List ℕ) (outcome : Outcome) → Comes text past.state.catalog outcome → AreLoggable (changes_in outcome)
    → IsGranted past (record { text = text; outcome = outcome }) (changes_in outcome)
granted_now past text outcome comes loggable = record {
  makes = record { comes = comes; all = refl; some = loggable.some };
  fit = loggable.fit;
  few = loggable.few;
  can = can_log past.state.catalog text outcome comes;
}

-- The catalog goes on with the log.
pub catalog_goes : (log : List Transaction) (t : Transaction) (here : Catalog) → IsCatalogOf log here → IsCatalogOf (log ++ t ∷ []) (catalog_after t.changes here)
catalog_goes log t here is = catalog_on log t here is
