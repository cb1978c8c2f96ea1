-- What a statement changes is the engine's, and applies to the tables of the log.
use Rattle.std.proofs.Common.{◌≡◌, ◌+◌, ℕ, zero, suc, List, [], ◌∷◌, length, map, Option, Some, None, Bool, true, false, cond, IsTrue, Result, Ok, refl, sym, ap, subst, ◌∙◌, arith}
use Rattle.std.specs.Prelude.{Err, Contains, ◌++◌, not, option_map, is_some, is_none, unwrap_or}
use Rattle.std.specs.Str.{bytes_eq}
use Rattle.std.proofs.lemmas.Slice.Eq.{bytes_eq-Decides}
use Rattle.sql_value.specs.declared.refusal.Refusal.{Refusal}
use Rattle.sql_value.specs.declared.refusal.Refusal.TheVariants.{DuplicateEntry, TableExists, NoSuchTable, UnknownEngine, SchemaUnsuitable, TransactionTooLarge}
use Rattle.sql_value.specs.declared.value.Value.{Value}
use Rattle.row_format.specs.declared.change.Change.{Change}
use Rattle.row_format.specs.declared.change.Change.TheVariants as change
use Rattle.row_format.specs.declared.change.TableMap.{TableMap}
use Rattle.row_format.specs.declared.schema.Schema.{Schema}
use Rattle.row_format.specs.Schemas.{same_schema}
use Rattle.row_format.specs.Rows.{row_refusal, first_of_two}
use Rattle.row_format.proofs.SameLemmas.{same_schema_refl}
use Rattle.log_tables.specs.declared.table.Definition.{Definition}
use Rattle.log_tables.specs.declared.table.Table.{Table}
use Rattle.log_tables.specs.Keys.{inserted}
use Rattle.log_tables.specs.Tables.{table_named, part_of, is_of}
use Rattle.log_tables.specs.Changes.{after_change, changed, with_rows, rows_after, takes, is_on, found_of, changes_on, EachApplies, Applies}
use Rattle.log_tables.proofs.PartLemmas.{cond_true, table_named-part}
use Rattle.engine_api.specs.Live.{allows, is_key_taken, rows_found}
use Rattle.sql_text.specs.declared.statement.Cond.{Cond}
use Rattle.sql_text.specs.declared.statement.Literals.{Literals}
use Rattle.sql_text.specs.declared.statement.Statement.{Statement}
use Rattle.sql_text.specs.declared.statement.Statement.TheVariants as statement
use Rattle.sql_plan.specs.Plans.{plan_refusal, schema_of, unless}
use Rattle.sql_effect.specs.declared.shape.Effect.{Effect}
use Rattle.sql_effect.specs.declared.shape.EngineFacts.{EngineFacts}
use Rattle.sql_effect.specs.declared.shape.Sizes.{Sizes}
use Rattle.sql_effect.specs.declared.shape.View.{View}
use Rattle.sql_effect.specs.Effects.{use_effect, planned_effect, table_effect, insert_effect, select_effect, create_effect, create_in, made_effect, engine_named, makes, counts, answers, map_of, sized}
use Rattle.sql_effect.specs.Insert.{written, inserts, insert_refusal, inserts_refusal, place_refusal}
use Rattle.sql_effect.specs.Rewrite.{refused_or}
use Rattle.sql_effect.specs.Sizes.{row_bytes, room_refusal, size_refusal}
use Rattle.sql_effect.proofs.EffectLemmas.{schema_suits}
use Rattle.sql_effect.proofs.OrderLemmas.{refused_none, refused_first, free_if, insert_goes_on}
use Rattle.sql_exec.proofs.InsertLemmas.{inserted_free}
use Rattle.sql_exec.proofs.TableLemmas.{found_changed}
use Rattle.dictionary.specs.Dictionary.{definition_named, definitions_of}
use Rattle.dictionary.proofs.DefinitionLemmas.{definition_named-definitions_of}
use Rattle.sql_step.specs.Catalogs.{Catalog, table_here, view_here, sizes_here, effect_here, rows_here, serves}
use Rattle.sql_step.specs.declared.outcome.Outcome.TheVariants as outcome
use Rattle.sql_step.specs.Logs.{IsOf, AreOwn, AreAllowed, IsOnTables}
use Rattle.sql_step.specs.Steps.{ComesTo}
use Rattle.sql_step.proofs.LookLemmas.{named_here, same_some, defined_name, engine_is, engine_here}

not_ok : {it : Effect} {r : Refusal} → Err r ≡ Ok it → ⊥
not_ok e = cc

bytes_refl : (a : List ℕ) → bytes_eq a a ≡ true
bytes_refl a = (bytes_eq-Decides a a).1 refl

-- what is not refused
granted : (o : Option Refusal) (r : Result Effect Refusal) (it : Effect) → refused_or o r ≡ Ok it → (o ≡ None) × (r ≡ Ok it)
granted None r it is = (refl, is)
granted (Some x) r it is = absurd (not_ok is)

abbrev done : Effect → Result Effect Refusal
done it = Ok it

same_ok : (a b : Effect) → done a ≡ done b → a ≡ b
same_ok a b e = cc

-- A statement that uses a table, and is not refused.
record Used (catalog : Catalog) (facts : EngineFacts) (table : List ℕ) (asks : Statement) (it : Effect) : Type 0 where
  d : Definition
  defined : definition_named table catalog.definitions ≡ Some d
  served : IsTrue (serves d.engine catalog.installed facts)
  planned : plan_refusal asks (Some d) facts.flags ≡ None
  effect : table_effect facts (sizes_here catalog) (table_here catalog d) asks ≡ Ok it

used : (catalog : Catalog) (facts : EngineFacts) (table : List ℕ) (asks : Statement) (it : Effect)
    → use_effect (facts ∷ []) (view_here catalog) (sizes_here catalog) (table_named table (view_here catalog).tables) asks ≡ Ok it → Used catalog facts table asks it
used catalog facts table asks it is = at_name (definition_named table catalog.definitions) refl
  where
    sizes : Sizes
    sizes = sizes_here catalog

    at_engine : (d : Definition) → definition_named table catalog.definitions ≡ Some d → (b : Bool) → serves d.engine catalog.installed facts ≡ b
        → planned_effect (cond b (Some facts) None) sizes (table_here catalog d) asks ≡ Ok it → Used catalog facts table asks it
    at_engine d there false other is = absurd (not_ok is)
    at_engine d there true ours is =
        let both = granted (plan_refusal asks (Some d) facts.flags) (table_effect facts sizes (table_here catalog d) asks) it is in
        record { d = d; defined = there; served = ours; planned = both.0; effect = both.1 }

    at_name : (o : Option Definition) → definition_named table catalog.definitions ≡ o → Used catalog facts table asks it
    at_name None free =
        absurd (not_ok (sym (ap (λ (t : Option Table). use_effect (facts ∷ []) (view_here catalog) sizes t asks) (named_here table catalog catalog.definitions ∙ ap (option_map (table_here catalog)) free)) ∙ is))
    at_name (Some d) there =
        at_engine d there (serves d.engine catalog.installed facts) refl
        (sym (ap (λ (t : Option Table). use_effect (facts ∷ []) (view_here catalog) sizes t asks) (named_here table catalog catalog.definitions ∙ ap (option_map (table_here catalog)) there)
        ∙ ap (λ (e : Option EngineFacts). planned_effect e sizes (table_here catalog d) asks) (engine_here d.engine catalog facts)) ∙ is)

-- The table that a definition is of, in the log.
record InLog (tables : List Table) (name : List ℕ) (catalog : Catalog) (d : Definition) : Type 0 where
  t : Table
  found : table_named d.table tables ≡ Some t
  is : t.definition ≡ d
  ours : is_of name t ≡ true
  rows : rows_here d.table catalog ≡ t.rows

mapped : {A B : Type 0} (f : A → B) (o : Option A) (b : B) → option_map f o ≡ Some b → (a : A) × (o ≡ Some a) × (f a ≡ b)
mapped f None b is = absurd cc
mapped f (Some a) b is = (a, refl, same_some is)

in_log : (tables : List Table) (catalog : Catalog) (facts : EngineFacts) (table : List ℕ) (asks : Statement) (it : Effect) → IsOf tables facts.name catalog → (u : Used catalog facts table asks it)
    → InLog tables facts.name catalog u.d
in_log tables catalog facts table asks it log u =
    let d = u.d in
    let named : d.table ≡ table = defined_name table catalog.definitions d u.defined in
    let at = sym (definition_named-definitions_of table tables) ∙ ap (definition_named table) (sym log.definitions) ∙ u.defined in
    let is = mapped (λ (x : Table). x.definition) (table_named table tables) d at in
    let there : table_named d.table tables ≡ Some is.0 = ap (λ (n : List ℕ). table_named n tables) named ∙ is.1 in
    let own : is_of facts.name is.0 ≡ true = ap (λ (x : Definition). bytes_eq x.engine facts.name) is.2 ∙ subst (λ (n : List ℕ). bytes_eq n facts.name ≡ true) (sym (engine_is d.engine catalog.installed facts u.served)) (bytes_refl facts.name) in
    record {
      t = is.0;
      found = there;
      is = is.2;
      ours = own;
      rows = ap (λ (l : List Table). rows_found (table_named d.table l)) log.live
          ∙ ap rows_found (table_named-part facts.name d.table tables (ap (found_of facts.name) there ∙ own) ∙ there);
    }

-- One change on a table of the engine.
one_own : (e : List ℕ) (c : Change) (ts : List Table) → is_on e c ts ≡ true → Applies c ts → AreOwn e (c ∷ []) ts
one_own e c ts on applies = record { own = cond_true (is_on e c ts) (c ∷ []) [] on; apply = ((λ ours. applies), tt) }

-- Rows that are inserted one after the other.
rows_own : (e : List ℕ) (t : Table) (live : ℕ) (rows : List (List Value)) (ts : List Table) → table_named t.definition.table ts ≡ Some t → is_of e t ≡ true
    → inserts_refusal true t.definition.schema live t.rows rows ≡ None → AreOwn e (inserts (map_of t.definition) rows) ts
rows_own e t live [] ts found ours none = record { own = refl; apply = tt }
rows_own e t live (it ∷ rest) ts found ours none =
    let schema = t.definition.schema in
    let c = change.Insert (map_of t.definition) it in
    let first = refused_first (insert_refusal true schema live t.rows it) (inserts_refusal true schema (live + row_bytes it) (t.rows ++ it ∷ []) rest) none in
    let placed = refused_none (row_refusal schema it) (place_refusal schema.key t.rows it (live + row_bytes it)) first in
    let free = free_if (is_key_taken schema.key t.rows it) DuplicateEntry
    (refused_first (unless (not (is_key_taken schema.key t.rows it)) DuplicateEntry) (room_refusal (live + row_bytes it)) placed) in
    let now = unwrap_or (inserted schema.key it t.rows) t.rows in
    let u : Table = record { definition = t.definition; rows = now } in
    let after : rows_after c t ≡ Some now = cond_true (same_schema schema schema) (inserted schema.key it t.rows) None (same_schema_refl schema) ∙ inserted_free schema.key it t.rows free in
    let makes : changed c t ≡ u ∷ [] = ap (λ (o : Option (List (List Value))). with_rows t o ∷ []) after in
    let on : is_on e c ts ≡ true = ap (found_of e) found ∙ ours in
    let next = rows_own e u (live + row_bytes it) rest (after_change c ts) (found_changed t.definition.table (changed c) t u ts found makes refl) ours
    (sym (insert_goes_on schema live t.rows it rest first) ∙ none) in
    record {
      own = cond_true (is_on e c ts) (c ∷ changes_on e (inserts (map_of t.definition) rest) (after_change c ts)) (changes_on e (inserts (map_of t.definition) rest) (after_change c ts)) on
          ∙ ap (λ (l : List Change). c ∷ l) next.own;
      apply = ((λ own. ap (takes c) found ∙ ap is_some after), next.apply);
    }

-- An INSERT.
insert_own : (tables : List Table) (catalog : Catalog) (facts : EngineFacts) (table : List ℕ) (rows : List Literals) (it : Effect) → IsOf tables facts.name catalog → facts.keeps_rows ≡ true
    → Used catalog facts table (statement.Insert table rows) it → AreOwn facts.name it.changes tables
insert_own tables catalog facts table rows it log keeps u =
    let d = u.d in
    let log_has = in_log tables catalog facts table (statement.Insert table rows) it log u in
    let t = log_has.t in
    let live = (sizes_here catalog).live in
    let first = granted (inserts_refusal facts.keeps_rows d.schema live (rows_here d.table catalog) (written rows)) (sized (sizes_here catalog) (inserts (map_of d) (written rows))) it u.effect in
    let last = granted (size_refusal 0 (inserts (map_of d) (written rows))) (Ok (counts (inserts (map_of d) (written rows)))) it first.1 in
    let same : inserts (map_of t.definition) (written rows) ≡ it.changes =
    ap (λ (x : Definition). inserts (map_of x) (written rows)) log_has.is ∙ ap (λ (x : Effect). x.changes) (same_ok (counts (inserts (map_of d) (written rows))) it last.1) in
    let none : inserts_refusal true t.definition.schema live t.rows (written rows) ≡ None =
    ap (λ (x : Definition). inserts_refusal true x.schema live t.rows (written rows)) log_has.is
    ∙ ap (λ (l : List (List Value)). inserts_refusal true d.schema live l (written rows)) (sym log_has.rows)
    ∙ ap (λ (b : Bool). inserts_refusal b d.schema live (rows_here d.table catalog) (written rows)) (sym keeps) ∙ first.0 in
    let found : table_named t.definition.table tables ≡ Some t = ap (λ (x : Definition). table_named x.table tables) log_has.is ∙ log_has.found in
    subst (λ (l : List Change). AreOwn facts.name l tables) same (rows_own facts.name t live (written rows) tables found log_has.ours none)

-- A SELECT.
select_changes : (table : Table) (names : Option (List (List ℕ))) (where_is : Option Cond) (it : Effect) → select_effect table names where_is ≡ Ok it → it.changes ≡ []
select_changes table names where_is it is = ap (λ (x : Effect). x.changes) (sym (same_ok _ it (granted _ _ it is).1))

none_own : (e : List ℕ) (cs : List Change) (ts : List Table) → cs ≡ [] → AreOwn e cs ts
none_own e cs ts is = subst (λ (l : List Change). AreOwn e l ts) (sym is) (record { own = refl; apply = tt })

-- A CREATE that is not refused.
record Made (catalog : Catalog) (facts : EngineFacts) (table engine : List ℕ) (asks : Statement) (it : Effect) : Type 0 where
  free : definition_named table catalog.definitions ≡ None
  served : IsTrue (serves engine catalog.installed facts)
  schema : Schema
  planned : schema_of asks None facts.flags ≡ Some schema
  is : it.changes ≡ change.Create table engine schema ∷ []

made : (catalog : Catalog) (facts : EngineFacts) (table engine : List ℕ) (asks : Statement) (it : Effect)
    → create_effect (facts ∷ []) (view_here catalog) (sizes_here catalog) table engine asks ≡ Ok it → Made catalog facts table engine asks it
made catalog facts table engine asks it is =
    let outer = granted (unless (is_none (table_named table (view_here catalog).tables)) TableExists) (create_in (engine_named engine (facts ∷ []) (view_here catalog)) sizes table engine asks) it is in
    at_name (definition_named table catalog.definitions) refl outer.0 outer.1
  where
    sizes : Sizes
    sizes = sizes_here catalog

    at_schema : definition_named table catalog.definitions ≡ None → IsTrue (serves engine catalog.installed facts) → (o : Option Schema) → schema_of asks None facts.flags ≡ o
        → made_effect sizes table engine o ≡ Ok it → Made catalog facts table engine asks it
    at_schema free ours None planned is = absurd (not_ok is)
    at_schema free ours (Some schema) planned is = record {
      free = free;
      served = ours;
      schema = schema;
      planned = planned;
      is = ap (λ (x : Effect). x.changes) (sym (same_ok _ it (granted _ _ it is).1));
    }

    at_engine : definition_named table catalog.definitions ≡ None → (b : Bool) → serves engine catalog.installed facts ≡ b → create_in (cond b (Some facts) None) sizes table engine asks ≡ Ok it
        → Made catalog facts table engine asks it
    at_engine free false other is = absurd (not_ok is)
    at_engine free true ours is =
        at_schema free ours (schema_of asks None facts.flags) refl (granted (plan_refusal asks None facts.flags) (made_effect sizes table engine (schema_of asks None facts.flags)) it is).1

    not_free : (d : Definition) → definition_named table catalog.definitions ≡ Some d → unless (is_none (table_named table (view_here catalog).tables)) TableExists ≡ None → ⊥
    not_free d there none = none_some (sym (ap (λ (t : Option Table). unless (is_none t) TableExists) (named_here table catalog catalog.definitions ∙ ap (option_map (table_here catalog)) there)) ∙ none)
      where
        none_some : Some TableExists ≡ None → ⊥
        none_some e = cc

    at_name : (o : Option Definition) → definition_named table catalog.definitions ≡ o → unless (is_none (table_named table (view_here catalog).tables)) TableExists ≡ None
        → create_in (engine_named engine (facts ∷ []) (view_here catalog)) sizes table engine asks ≡ Ok it → Made catalog facts table engine asks it
    at_name None free none is =
        at_engine free (serves engine catalog.installed facts) refl (sym (ap (λ (e : Option EngineFacts). create_in e sizes table engine asks) (engine_here engine catalog facts)) ∙ is)
    at_name (Some d) there none is = absurd (not_free d there none)

create_own : (tables : List Table) (catalog : Catalog) (facts : EngineFacts) (table engine : List ℕ) (asks : Statement) (it : Effect) → IsOf tables facts.name catalog
    → Made catalog facts table engine asks it → AreOwn facts.name it.changes tables
create_own tables catalog facts table engine asks it log m =
    let c = change.Create table engine m.schema in
    let at = sym (definition_named-definitions_of table tables) ∙ ap (definition_named table) (sym log.definitions) ∙ m.free in
    let on = subst (λ (n : List ℕ). bytes_eq n facts.name ≡ true) (sym (engine_is engine catalog.installed facts m.served)) (bytes_refl facts.name) in
    subst (λ (l : List Change). AreOwn facts.name l tables) (sym m.is) (one_own facts.name c tables on (unmapped (table_named table tables) at))
  where
    unmapped : (o : Option Table) → option_map (λ (x : Table). x.definition) o ≡ None → is_none o ≡ true
    unmapped None is = refl
    unmapped (Some x) is = absurd cc

-- What a statement changes is the engine's, and applies.
pub changes_own : (tables : List Table) (catalog : Catalog) (facts : EngineFacts) (asks : Statement) (it : Effect) → IsOf tables facts.name catalog → facts.keeps_rows ≡ true → IsOnTables asks
    → effect_here catalog facts asks ≡ Ok it → AreOwn facts.name it.changes tables
changes_own tables catalog facts (statement.Create table items engine) it log keeps on is =
    create_own tables catalog facts table engine (statement.Create table items engine) it log (made catalog facts table engine (statement.Create table items engine) it is)
changes_own tables catalog facts (statement.Drop table) it log keeps on is =
    let u = used catalog facts table (statement.Drop table) it is in
    let log_has = in_log tables catalog facts table (statement.Drop table) it log u in
    let found = ap (λ (n : List ℕ). table_named n tables) (sym (defined_name table catalog.definitions u.d u.defined)) ∙ log_has.found in
    subst (λ (l : List Change). AreOwn facts.name l tables) (ap (λ (x : Effect). x.changes) (same_ok (makes (change.Drop table)) it u.effect))
    (one_own facts.name (change.Drop table) tables (ap (found_of facts.name) found ∙ log_has.ours) (ap is_some found))
changes_own tables catalog facts (statement.Insert table rows) it log keeps on is =
    insert_own tables catalog facts table rows it log keeps (used catalog facts table (statement.Insert table rows) it is)
changes_own tables catalog facts (statement.Select table names where_is) it log keeps on is =
    let u = used catalog facts table (statement.Select table names where_is) it is in
    none_own facts.name it.changes tables (select_changes (table_here catalog u.d) names where_is it u.effect)
changes_own tables catalog facts _ it log keeps on is = absurd on

-- No change of rows makes a table.

only : (c d : Change) → Contains (c ∷ []) d → d ≡ c
only c d (zero, lt, is) = sym is
only c d (suc n, lt, is) = absurd (omega (arith, lt))

nothing_in : (d : Change) → Contains [] d → ⊥
nothing_in d (n, lt, is) = omega (arith, lt)

no_create : (map_of : TableMap) (rows : List (List Value)) (table engine : List ℕ) (schema : Schema) → Contains (inserts map_of rows) (change.Create table engine schema) → ⊥
no_create map_of [] table engine schema has = nothing_in _ has
no_create map_of (row ∷ rows) table engine schema (zero, lt, is) = cc
no_create map_of (row ∷ rows) table engine schema (suc n, lt, is) = no_create map_of rows table engine schema (n, omega (arith, lt), is)

drop_makes_none : (name table engine : List ℕ) (schema : Schema) → change.Create table engine schema ≡ change.Drop name → ⊥
drop_makes_none name table engine schema e = cc

create_schema : (a b c d : List ℕ) (s x : Schema) → change.Create a b s ≡ change.Create c d x → s ≡ x
create_schema a b c d s x e = cc

-- The engine allows each table that a statement makes.
pub changes_allowed : (catalog : Catalog) (facts : EngineFacts) (asks : Statement) (it : Effect) → IsOnTables asks → effect_here catalog facts asks ≡ Ok it → AreAllowed facts it.changes
changes_allowed catalog facts (statement.Create table items engine) it on is = λ name schema has.
    let asks = statement.Create table items engine in
    let m = made catalog facts table engine asks it is in
    let same = create_schema name facts.name table engine schema m.schema (only (change.Create table engine m.schema) (change.Create name facts.name schema) (subst (λ (l : List Change). Contains l (change.Create name facts.name schema)) m.is has)) in
    subst (λ (x : Schema). allows facts.flags x ≡ true) (sym same) (schema_suits asks facts.flags m.schema m.planned)
changes_allowed catalog facts (statement.Drop table) it on is = λ name schema has.
    let u = used catalog facts table (statement.Drop table) it is in
    absurd (drop_makes_none table name facts.name schema (only (change.Drop table) (change.Create name facts.name schema)
    (subst (λ (l : List Change). Contains l (change.Create name facts.name schema)) (sym (ap (λ (x : Effect). x.changes) (same_ok (makes (change.Drop table)) it u.effect))) has)))
changes_allowed catalog facts (statement.Insert table rows) it on is = λ name schema has.
    let u = used catalog facts table (statement.Insert table rows) it is in
    let first = granted _ (sized (sizes_here catalog) (inserts (map_of u.d) (written rows))) it u.effect in
    let last = granted (size_refusal 0 (inserts (map_of u.d) (written rows))) (Ok (counts (inserts (map_of u.d) (written rows)))) it first.1 in
    absurd (no_create (map_of u.d) (written rows) name facts.name schema
    (subst (λ (l : List Change). Contains l (change.Create name facts.name schema)) (sym (ap (λ (x : Effect). x.changes) (same_ok (counts (inserts (map_of u.d) (written rows))) it last.1))) has))
changes_allowed catalog facts (statement.Select table names where_is) it on is = λ name schema has.
    let u = used catalog facts table (statement.Select table names where_is) it is in
    absurd (nothing_in (change.Create name facts.name schema) (subst (λ (l : List Change). Contains l (change.Create name facts.name schema)) (select_changes (table_here catalog u.d) names where_is it u.effect) has))
changes_allowed catalog facts _ it on is = absurd on

-- What no engine has is the installation of one.
noted_same : (a b : List Change) → outcome.Noted a ≡ outcome.Noted b → a ≡ b
noted_same a b e = cc

install_changed : (o : Option Refusal) (name : List ℕ) (it : Effect) → refused_or o (Ok (makes (change.Install name))) ≡ Ok it → it.changes ≡ change.Install name ∷ []
install_changed o name it is = ap (λ (x : Effect). x.changes) (sym (same_ok (makes (change.Install name)) it (granted o _ it is).1))

pub one_noted : (catalog : Catalog) (facts : EngineFacts) (asks : Statement) (changes : List Change) → ComesTo catalog facts asks (outcome.Noted changes)
    → (name : List ℕ) × (changes ≡ change.Install name ∷ [])
one_noted catalog facts (statement.Install name soname) changes is = (name, noted_same changes is.it.changes is.is ∙ install_changed _ name is.it (is.effect tt))
one_noted catalog facts (statement.Create table items engine) changes is = let e = is.is in absurd cc
one_noted catalog facts (statement.Drop table) changes is = let e = is.is in absurd cc
one_noted catalog facts (statement.Insert table rows) changes is = let e = is.is in absurd cc
one_noted catalog facts (statement.Select table names where_is) changes is = let e = is.is in absurd cc
one_noted catalog facts _ changes is = absurd (is.built tt)
