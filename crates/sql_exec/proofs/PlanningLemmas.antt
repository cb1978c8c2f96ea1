-- An idle engine can carry out what was planned for its tables, and what a statement does to it is what it does to the view.
use Rattle.std.proofs.Common.{◌≡◌, ℕ, List, [], ◌∷◌, Option, Some, None, Bool, true, false, cond, IsTrue, refl, sym, ap, subst, ◌∙◌}
use Rattle.std.specs.Prelude.{Err, is_some, is_none, option_map}
use Rattle.std.specs.List.{list_any}
use Rattle.std.proofs.lemmas.Slice.Eq.{bytes_eq-Decides}
use Rattle.sql_value.specs.declared.refusal.Refusal.{Refusal}
use Rattle.sql_value.specs.declared.refusal.Refusal.TheVariants.{TableExists}
use Rattle.sql_value.specs.declared.value.Value.{Value}
use Rattle.row_format.specs.declared.change.Change.{Change}
use Rattle.row_format.specs.declared.change.Change.TheVariants as change
use Rattle.row_format.specs.declared.schema.Schema.{Schema}
use Rattle.log_tables.specs.declared.gist.Prepared.{Prepared}
use Rattle.log_tables.specs.declared.table.Definition.{Definition}
use Rattle.log_tables.specs.declared.table.Table.{Table}
use Rattle.log_tables.specs.Tables.{table_named, is_named}
use Rattle.engine_api.specs.declared.flags.Flags.{Flags}
use Rattle.engine_api.specs.States.{Kind, EngineState, Pending, live_tables, pending_of, without_txn, changes_in, xid_by}
use Rattle.engine_api.specs.Live.{live_rows, schema_found, is_under, meets_any, IsApart}
use Rattle.sql_text.specs.declared.statement.Cond.{Cond}
use Rattle.sql_text.specs.declared.statement.Item.{Item}
use Rattle.sql_text.specs.declared.statement.Statement.{Statement}
use Rattle.sql_text.specs.declared.statement.Statement.TheVariants as statement
use Rattle.sql_plan.specs.declared.shape.Plan.{Plan}
use Rattle.sql_plan.specs.Plans.{plan_refusal, schema_of, path_of, use_refusal, unless, IsPlan}
use Rattle.sql_effect.specs.declared.shape.EngineFacts.{EngineFacts}
use Rattle.sql_effect.specs.declared.shape.Sizes.{Sizes}
use Rattle.sql_effect.specs.declared.shape.View.{View}
use Rattle.sql_effect.specs.Effects.{effect_of, engine_named, use_effect, planned_effect, table_effect, create_in, made_effect, map_of, sized}
use Rattle.sql_effect.specs.Insert.{written, inserts, inserts_refusal}
use Rattle.sql_effect.specs.Rewrite.{refused_or}
use Rattle.sql_effect.proofs.EffectLemmas.{schema_allowed, schema_suits}
use Rattle.sql_exec.specs.Executes.{table_on, sizes_on, work_effect, plan_effect, CanWork, CanExecute}
use Rattle.sql_exec.specs.Makes.{CanCreate}
use Rattle.sql_exec.specs.Selects.{CanSelect, IsSelectOn}
use Rattle.sql_exec.specs.Plannings.{IsIdle, HasSchema, SuitsEngine, IsAtHand, IsSeen, SuitsView}
use Rattle.sql_exec.proofs.StateLemmas.{idle_last}

-- An idle engine.

none_pending : (txn : ℕ) (s : EngineState) → IsIdle s → pending_of txn s.pending ≡ None
none_pending txn s idle = ap (pending_of txn) idle.nothing

not_under : (txn : ℕ) (s : EngineState) → IsIdle s → is_under txn s ≡ false
not_under txn s idle = ap (λ (ps : List Pending). is_some (xid_by txn ps)) idle.nothing

all_apart : (txn : ℕ) (c : Change) (s : EngineState) → IsIdle s → IsApart txn c s
all_apart txn c s idle = record {
  pending = ap (λ (ps : List Pending). meets_any c (changes_in (without_txn txn ps))) idle.nothing;
  prepared = ap (λ (ps : List Prepared). list_any (λ (it : Prepared). meets_any c it.changes) ps) idle.unprepared;
}

-- the schema of the plan is that of the definition
same_some : {A : Type 0} {x y : A} → Some x ≡ Some y → x ≡ y
same_some e = cc

has_planned : (table : List ℕ) (s : EngineState) (a b : Schema) → Some a ≡ Some b → HasSchema table a s → HasSchema table b s
has_planned table s a b same has = subst (λ (x : Schema). HasSchema table x s) (same_some same) has

-- a table whose schema was found is there
schema_there : (o : Option Table) (s : Schema) → schema_found o ≡ Some s → IsTrue (is_some o)
schema_there None s is = absurd cc
schema_there (Some it) s is = refl

can_create : (table : List ℕ) (items : List Item) (engine : List ℕ) (definition : Option Definition) (plan : Plan) (kind : Kind) (s : EngineState) (txn : ℕ) → IsIdle s
    → IsPlan (statement.Create table items engine) definition kind.flags plan → SuitsEngine (statement.Create table items engine) definition plan.schema s
    → CanCreate txn table plan.schema kind s
can_create table items engine definition plan kind s txn idle is suits =
    let asks = statement.Create table items engine in
    record {
      free = suits.0;
      schema = record { named = suits.1; allowed = schema_allowed asks kind.flags plan.schema is.made.schema };
      allowed = schema_suits asks kind.flags plan.schema is.made.schema;
      unprepared = not_under txn s idle;
      last = idle_last txn s (none_pending txn s idle);
      apart = all_apart txn (change.Create table kind.name plan.schema) s idle;
    }

can_select : (table : List ℕ) (names : Option (List (List ℕ))) (where_is : Option Cond) (it : Definition) (plan : Plan) (flags : Flags) (s : EngineState)
    → IsPlan (statement.Select table names where_is) (Some it) flags plan → HasSchema table it.schema s → CanSelect plan s
can_select table names where_is it plan flags s is suits =
    let asks = statement.Select table names where_is in
    let same = same_some is.made.schema in
    let has = has_planned table s it.schema plan.schema is.made.schema suits in
    let work = sym is.made.work in
    record {
      select = subst (λ (w : Statement). IsSelectOn w plan.schema s) work has.live;
      schema = has.schema;
      granted = subst (λ (w : Statement). use_refusal w plan.schema.columns ≡ None) work (subst (λ (x : Schema). use_refusal asks x.columns ≡ None) same is.granted);
      path = is.made.path ∙ ap (λ (w : Statement). path_of w plan.schema) work;
    }

can_work : (asks : Statement) (definition : Option Definition) (plan : Plan) (kind : Kind) (s : EngineState) (txn : ℕ) → IsIdle s → IsPlan asks definition kind.flags plan
    → SuitsEngine asks definition plan.schema s → CanWork txn asks plan kind s
can_work (statement.Create table items engine) definition plan kind s txn idle is suits = can_create table items engine definition plan kind s txn idle is suits
can_work (statement.Drop table) None plan kind s txn idle is suits = absurd suits
can_work (statement.Drop table) (Some it) plan kind s txn idle is suits = record {
  live = schema_there (table_named table (live_tables s)) it.schema suits.live;
  unprepared = not_under txn s idle;
  apart = all_apart txn (change.Drop table) s idle;
}
can_work (statement.Insert table rows) None plan kind s txn idle is suits = absurd suits.1
can_work (statement.Insert table rows) (Some it) plan kind s txn idle is suits =
    let has = has_planned table s it.schema plan.schema is.made.schema suits.1 in
    record {
      named = suits.0;
      schema = has.schema;
      idle = none_pending txn s idle;
      live = has.live;
      apart = λ k d lt. all_apart txn _ s idle;
    }
can_work (statement.Select table names where_is) None plan kind s txn idle is suits = absurd suits
can_work (statement.Select table names where_is) (Some it) plan kind s txn idle is suits = can_select table names where_is it plan kind.flags s is suits
can_work _ definition plan kind s txn idle is suits = absurd suits

-- An idle engine can carry out what was planned for its tables.
pub idle_can : (asks : Statement) (definition : Option Definition) (plan : Plan) (kind : Kind) (s : EngineState) (txn : ℕ) → IsIdle s → IsPlan asks definition kind.flags plan
    → SuitsEngine asks definition plan.schema s → CanExecute txn plan kind s
idle_can asks definition plan kind s txn idle is suits =
    subst (λ (w : Statement). CanWork txn w plan kind s) (sym is.made.work) (can_work asks definition plan kind s txn idle is suits)

-- The view.

-- what was found by a name has it
found_named : (name : List ℕ) (ts : List Table) (it : Table) → table_named name ts ≡ Some it → it.definition.table ≡ name
found_named name [] it is = absurd cc
found_named name (t ∷ ts) it is = by_name (is_named name t) refl is (found_named name ts it)
  where
    by_name : (b : Bool) → is_named name t ≡ b → cond b (Some t) (table_named name ts) ≡ Some it → (table_named name ts ≡ Some it → it.definition.table ≡ name) → it.definition.table ≡ name
    by_name true named found rest = ap (λ (x : Table). x.definition.table) (sym (same_some found)) ∙ (bytes_eq-Decides t.definition.table name).0 named
    by_name false named found rest = rest found

-- The table of the view is the live one.
same_table : (name : List ℕ) (kind : Kind) (s : EngineState) (it : Table) (schema : Schema) → it.definition.table ≡ name → it.definition.engine ≡ kind.name → it.definition.schema ≡ schema
    → live_rows name s ≡ it.rows → it ≡ table_on name schema kind s
same_table name kind s it schema named engine same rows =
    ap (λ (n : List ℕ). made n it.definition.engine it.definition.schema it.rows) named
    ∙ ap (λ (e : List ℕ). made name e it.definition.schema it.rows) engine
    ∙ ap (λ (x : Schema). made name kind.name x it.rows) same
    ∙ ap (made name kind.name schema) (sym rows)
  where
    made : List ℕ → List ℕ → Schema → List (List Value) → Table
    made n e x l = record { definition = record { table = n; engine = e; schema = x }; rows = l }

-- a statement on a table that was found, in an engine that is at hand
found_effect : (shelf : List EngineFacts) (view : View) (sizes : Sizes) (kind : Kind) (found : Option Table) (it : Table) (asks : Statement) (hand : IsAtHand shelf view kind)
    → found ≡ Some it → it.definition.engine ≡ kind.name
    → use_effect shelf view sizes found asks ≡ refused_or (plan_refusal asks (Some it.definition) kind.flags) (table_effect hand.facts sizes it asks)
found_effect shelf view sizes kind found it asks hand is engine =
    ap (λ (o : Option Table). use_effect shelf view sizes o asks) is
    ∙ ap (λ (e : Option EngineFacts). planned_effect e sizes it asks) (ap (λ (n : List ℕ). engine_named n shelf view) engine ∙ hand.found)
    ∙ ap (λ (f : Flags). refused_or (plan_refusal asks (Some it.definition) f) (table_effect hand.facts sizes it asks)) hand.flags

-- where planning did not refuse it
planned_one : (shelf : List EngineFacts) (view : View) (sizes : Sizes) (kind : Kind) (definition : Option Definition) (plan : Plan) (s : EngineState) (table : List ℕ) (asks : Statement)
    → (hand : IsAtHand shelf view kind) → IsPlan asks definition kind.flags plan → schema_of asks definition kind.flags ≡ option_map (λ (it : Definition). it.schema) definition
    → IsSeen table definition view kind s
    → use_effect shelf view sizes (table_named table view.tables) asks ≡ table_effect hand.facts sizes (table_on table plan.schema kind s) asks
planned_one shelf view sizes kind definition plan s table asks hand is about seen =
    let it = seen.it in
    let schema = same_some (sym (about ∙ ap (option_map (λ (d : Definition). d.schema)) seen.defined) ∙ is.made.schema) in
    found_effect shelf view sizes kind (table_named table view.tables) it asks hand seen.found seen.engine
    ∙ ap (λ (o : Option Refusal). refused_or o (table_effect hand.facts sizes it asks)) (ap (λ (d : Option Definition). plan_refusal asks d kind.flags) (sym seen.defined) ∙ is.granted)
    ∙ ap (λ (t : Table). table_effect hand.facts sizes t asks) (same_table table kind s it plan.schema (found_named table view.tables it seen.found) seen.engine schema seen.rows)

work_is : (open_bytes : ℕ) (plan : Plan) (kind : Kind) (s : EngineState) (asks : Statement) → plan.work ≡ asks → work_effect open_bytes asks plan.schema kind s ≡ plan_effect open_bytes plan kind s
work_is open_bytes plan kind s asks is = ap (λ (w : Statement). work_effect open_bytes w plan.schema kind s) (sym is)

made_is : (sizes : Sizes) (table : List ℕ) (a b : List ℕ) (o p : Option Schema) → a ≡ b → o ≡ p → made_effect sizes table a o ≡ made_effect sizes table b p
made_is sizes table a b o p first second = cc

-- a CREATE of a table that is not there, in an engine that is at hand
free_effect : (shelf : List EngineFacts) (view : View) (sizes : Sizes) (kind : Kind) (table : List ℕ) (items : List Item) (engine : List ℕ) (hand : IsAtHand shelf view kind)
    → table_named table view.tables ≡ None → engine ≡ kind.name
    → effect_of shelf view sizes (statement.Create table items engine)
    ≡ refused_or (plan_refusal (statement.Create table items engine) None kind.flags) (made_effect sizes table engine (schema_of (statement.Create table items engine) None kind.flags))
free_effect shelf view sizes kind table items engine hand free is =
    let asks = statement.Create table items engine in
    ap (λ (o : Option Table). refused_or (unless (is_none o) TableExists) (create_in (engine_named engine shelf view) sizes table engine asks)) free
    ∙ ap (λ (e : Option EngineFacts). create_in e sizes table engine asks) (ap (λ (n : List ℕ). engine_named n shelf view) is ∙ hand.found)
    ∙ ap (λ (f : Flags). refused_or (plan_refusal asks None f) (made_effect sizes table engine (schema_of asks None f))) hand.flags

-- What a statement does to an engine by its plan is what it does to the view.
pub same_effect : (shelf : List EngineFacts) (view : View) (asks : Statement) (definition : Option Definition) (plan : Plan) (kind : Kind) (s : EngineState) (open_bytes : ℕ)
    → IsAtHand shelf view kind → IsPlan asks definition kind.flags plan → SuitsView asks definition view kind s
    → effect_of shelf view (sizes_on open_bytes s) asks ≡ plan_effect open_bytes plan kind s
same_effect shelf view (statement.Create table items engine) definition plan kind s open_bytes hand is suits =
    let asks = statement.Create table items engine in
    let sizes = sizes_on open_bytes s in
    free_effect shelf view sizes kind table items engine hand suits.0 suits.1
    ∙ ap (λ (o : Option Refusal). refused_or o (made_effect sizes table engine (schema_of asks None kind.flags))) is.granted
    ∙ made_is sizes table engine kind.name (schema_of asks None kind.flags) (Some plan.schema) suits.1 is.made.schema
    ∙ work_is open_bytes plan kind s asks is.made.work
same_effect shelf view (statement.Drop table) definition plan kind s open_bytes hand is suits =
    let asks = statement.Drop table in
    planned_one shelf view (sizes_on open_bytes s) kind definition plan s table asks hand is refl suits
    ∙ work_is open_bytes plan kind s asks is.made.work
same_effect shelf view (statement.Insert table rows) definition plan kind s open_bytes hand is suits =
    let asks = statement.Insert table rows in
    let sizes = sizes_on open_bytes s in
    let on = table_on table plan.schema kind s in
    planned_one shelf view sizes kind definition plan s table asks hand is refl suits
    ∙ ap (λ (keeps : Bool). refused_or (inserts_refusal keeps plan.schema sizes.live on.rows (written rows)) (sized sizes (inserts (map_of on.definition) (written rows)))) hand.keeps_rows
    ∙ work_is open_bytes plan kind s asks is.made.work
same_effect shelf view (statement.Select table names where_is) definition plan kind s open_bytes hand is suits =
    let asks = statement.Select table names where_is in
    planned_one shelf view (sizes_on open_bytes s) kind definition plan s table asks hand is refl suits
    ∙ work_is open_bytes plan kind s asks is.made.work
same_effect shelf view _ definition plan kind s open_bytes hand is suits = absurd suits

-- A refusal at planning is that of the view.

refused_one : (shelf : List EngineFacts) (view : View) (sizes : Sizes) (kind : Kind) (definition : Option Definition) (s : EngineState) (table : List ℕ) (asks : Statement) (r : Refusal)
    → IsAtHand shelf view kind → plan_refusal asks definition kind.flags ≡ Some r → IsSeen table definition view kind s
    → use_effect shelf view sizes (table_named table view.tables) asks ≡ Err r
refused_one shelf view sizes kind definition s table asks r hand is seen =
    let it = seen.it in
    found_effect shelf view sizes kind (table_named table view.tables) it asks hand seen.found seen.engine
    ∙ ap (λ (o : Option Refusal). refused_or o (table_effect hand.facts sizes it asks)) (ap (λ (d : Option Definition). plan_refusal asks d kind.flags) (sym seen.defined) ∙ is)

pub same_refusal : (shelf : List EngineFacts) (view : View) (sizes : Sizes) (asks : Statement) (definition : Option Definition) (kind : Kind) (s : EngineState) (r : Refusal)
    → IsAtHand shelf view kind → SuitsView asks definition view kind s → plan_refusal asks definition kind.flags ≡ Some r
    → effect_of shelf view sizes asks ≡ Err r
same_refusal shelf view sizes (statement.Create table items engine) definition kind s r hand suits is =
    let asks = statement.Create table items engine in
    free_effect shelf view sizes kind table items engine hand suits.0 suits.1
    ∙ ap (λ (o : Option Refusal). refused_or o (made_effect sizes table engine (schema_of asks None kind.flags))) is
same_refusal shelf view sizes (statement.Drop table) definition kind s r hand suits is = refused_one shelf view sizes kind definition s table (statement.Drop table) r hand is suits
same_refusal shelf view sizes (statement.Insert table rows) definition kind s r hand suits is = refused_one shelf view sizes kind definition s table (statement.Insert table rows) r hand is suits
same_refusal shelf view sizes (statement.Select table names where_is) definition kind s r hand suits is =
    refused_one shelf view sizes kind definition s table (statement.Select table names where_is) r hand is suits
same_refusal shelf view sizes _ definition kind s r hand suits is = absurd suits
