-- A statement on its way: from its line to its reply. (This project.)
use Rattle.std.specs.Prelude.{◌≡◌, ◌⊎◌, ◌<◌, ◌≤◌, ◌+◌, ◌^◌, ℕ, List, [], ◌∷◌, ◌++◌, length, vec_len, vec_capacity, None, Some, Bool, true, false, Result, Ok, OnErr, IsTrue}
use Rattle.std.specs.declared.alloc.AllocError.{AllocError}
use Rattle.sql_value.specs.declared.refusal.Refusal.{Refusal}
use Rattle.sql_value.specs.declared.refusal.Refusal.TheVariants.{TableFull, LogSpent}
use Rattle.row_format.specs.declared.change.Change.{Change}
use Rattle.row_format.specs.declared.change.Transaction.{Transaction}
use Rattle.row_format.specs.Changes.{AreFitChanges}
use Rattle.log_tables.specs.Tables.{part_of}
use Rattle.log_tables.specs.Changes.{tables_after}
use Rattle.binlog_file.specs.Binlog.{flushed_of, end_in, Carries}
use Rattle.engine_api.specs.Live.{allows}
use Rattle.engine_api.specs.States.{Kind, EngineState, prepared_state}
use Rattle.recovery_rules.specs.Recovery.{Suits}
use Rattle.sql_exec.specs.Changes.{with_changes}
use Rattle.sql_step.specs.declared.outcome.Outcome.{Outcome}
use Rattle.sql_step.specs.declared.outcome.Outcome.TheVariants.{Rows, Changed, Noted}
use Rattle.sql_step.specs.Catalogs.{Catalog}
use Rattle.sql_step.specs.Logs.{AreOwn}
use Rattle.sql_step.specs.Steps.{Refuses}
use Rattle.plugd.specs.declared.reply.Reply.{Reply}
use Rattle.plugd.specs.declared.reply.HaltCause.{HaltCause}
use Rattle.plugd.specs.declared.statement.Executed.{Executed}
use Rattle.plugd.specs.declared.statement.Executed.TheVariants as executed
use Rattle.plugd.specs.declared.statement.Prepared.{Prepared}
use Rattle.plugd.specs.declared.statement.Prepared.TheVariants as prepared
use Rattle.plugd.specs.Serve.{session}
use Rattle.plugd.specs.Texts.{IsGivenBy}
use Rattle.plugd.specs.Asked.{Work, Comes, catalog_after, count_of, engine_facts, engine_name, is_prepared_for}
use Rattle.plugd.specs.Noting.{AreSound, HasCatalog}
use Rattle.plugd.specs.Play.{State, Makes, logged_size, IsNextGiven}
use Rattle.plugd.specs.Serve.{Base, Core, Stopped, IsIdle, IsAtRest, IsFixed, IsJournal, IsCatalogOf, IsCause, rules_of, Serving, Halts}

-- a run that has played some lines, and stands in a state
pub record Past : Type 0 where
  pub base : Base
  pub lines : List (List ℕ)
  pub replies : List Reply
  pub state : State

-- the next line is being played, and nothing of it is in the log
pub record IsAhead (past : Past) (core : Core) : Type 0 where
  pub fixed : IsFixed past.base core
  pub line : past.state.line ≡ length past.lines
  pub counted : core.server.lines ≡ past.state.line + 1
  pub stopped : Stopped past.base past.lines past.replies core past.state
  pub sound : AreSound past.state.catalog.definitions
  pub serves : core.server.halted ≡ None
  pub is_serving : past.state.halted ≡ None
  pub met : past.state.met ≡ None

-- A statement is on its way; the engine was idle with this state before it, and by now these xids were given.
pub record IsOnWay (past : Past) (idle : EngineState) (given : List ℕ) (core : Core) : Type 0 where
  pub ahead : IsAhead past core
  pub count : flushed_of core.server.log ≡ past.state.count
  pub len : end_in core.server.log ≡ past.state.len
  pub was_idle : IsIdle idle past.state
  pub rest : IsTrue past.base.start.told → IsAtRest past.base core idle.gist past.state given

-- A statement is on its way, and nothing of it was done.
pub record IsBegun (past : Past) (core : Core) : Type 0 where
  pub way : IsOnWay past core.engine.state past.state.given core
  pub catalog : HasCatalog core.server.dictionary past.state.catalog

-- the state of an engine that was idle, after these changes: an INSTALL is none of the engine's
abbrev pub changed_if : Bool → List Change → EngineState → EngineState
changed_if true changes idle = with_changes session changes idle
changed_if false changes idle = idle

-- the state behind a statement that makes these changes
abbrev pub executed_state : Work → List Change → EngineState → EngineState
executed_state work changes idle = changed_if (is_prepared_for work) changes idle

-- A log with this catalog can have these changes next: the engine's flags allow each table that they make; and where the engine prepares
-- them, and its live tables are its part of the log's, they are on its tables and apply.
pub record CanLog (here : Catalog) (work : Work) (changes : List Change) : Type 0 where
  pub suits : (kind : Kind) → IsJournal kind → Suits kind.name (allows kind.flags) changes
  pub own : IsTrue (is_prepared_for work) → (log : List Transaction) → IsCatalogOf log here → here.live ≡ part_of engine_name (tables_after log)
      → AreOwn engine_name changes (tables_after log)

-- the statement makes these changes; they can be spelt, and logged
pub record IsGranted (past : Past) (work : Work) (changes : List Change) : Type 0 where
  pub makes : Makes work past.state changes
  pub fit : AreFitChanges changes
  pub few : length changes < 2 ^ 31
  pub can : CanLog past.state.catalog work changes

-- the statement was executed: its changes are in the engine, nothing else, and they are not noted
pub record IsExecuted (past : Past) (idle : EngineState) (work : Work) (changes : List Change) (given : List ℕ) (core : Core)
    : Type 0 where
  pub way : IsOnWay past idle given core
  pub catalog : HasCatalog core.server.dictionary past.state.catalog
  pub granted : IsGranted past work changes
  pub state : core.engine.state ≡ executed_state work changes idle

-- the statement has done nothing
pub record IsUntouched (past : Past) (idle : EngineState) (core : Core) : Type 0 where
  pub way : IsOnWay past idle past.state.given core
  pub catalog : HasCatalog core.server.dictionary past.state.catalog
  pub state : core.engine.state ≡ idle

-- the text was executed, and came to this
abbrev pub IsExecutedTo : Past → EngineState → List ℕ → Outcome → Core → Type 0
IsExecutedTo past idle text (Rows rows) core = Comes text past.state.catalog (Rows rows) × IsUntouched past idle core
IsExecutedTo past idle text (Changed count changes) core = IsExecuted past idle (record { text = text; outcome = Changed count changes }) changes past.state.given core
IsExecutedTo past idle text (Noted changes) core = IsExecuted past idle (record { text = text; outcome = Noted changes }) changes past.state.given core

-- a call of the engine halts the run
pub record HaltsBy (past : Past) (core : Core) (cause : HaltCause) : Type 0 where
  pub ahead : IsAhead past core
  pub is_cause : IsCause past.base core.engine.kind core.disk cause

-- a line that gives this text is played to this reply
abbrev pub PlaysTo : Past → List ℕ → Reply → Core → Type 0
PlaysTo past text reply core = (line : List ℕ) → IsGivenBy text line → Serving past.base (past.lines ++ line ∷ []) (past.replies ++ reply ∷ []) core

-- what is left of it is to end: for want of memory it is as if the line was not there
abbrev pub EndsAt : Past → Core → Type 0
EndsAt past core = Halts past.base past.lines past.replies core

-- a text is executed
pub record Executes (text : List ℕ) (old new : Core) (result : Result Executed AllocError) : Type 0 where
  pub done : (past : Past) → IsBegun past old → (outcome : Outcome) → result ≡ Ok (executed.Done outcome) → IsExecutedTo past old.engine.state text outcome new
  pub refused : (past : Past) → IsBegun past old → (refusal : Refusal) → result ≡ Ok (executed.Refused refusal)
      → Refuses past.state.catalog engine_facts text refusal × IsUntouched past old.engine.state new
  pub halted : (past : Past) → IsBegun past old → (cause : HaltCause) → result ≡ Ok (executed.Halted cause) → HaltsBy past new cause
  pub err : (past : Past) → IsBegun past old → OnErr result (EndsAt past new)

-- a statement that was executed is taken to its reply
pub record Commits (work : Work) (changes : List Change) (old new : Core) (result : Result Reply AllocError) : Type 0 where
  pub ok : (past : Past) (idle : EngineState) → IsExecuted past idle work changes past.state.given old → (reply : Reply)
      → result ≡ Ok reply → PlaysTo past work.text reply new
  pub err : (past : Past) (idle : EngineState) → IsExecuted past idle work changes past.state.given old
      → OnErr result (EndsAt past new)

-- the engine has prepared what was executed, under this xid
pub record IsReadyToLog (past : Past) (idle : EngineState) (work : Work) (changes : List Change) (xid : ℕ) (core : Core)
    : Type 0 where
  pub touches : IsTrue (is_prepared_for work)
  pub way : IsOnWay past idle (past.state.given ++ xid ∷ []) core
  pub granted : IsGranted past work changes
  pub next : IsNextGiven (rules_of past.base) past.state xid
  pub state : core.engine.state ≡ prepared_state session xid (with_changes session changes idle)

-- what was executed is to be prepared under the next xid
pub record IsToPrepare (past : Past) (idle : EngineState) (work : Work) (changes : List Change) (xid : ℕ) (core : Core)
    : Type 0 where
  pub touches : IsTrue (is_prepared_for work)
  pub executed : IsExecuted past idle work changes (past.state.given ++ xid ∷ []) core
  pub next : IsNextGiven (rules_of past.base) past.state xid

-- it is prepared
pub record Prepares (xid : ℕ) (old new : Core) (result : Result Prepared AllocError) : Type 0 where
  pub done : (past : Past) (idle : EngineState) (work : Work) (changes : List Change) → IsToPrepare past idle work changes xid old
      → result ≡ Ok prepared.Done → IsReadyToLog past idle work changes xid new
  pub full : (past : Past) (idle : EngineState) (work : Work) (changes : List Change) → IsToPrepare past idle work changes xid old
      → result ≡ Ok prepared.Full → IsToPrepare past idle work changes xid new
  pub halted : (past : Past) (idle : EngineState) (work : Work) (changes : List Change) → IsToPrepare past idle work changes xid old
      → (cause : HaltCause) → result ≡ Ok (prepared.Halted cause) → HaltsBy past new cause
  pub err : (past : Past) (idle : EngineState) (work : Work) (changes : List Change) → IsToPrepare past idle work changes xid old
      → OnErr result (EndsAt past new)

-- why a statement is taken back behind its prepare: the journal is full, or the log would pass its limit
abbrev pub IsReason : Past → List Change → Refusal → Type 0
IsReason past changes TableFull = Unit {0}
IsReason past changes LogSpent = past.base.limit < past.state.len + logged_size changes
IsReason past changes _ = ⊥

-- the statement may be prepared or not, under this xid
abbrev pub IsToUndo : Past → EngineState → Work → List Change → ℕ → Core → Type 0
IsToUndo past idle work changes xid core =
    IsToPrepare past idle work changes xid core ⊎ IsReadyToLog past idle work changes xid core

-- it is rolled back, and refused; or that halts the run
pub record Undoes (refusal : Refusal) (old new : Core) (reply : Reply) : Type 0 where
  pub ok : (past : Past) (idle : EngineState) (work : Work) (changes : List Change) (xid : ℕ) → IsTrue (is_prepared_for work)
      → IsToUndo past idle work changes xid old → HasCatalog old.server.dictionary past.state.catalog → IsReason past changes refusal → PlaysTo past work.text reply new

-- what is spelt is the transaction of these changes under this xid
abbrev pub IsSpelt : Core → List Change → ℕ → Type 0
IsSpelt core changes xid = Carries core.server.log core.server.spelling.items ((record { xid = xid; changes = changes }) ∷ [])

-- these changes are noted in the dictionary
abbrev pub IsNoted : Past → Core → List Change → Type 0
IsNoted past core changes = HasCatalog core.server.dictionary (catalog_after changes past.state.catalog)

-- a statement that is prepared is logged, committed and acknowledged; or a fault halts the run
pub record Finishes (count xid : ℕ) (old new : Core) (reply : Reply) : Type 0 where
  pub ok : (past : Past) (idle : EngineState) (work : Work) (changes : List Change) → count_of work ≡ count → IsReadyToLog past idle work changes xid old → IsSpelt old changes xid
      → IsNoted past old changes → past.state.len + logged_size changes ≤ past.base.limit → PlaysTo past work.text reply new

-- a statement is played: to its reply, or to the end of memory
pub record PlaysOne (text : List ℕ) (old new : Core) (result : Result Reply AllocError) : Type 0 where
  pub ok : (past : Past) → IsBegun past old → (reply : Reply) → result ≡ Ok reply → PlaysTo past text reply new
  pub err : (past : Past) → IsBegun past old → OnErr result (EndsAt past new)

-- some statement is on its way, and the engine is idle
abbrev pub SomeOnWay : Core → Type 0
SomeOnWay core = (past : Past) × IsBegun past core

-- some statement was executed, and makes these changes
abbrev pub SomeExecuted : Work → List Change → Core → Type 0
SomeExecuted work changes core = (past : Past) × (idle : EngineState) × IsExecuted past idle work changes past.state.given core

-- some statement is to be prepared under this xid
abbrev pub SomeToPrepare : ℕ → Core → Type 0
SomeToPrepare xid core =
    (past : Past) × (idle : EngineState) × (work : Work) × (changes : List Change) × IsToPrepare past idle work changes xid core

-- some statement is to be taken back
abbrev pub SomeToUndo : Core → Type 0
SomeToUndo core =
    (past : Past) × (idle : EngineState) × (work : Work) × (changes : List Change) × (xid : ℕ) × IsToUndo past idle work changes xid core

-- A statement that counts so many rows is prepared under this xid, is spelt and noted, and fits into the log, and there is room for its
-- acknowledgement.
abbrev pub SomeReady : ℕ → ℕ → Core → Type 0
SomeReady count xid core =
    (past : Past) × (idle : EngineState) × (work : Work) × (changes : List Change) × (count_of work ≡ count) × IsReadyToLog past idle work changes xid core
    × IsSpelt core changes xid × IsNoted past core changes × (past.state.len + logged_size changes ≤ past.base.limit)
    × (vec_len core.server.acks < vec_capacity core.server.acks)
