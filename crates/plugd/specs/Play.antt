-- What playing lines does: each line's reply, and the state that it leaves. (This project.)
use Rattle.std.specs.Prelude.{◌≡◌, ◌<◌, ◌≤◌, ◌+◌, ℕ, List, [], ◌∷◌, ◌++◌, length, Option, Some, None, Bool, true, false, IsTrue, sum_by}
use Rattle.frame_codec.specs.Frame.{size_of}
use Rattle.sql_value.specs.declared.refusal.Refusal.{Refusal}
use Rattle.sql_value.specs.declared.refusal.Refusal.TheVariants.{TableFull, LogSpent}
use Rattle.sql_value.specs.declared.value.Value.{Value}
use Rattle.row_format.specs.declared.change.Change.{Change}
use Rattle.row_format.specs.declared.change.Transaction.{Transaction}
use Rattle.binlog_events.specs.Transaction.{events_of}
use Rattle.schedule_text.specs.Lines.{settle, IsLine}
use Rattle.sql_step.specs.declared.outcome.Outcome.TheVariants as outcome
use Rattle.sql_step.specs.Catalogs.{Catalog}
use Rattle.sql_step.specs.Steps.{Refuses}
use Rattle.plugd.specs.declared.reply.Reply.{Reply}
use Rattle.plugd.specs.declared.reply.HaltCause.{HaltCause}
use Rattle.plugd.specs.declared.reply.Reply.TheVariants.{Done, Rows, Refused, Halted, BadLine}
use Rattle.plugd.specs.Texts.{Gives, IsUnknown}
use Rattle.plugd.specs.Asked.{Work, Comes, catalog_after, changes_by, count_of, engine_facts, is_prepared_for}
use Rattle.plugd.specs.Xids.{IsNextXid}

-- what a run keeps to: how long the log may get, whether contents are told, and the xids that the opening found
pub record Rules : Type 0 where
  pub limit : ℕ
  pub told : Bool
  pub found : List ℕ

-- where a run stands between two lines
pub record State : Type 0 where
  -- how many lines were played
  pub line : ℕ
  -- how many transactions the log has, and how many bytes
  pub count : ℕ
  pub len : ℕ
  pub catalog : Catalog
  -- the xids that were given since the opening, those of transactions that were then refused too
  pub given : List ℕ
  -- the transactions that were logged since the opening
  pub asked : List Transaction
  -- why the run is halted, if it is; and the transaction at which that happened, if it may be in the log
  pub halted : Option HaltCause
  pub met : Option Transaction

-- one line more, and nothing else
abbrev pub next_line : State → State
next_line s = record { line = s.line + 1; count = s.count; len = s.len; catalog = s.catalog; given = s.given; asked = s.asked; halted = s.halted; met = s.met }

-- one line more, and these xids were given by then
abbrev pub with_given : List ℕ → State → State
with_given given s = record { line = s.line + 1; count = s.count; len = s.len; catalog = s.catalog; given = given; asked = s.asked; halted = s.halted; met = s.met }

-- how many bytes the log needs for a transaction of these changes
abbrev pub logged_size : List Change → ℕ
logged_size changes = sum_by size_of (events_of (record { xid = 0; changes = changes }))

-- one transaction more
abbrev pub logged : Transaction → State → State
logged t s = record { line = s.line + 1; count = s.count + 1; len = s.len + logged_size t.changes; catalog = catalog_after t.changes s.catalog; given = s.given ++ t.xid ∷ []; asked = s.asked ++ t ∷ []; halted = None; met = None }

-- it is halted, at a transaction that may be in the log, or before there was one
abbrev pub halted_at : HaltCause → Option Transaction → State → State
halted_at cause met s = record { line = s.line + 1; count = s.count; len = s.len; catalog = s.catalog; given = s.given; asked = s.asked; halted = Some cause; met = met }

-- the next xid, where contents are told
abbrev pub IsNextGiven : Rules → State → ℕ → Type 0
IsNextGiven rules s xid = IsTrue rules.told → IsNextXid (rules.found ++ s.given) xid

-- the text comes to this, which makes these changes, and at least one
pub record Makes (work : Work) (s : State) (changes : List Change) : Type 0 where
  pub comes : Comes work.text s.catalog work.outcome
  pub all : changes ≡ changes_by work
  pub some : 0 < length changes

-- a transaction by the rules: of the changes that the statement makes, under the next xid
pub record IsAskedBy (rules : Rules) (s : State) (work : Work) (t : Transaction) : Type 0 where
  pub made : Makes work s t.changes
  pub xid : IsNextGiven rules s t.xid

-- a statement that is played while the run is not halted
pub record IsPlayed (line text : List ℕ) (s : State) : Type 0 where
  pub gives : Gives line text
  pub serves : s.halted ≡ None

-- one line: what it gives tells its reply and the next state, but that a fault may halt the run
pub data Turn (rules : Rules) (line : List ℕ) (before : State) (replies : List Reply) (after : State) : Type 0 where
  -- `settle` means nothing
  settles : IsLine line settle → replies ≡ [] → after ≡ next_line before → Turn rules line before replies after
  -- any line that is not known
  bad : IsUnknown line → replies ≡ BadLine (before.line + 1) ∷ [] → after ≡ next_line before → Turn rules line before replies after
  -- it is refused, and nothing is done
  refused : (text : List ℕ) → IsPlayed line text before → (refusal : Refusal) → Refuses before.catalog engine_facts text refusal
      → replies ≡ Refused refusal ∷ [] → after ≡ next_line before → Turn rules line before replies after
  -- rows are answered, and nothing is done
  answered : (text : List ℕ) → IsPlayed line text before → (rows : List (List Value)) → Comes text before.catalog (outcome.Rows rows)
      → replies ≡ Rows rows ∷ [] → after ≡ next_line before → Turn rules line before replies after
  -- the engine's journal has no room for it: it is rolled back
  full : (work : Work) → IsPlayed line work.text before → (changes : List Change) → Makes work before changes → IsTrue (is_prepared_for work) → (xid : ℕ) → IsNextGiven rules before xid
      → replies ≡ Refused TableFull ∷ [] → after ≡ with_given (before.given ++ xid ∷ []) before → Turn rules line before replies after
  -- the log would pass its limit: it is rolled back where it was prepared
  spent : (work : Work) → IsPlayed line work.text before → (changes : List Change) → Makes work before changes → (xid : ℕ) → IsNextGiven rules before xid
      → rules.limit < before.len + logged_size changes → replies ≡ Refused LogSpent ∷ [] → after ≡ with_given (before.given ++ xid ∷ []) before → Turn rules line before replies after
  -- it was logged, is durable and committed
  logs : (work : Work) → IsPlayed line work.text before → (t : Transaction) → IsAskedBy rules before work t
      → before.len + logged_size t.changes ≤ rules.limit → replies ≡ Done (count_of work) (before.count + 1) ∷ [] → after ≡ logged t before → Turn rules line before replies after
  -- it is halted before anything was logged
  fails : (text : List ℕ) → IsPlayed line text before → (cause : HaltCause) → replies ≡ Halted cause ∷ [] → after ≡ halted_at cause None before → Turn rules line before replies after
  -- it is halted at a transaction that may be in the log
  fails_at : (work : Work) → IsPlayed line work.text before → (t : Transaction) → IsAskedBy rules before work t
      → before.len + logged_size t.changes ≤ rules.limit → (cause : HaltCause) → replies ≡ Halted cause ∷ [] → after ≡ halted_at cause (Some t) before → Turn rules line before replies after
  -- it was halted at an earlier line
  halts : (text : List ℕ) → Gives line text → (cause : HaltCause) → before.halted ≡ Some cause
      → replies ≡ Halted cause ∷ [] → after ≡ next_line before → Turn rules line before replies after

-- these lines, one after the other
abbrev pub Plays : Rules → State → List (List ℕ) → List Reply → State → Type 0
Plays rules before [] replies after = (replies ≡ []) × (after ≡ before)
Plays rules before (line ∷ lines) replies after =
    (first : List Reply) × (rest : List Reply) × (between : State)
    × Turn rules line before first between × Plays rules between lines rest after × (replies ≡ first ++ rest)

-- the numbers that replies tell
abbrev pub numbers_of : List Reply → List ℕ
numbers_of [] = []
numbers_of (Done count number ∷ replies) = number ∷ numbers_of replies
numbers_of (Rows rows ∷ replies) = numbers_of replies
numbers_of (Refused refusal ∷ replies) = numbers_of replies
numbers_of (Halted cause ∷ replies) = numbers_of replies
numbers_of (BadLine line ∷ replies) = numbers_of replies
