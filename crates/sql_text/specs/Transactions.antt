-- Statements on transactions.
-- (MySQL 5.7 Reference Manual, "START TRANSACTION, COMMIT, and ROLLBACK Statements" and
-- "SAVEPOINT, ROLLBACK TO SAVEPOINT, and RELEASE SAVEPOINT Statements")
use Rattle.std.specs.Prelude.{Ok, Err, if◌then◌else◌}
use Rattle.sql_text.specs.declared.keyword.Keyword.TheVariants as words
use Rattle.sql_text.specs.declared.lexeme.Lexeme.{Lexeme}
use Rattle.sql_text.specs.declared.reading.Reading.{Reading}
use Rattle.sql_text.specs.declared.reading.Reading.TheVariants.{Whole, Transacting}
use Rattle.sql_text.specs.declared.statement.Statement.{Statement}
use Rattle.sql_text.specs.declared.statement.Statement.TheVariants as statement
use Rattle.sql_text.specs.declared.step.StepFault.TheVariants.{Unexpected}
use Rattle.sql_text.specs.declared.transaction.Transacting.{Transacting as Part}
use Rattle.sql_text.specs.declared.transaction.Transacting.TheVariants.{BeginWork, StartTransaction, CommitWork, RollbackWork, RollbackTo}
use Rattle.sql_text.specs.declared.transaction.Transacting.TheVariants.{ToSavepoint, ToName, SavepointName, ReleaseSavepoint, ReleaseName}
use Rattle.sql_text.specs.Steps.{Step, ◌>>=◌, is_word, column_in}
use Rattle.sql_text.specs.Whole.{whole}

-- TRANSACTION, behind START
abbrev pub start_transaction : Lexeme → Step Reading
start_transaction lexeme = if is_word words.Transaction lexeme then Ok (Whole statement.Begin) else Err Unexpected

-- SAVEPOINT, behind RELEASE
abbrev pub release_savepoint : Lexeme → Step Reading
release_savepoint lexeme = if is_word words.Savepoint lexeme then Ok (Transacting ReleaseName) else Err Unexpected

-- WORK may follow
abbrev pub may_work : Lexeme → Statement → Step Reading
may_work lexeme statement = if is_word words.Work lexeme then Ok (Whole statement) else whole statement lexeme

-- the savepoint of a ROLLBACK TO
unfoldable pub to_name : Lexeme → Step Reading
to_name lexeme = do
  point ← column_in lexeme
  Ok (Whole (statement.RollbackTo point))

-- SAVEPOINT may stand before it
abbrev pub to_savepoint : Lexeme → Step Reading
to_savepoint lexeme = if is_word words.Savepoint lexeme then Ok (Transacting ToName) else to_name lexeme

-- TO may follow
abbrev pub rollback_to : Lexeme → Step Reading
rollback_to lexeme = if is_word words.To lexeme then Ok (Transacting ToSavepoint) else whole statement.Rollback lexeme

-- WORK may follow, or TO
abbrev pub rollback_work : Lexeme → Step Reading
rollback_work lexeme = if is_word words.Work lexeme then Ok (Transacting RollbackTo) else rollback_to lexeme

-- the savepoint of a SAVEPOINT
abbrev pub savepoint_name : Lexeme → Step Reading
savepoint_name lexeme = do
  point ← column_in lexeme
  Ok (Whole (statement.Savepoint point))

-- the savepoint of a RELEASE SAVEPOINT
abbrev pub release_name : Lexeme → Step Reading
release_name lexeme = do
  point ← column_in lexeme
  Ok (Whole (statement.Release point))

-- BEGIN [WORK], START TRANSACTION, COMMIT [WORK], ROLLBACK [WORK], ROLLBACK [WORK] TO [SAVEPOINT] s, SAVEPOINT s,
-- RELEASE SAVEPOINT s
unfoldable pub next : Part → Lexeme → Step Reading
next BeginWork lexeme = may_work lexeme statement.Begin
next StartTransaction lexeme = start_transaction lexeme
next CommitWork lexeme = may_work lexeme statement.Commit
next RollbackWork lexeme = rollback_work lexeme
next RollbackTo lexeme = rollback_to lexeme
next ToSavepoint lexeme = to_savepoint lexeme
next ToName lexeme = to_name lexeme
next SavepointName lexeme = savepoint_name lexeme
next ReleaseSavepoint lexeme = release_savepoint lexeme
next ReleaseName lexeme = release_name lexeme
