-- A statement, lexeme by lexeme. (This project.)
use Rattle.std.specs.Prelude.{Ok, Err}
use Rattle.sql_text.specs.declared.keyword.Keyword.{Keyword as Words}
use Rattle.sql_text.specs.declared.keyword.Keyword.TheVariants as words
use Rattle.sql_text.specs.declared.lexeme.Lexeme.{Lexeme}
use Rattle.sql_text.specs.declared.lexeme.Lexeme.TheVariants.{Keyword}
use Rattle.sql_text.specs.declared.opening.Opening.TheVariants as opening
use Rattle.sql_text.specs.declared.plugin.Plugging.TheVariants as plugging
use Rattle.sql_text.specs.declared.transaction.Transacting.TheVariants as transacting
use Rattle.sql_text.specs.declared.reading.Reading.{Reading}
use Rattle.sql_text.specs.declared.reading.Reading.TheVariants.{Start, Opening, Transacting, Plugging, Creating, Inserting}
use Rattle.sql_text.specs.declared.reading.Reading.TheVariants.{Selecting, Updating, Head, Filtering, Whole, Closed, Done}
use Rattle.sql_text.specs.declared.step.StepFault.TheVariants.{Unexpected}
use Rattle.sql_text.specs.Create as create
use Rattle.sql_text.specs.Filter as filter
use Rattle.sql_text.specs.Insert as insert
use Rattle.sql_text.specs.Opening as openings
use Rattle.sql_text.specs.Plugins as plugins
use Rattle.sql_text.specs.Select as select
use Rattle.sql_text.specs.Starts.{selecting}
use Rattle.sql_text.specs.Steps.{Step}
use Rattle.sql_text.specs.Transactions as transactions
use Rattle.sql_text.specs.Update as update
use Rattle.sql_text.specs.Whole as ends

-- the first word of a statement
abbrev pub start_word : Words → Step Reading
start_word words.Create = Ok (Opening opening.CreateTable)
start_word words.Drop = Ok (Opening opening.DropTable)
start_word words.Insert = Ok (Opening opening.InsertInto)
start_word words.Select = Ok selecting
start_word words.Update = Ok (Opening opening.UpdateName)
start_word words.Delete = Ok (Opening opening.DeleteFrom)
start_word words.Begin = Ok (Transacting transacting.BeginWork)
start_word words.Start = Ok (Transacting transacting.StartTransaction)
start_word words.Commit = Ok (Transacting transacting.CommitWork)
start_word words.Rollback = Ok (Transacting transacting.RollbackWork)
start_word words.Savepoint = Ok (Transacting transacting.SavepointName)
start_word words.Release = Ok (Transacting transacting.ReleaseSavepoint)
start_word words.Install = Ok (Plugging plugging.InstallPlugin)
start_word words.Uninstall = Ok (Plugging plugging.UninstallPlugin)
start_word _ = Err Unexpected

-- a statement begins with a word
unfoldable pub start : Lexeme → Step Reading
start (Keyword word) = start_word word
start _ = Err Unexpected

-- what has been read with one lexeme more
unfoldable pub next : Reading → Lexeme → Step Reading
next Start lexeme = start lexeme
next (Opening opening) lexeme = openings.next opening lexeme
next (Transacting part) lexeme = transactions.next part lexeme
next (Plugging part) lexeme = plugins.next part lexeme
next (Creating part) lexeme = create.next part lexeme
next (Inserting part) lexeme = insert.next part lexeme
next (Selecting part) lexeme = select.next part lexeme
next (Updating part) lexeme = update.next part lexeme
next (Head part) lexeme = filter.head_next part lexeme
next (Filtering part) lexeme = filter.next part lexeme
next (Whole statement) lexeme = ends.whole statement lexeme
next (Closed statement) lexeme = ends.closed statement lexeme
next (Done statement) lexeme = Err Unexpected
