-- The first words of statements on tables.
-- (MySQL 5.7 Reference Manual, "CREATE TABLE Statement", "DROP TABLE Statement", "INSERT Statement", "UPDATE Statement" and
-- "DELETE Statement", of which these parts are here)
use Rattle.std.specs.Prelude.{ℕ, List, Ok, Err, if◌then◌else◌}
use Rattle.sql_text.specs.declared.filter.Head.TheVariants as head
use Rattle.sql_text.specs.declared.keyword.Keyword.{Keyword}
use Rattle.sql_text.specs.declared.keyword.Keyword.TheVariants.{Table, Into, From, Set}
use Rattle.sql_text.specs.declared.lexeme.Lexeme.{Lexeme}
use Rattle.sql_text.specs.declared.opening.Opening.{Opening}
use Rattle.sql_text.specs.declared.opening.Opening.TheVariants.{CreateTable, CreateName, DropTable, DropName, InsertInto, InsertName}
use Rattle.sql_text.specs.declared.opening.Opening.TheVariants.{UpdateName, UpdateSet, DeleteFrom, DeleteName}
use Rattle.sql_text.specs.declared.reading.Reading.{Reading}
use Rattle.sql_text.specs.declared.reading.Reading.TheVariants as read
use Rattle.sql_text.specs.declared.statement.Statement.TheVariants as statement
use Rattle.sql_text.specs.declared.step.StepFault.TheVariants.{Unexpected}
use Rattle.sql_text.specs.Starts.{creating, inserting, updating}
use Rattle.sql_text.specs.Steps.{Step, ◌>>=◌, is_word, name_in}

-- this word, and then what is due
abbrev pub after_word : Lexeme → Keyword → Opening → Step Reading
after_word lexeme word opening = if is_word word lexeme then Ok (read.Opening opening) else Err Unexpected

-- what has been read with the name of the table
abbrev pub after_name : Opening → List ℕ → Step Reading
after_name CreateName table = Ok (creating table)
after_name DropName table = Ok (read.Whole (statement.Drop table))
after_name InsertName table = Ok (inserting table)
after_name UpdateName table = Ok (read.Opening (UpdateSet table))
after_name DeleteName table = Ok (read.Head (head.Delete table))
after_name _ table = Err Unexpected

-- a name is due
abbrev pub named : Opening → Lexeme → Step Reading
named opening lexeme = do
  table ← name_in lexeme
  after_name opening table

-- CREATE TABLE name, DROP TABLE name, INSERT INTO name, UPDATE name SET, DELETE FROM name
unfoldable pub next : Opening → Lexeme → Step Reading
next CreateTable lexeme = after_word lexeme Table CreateName
next DropTable lexeme = after_word lexeme Table DropName
next InsertInto lexeme = after_word lexeme Into InsertName
next DeleteFrom lexeme = after_word lexeme From DeleteName
next (UpdateSet table) lexeme = if is_word Set lexeme then Ok (updating table) else Err Unexpected
next CreateName lexeme = named CreateName lexeme
next DropName lexeme = named DropName lexeme
next InsertName lexeme = named InsertName lexeme
next UpdateName lexeme = named UpdateName lexeme
next DeleteName lexeme = named DeleteName lexeme
