-- Statements on plugins.
-- (MySQL 5.7 Reference Manual, "INSTALL PLUGIN Statement" and "UNINSTALL PLUGIN Statement")
use Rattle.std.specs.Prelude.{ℕ, List, Ok, Err, if◌then◌else◌}
use Rattle.sql_text.specs.declared.keyword.Keyword.{Keyword}
use Rattle.sql_text.specs.declared.keyword.Keyword.TheVariants as words
use Rattle.sql_text.specs.declared.lexeme.Lexeme.{Lexeme}
use Rattle.sql_text.specs.declared.plugin.Plugging.{Plugging as Part}
use Rattle.sql_text.specs.declared.plugin.Plugging.TheVariants.{InstallPlugin, InstallName, InstallSoname, InstallFile}
use Rattle.sql_text.specs.declared.plugin.Plugging.TheVariants.{UninstallPlugin, UninstallName}
use Rattle.sql_text.specs.declared.reading.Reading.{Reading}
use Rattle.sql_text.specs.declared.reading.Reading.TheVariants.{Whole, Plugging}
use Rattle.sql_text.specs.declared.statement.Statement.TheVariants as statement
use Rattle.sql_text.specs.declared.step.StepFault.TheVariants.{Unexpected}
use Rattle.sql_text.specs.Steps.{Step, ◌>>=◌, is_word, engine_in, text_in}

-- this word, and then what is due
abbrev pub after_word : Lexeme → Keyword → Part → Step Reading
after_word lexeme word part = if is_word word lexeme then Ok (Plugging part) else Err Unexpected

-- the engine of an INSTALL
abbrev pub install_name : Lexeme → Step Reading
install_name lexeme = do
  name ← engine_in lexeme
  Ok (Plugging (InstallSoname name))

-- its library, as it is written
abbrev pub install_file : List ℕ → Lexeme → Step Reading
install_file name lexeme = do
  soname ← text_in lexeme
  Ok (Whole (statement.Install name soname))

-- the engine of an UNINSTALL
abbrev pub uninstall_name : Lexeme → Step Reading
uninstall_name lexeme = do
  name ← engine_in lexeme
  Ok (Whole (statement.Uninstall name))

-- INSTALL PLUGIN name SONAME 'file', UNINSTALL PLUGIN name
unfoldable pub next : Part → Lexeme → Step Reading
next InstallPlugin lexeme = after_word lexeme words.Plugin InstallName
next InstallName lexeme = install_name lexeme
next (InstallSoname name) lexeme = after_word lexeme words.Soname (InstallFile name)
next (InstallFile name) lexeme = install_file name lexeme
next UninstallPlugin lexeme = after_word lexeme words.Plugin UninstallName
next UninstallName lexeme = uninstall_name lexeme
