-- The end of a statement. (This project.)
use Rattle.std.specs.Prelude.{Ok, Err, if◌then◌else◌}
use Rattle.sql_text.specs.declared.lexeme.Lexeme.{Lexeme}
use Rattle.sql_text.specs.declared.lexeme.Sign.TheVariants.{Semicolon}
use Rattle.sql_text.specs.declared.reading.Reading.{Reading}
use Rattle.sql_text.specs.declared.reading.Reading.TheVariants.{Closed, Done}
use Rattle.sql_text.specs.declared.statement.Statement.{Statement}
use Rattle.sql_text.specs.declared.step.StepFault.TheVariants.{Unexpected}
use Rattle.sql_text.specs.Steps.{Step, is_sign, is_end}

-- behind a `;` stands the end
abbrev pub closed : Statement → Lexeme → Step Reading
closed statement lexeme = if is_end lexeme then Ok (Done statement) else Err Unexpected

-- behind a whole statement stands one `;` or the end
abbrev pub whole : Statement → Lexeme → Step Reading
whole statement lexeme = if is_sign Semicolon lexeme then Ok (Closed statement) else closed statement lexeme
