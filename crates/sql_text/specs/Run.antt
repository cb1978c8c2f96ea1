-- How the tokens of a text are read. (This project.)
use Rattle.std.specs.Prelude.{◌≡◌, ℕ, Bool, true, false, List, [], ◌∷◌, Option, Some, None, Result, Ok, Err, if◌then◌else◌}
use Rattle.sql_value.specs.declared.refusal.Refusal.TheVariants.{Syntax}
use Rattle.sql_text.specs.declared.lexeme.Lexeme.{Lexeme}
use Rattle.sql_text.specs.declared.lexeme.Lexeme.TheVariants.{BadText}
use Rattle.sql_text.specs.declared.parser.ParseFault.{ParseFault}
use Rattle.sql_text.specs.declared.parser.ParseFault.TheVariants as fault
use Rattle.sql_text.specs.declared.reading.Reading.{Reading}
use Rattle.sql_text.specs.declared.reading.Reading.TheVariants.{Done}
use Rattle.sql_text.specs.declared.statement.Statement.{Statement}
use Rattle.sql_text.specs.declared.step.StepFault.{StepFault}
use Rattle.sql_text.specs.declared.step.StepFault.TheVariants.{Unexpected, InText, Memory}
use Rattle.sql_text.specs.declared.token.Token.{Token}
use Rattle.sql_text.specs.Lexemes.{is_last}
use Rattle.sql_text.specs.Reading.{next}
use Rattle.sql_text.specs.Steps.{Step}

-- where the fault in a text stands, or the token where no text may stand
abbrev pub text_place : ℕ → Lexeme → ℕ
text_place at (BadText place) = place
text_place at _ = at

-- there are none
abbrev pub is_nil : List Token → Bool
is_nil [] = true
is_nil (t ∷ ts) = false

-- the last of the tokens, and no other, ends a text
abbrev pub ends_last : List Token → Bool
ends_last [] = false
ends_last (t ∷ ts) = if is_last t.lexeme then is_nil ts else ends_last ts

-- the refusal of a token
abbrev pub refusal_of : Token → StepFault → ParseFault
refusal_of token Unexpected = fault.Refused (Syntax token.at)
refusal_of token InText = fault.Refused (Syntax (text_place token.at token.lexeme))
refusal_of token Memory = fault.Memory

-- the statement that has been read to its end
abbrev pub done_with : Reading → Option Statement
done_with (Done statement) = Some statement
done_with _ = None

-- the statement, where there is one
abbrev pub ended : Option Statement → Result Statement ParseFault
ended (Some statement) = Ok statement
ended None = Err fault.Memory

-- a token is refused, or the next ones are read
abbrev pub or_refused : Token → Step Reading → (Reading → Result Statement ParseFault) → Result Statement ParseFault
or_refused token (Ok reading) f = f reading
or_refused token (Err e) f = Err (refusal_of token e)

-- the tokens are read one by one, up to the first that is refused
abbrev pub run : Reading → List Token → Result Statement ParseFault
run reading [] = ended (done_with reading)
run reading (t ∷ ts) = or_refused t (next reading t.lexeme) (λ following. run following ts)

-- the call's fault is that of the outcome, but for want of memory
abbrev pub FailsAs : ParseFault → Result Statement ParseFault → Type 0
FailsAs fault.Memory outcome = Unit {0}
FailsAs (fault.Refused refusal) outcome = outcome ≡ Err (fault.Refused refusal)

-- a call returns this outcome, or finds no memory
abbrev pub ReadsAs : Result Statement ParseFault → Result Statement ParseFault → Type 0
ReadsAs (Ok statement) outcome = outcome ≡ Ok statement
ReadsAs (Err e) outcome = FailsAs e outcome
