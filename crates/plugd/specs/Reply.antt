-- The text of a reply. The texts are this project's.
use Rattle.std.specs.Prelude.{◌++◌, ◌∷◌, [], ℕ, List, codes}
use Rattle.std.specs.Fmt.{decimal}
use Rattle.sql_value.specs.declared.refusal.Refusal.{Refusal}
use Rattle.sql_value.specs.Refusals.{refusal_number, refusal_text}
use Rattle.schedule_text.specs.Printed.{rows_text}
use Rattle.plugd.specs.declared.reply.HaltCause.{HaltCause}
use Rattle.plugd.specs.declared.reply.HaltCause.TheVariants.{Device, NotAVolume}
use Rattle.plugd.specs.declared.reply.Reply.{Reply}
use Rattle.plugd.specs.declared.reply.Reply.TheVariants.{Done, Refused, Rows, Halted, BadLine}

-- what a line ends with
abbrev pub line_feed : List ℕ
line_feed = 10 ∷ []

-- a line that ends with a number in decimal
abbrev pub numbered : List ℕ → ℕ → List ℕ
numbered front number = front ++ (decimal number ++ line_feed)

-- the line of a statement that was logged: how many rows it counts, and its number
abbrev pub done_text : ℕ → ℕ → List ℕ
done_text count number = codes "1 ok " ++ (decimal count ++ numbered (codes " #") number)

-- the line of a statement that is refused: the number of its code, and its text
abbrev pub refused_text : Refusal → List ℕ
refused_text refusal = codes "1 error " ++ (decimal (refusal_number refusal) ++ (32 ∷ (refusal_text refusal ++ line_feed)))

-- the line of a run that is halted
abbrev pub halted_text : HaltCause → List ℕ
halted_text Device = codes "1 halted device" ++ line_feed
halted_text (NotAVolume file) = numbered (codes "1 halted volume ") file

-- the lines that are written for a reply: one, but for rows
abbrev pub text_of : Reply → List ℕ
text_of (Done count number) = done_text count number
text_of (Refused refusal) = refused_text refusal
text_of (Rows rows) = rows_text 1 rows
text_of (Halted cause) = halted_text cause
text_of (BadLine line) = numbered (codes "? ") line
