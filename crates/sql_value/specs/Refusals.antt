-- The number and the printed text of each refusal. The texts are this project's, and so are the numbers from 9001 on.
-- (The other numbers: MySQL 5.7 Error Message Reference, "Server Error Message Reference")
use Rattle.std.specs.Prelude.{ℕ, List, [], ◌∷◌, ◌++◌, codes, flat_map}
use Rattle.std.specs.Fmt.{decimal}
use Rattle.sql_value.specs.declared.refusal.Refusal.{Refusal}
use Rattle.sql_value.specs.declared.refusal.Refusal.TheVariants.{StatementTooLong, Syntax, Deadlock, NoSuchSavepoint}
use Rattle.sql_value.specs.declared.refusal.Refusal.TheVariants.{NoSuchTable, TableExists, PluginInstalled, PluginDying}
use Rattle.sql_value.specs.declared.refusal.Refusal.TheVariants.{NoSuchLibrary, PluginNotInstalled, PluginSlotsSpent}
use Rattle.sql_value.specs.declared.refusal.Refusal.TheVariants.{UnknownEngine, SchemaUnsuitable, UnknownColumn}
use Rattle.sql_value.specs.declared.refusal.Refusal.TheVariants.{ValueCount, WrongType, OutOfRange, ColumnNotNullable}
use Rattle.sql_value.specs.declared.refusal.Refusal.TheVariants.{DataTooLong, DuplicateEntry, TableFull}
use Rattle.sql_value.specs.declared.refusal.Refusal.TheVariants.{TransactionTooLarge, LogSpent, NotBuilt}

-- the number of its code
abbrev pub refusal_number : Refusal → ℕ
refusal_number StatementTooLong = 9007
refusal_number (Syntax at) = 1064
refusal_number (Deadlock cycle) = 1213
refusal_number NoSuchSavepoint = 1305
refusal_number NoSuchTable = 1146
refusal_number TableExists = 1050
refusal_number PluginInstalled = 9001
refusal_number PluginDying = 9002
refusal_number NoSuchLibrary = 9003
refusal_number PluginNotInstalled = 9004
refusal_number PluginSlotsSpent = 9005
refusal_number UnknownEngine = 1286
refusal_number SchemaUnsuitable = 9006
refusal_number UnknownColumn = 1054
refusal_number ValueCount = 1136
refusal_number WrongType = 9010
refusal_number OutOfRange = 1264
refusal_number ColumnNotNullable = 1048
refusal_number DataTooLong = 1406
refusal_number DuplicateEntry = 1062
refusal_number TableFull = 1114
refusal_number TransactionTooLarge = 9008
refusal_number LogSpent = 9009
refusal_number NotBuilt = 9099

-- the words that its text begins with
abbrev pub refusal_words : Refusal → List ℕ
refusal_words StatementTooLong = codes "statement too long"
refusal_words (Syntax at) = codes "syntax at"
refusal_words (Deadlock cycle) = codes "deadlock"
refusal_words NoSuchSavepoint = codes "no such savepoint"
refusal_words NoSuchTable = codes "no such table"
refusal_words TableExists = codes "table exists"
refusal_words PluginInstalled = codes "plugin is installed"
refusal_words PluginDying = codes "plugin is dying"
refusal_words NoSuchLibrary = codes "no such library"
refusal_words PluginNotInstalled = codes "plugin is not installed"
refusal_words PluginSlotsSpent = codes "plugin slots spent"
refusal_words UnknownEngine = codes "unknown engine"
refusal_words SchemaUnsuitable = codes "schema does not suit"
refusal_words UnknownColumn = codes "unknown column"
refusal_words ValueCount = codes "value count"
refusal_words WrongType = codes "wrong type"
refusal_words OutOfRange = codes "out of range"
refusal_words ColumnNotNullable = codes "column cannot be null"
refusal_words DataTooLong = codes "data too long"
refusal_words DuplicateEntry = codes "duplicate entry"
refusal_words TableFull = codes "table full"
refusal_words TransactionTooLarge = codes "transaction too large"
refusal_words LogSpent = codes "log spent"
refusal_words NotBuilt = codes "not built"

-- the numbers behind them: the place of a syntax fault, the owners of a cycle of waits
abbrev pub refusal_numbers : Refusal → List ℕ
refusal_numbers (Syntax at) = at ∷ []
refusal_numbers (Deadlock cycle) = cycle
refusal_numbers _ = []

-- each number in decimal behind a space
abbrev pub spaced : List ℕ → List ℕ
spaced numbers = flat_map (λ number. 32 ∷ decimal number) numbers

-- the text that is printed: its words, then its numbers
abbrev pub refusal_text : Refusal → List ℕ
refusal_text refusal = refusal_words refusal ++ spaced (refusal_numbers refusal)
