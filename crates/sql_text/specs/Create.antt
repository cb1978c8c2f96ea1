-- CREATE TABLE. (MySQL 5.7 Reference Manual, "CREATE TABLE Statement", of which these items and options are here)
use Rattle.std.specs.Prelude.{ℕ, true, false, not, ◌&&◌, List, [], ◌∷◌, ◌++◌, Option, Some, None, Ok, Err, if◌then◌else◌}
use Rattle.sql_text.specs.declared.create.ColumnDue.{ColumnDue}
use Rattle.sql_text.specs.declared.create.ColumnDue.TheVariants as columns
use Rattle.sql_text.specs.declared.create.ColumnRead.{ColumnRead}
use Rattle.sql_text.specs.declared.create.CreateDue.{CreateDue}
use Rattle.sql_text.specs.declared.create.CreateDue.TheVariants as due
use Rattle.sql_text.specs.declared.create.CreateHead.{CreateHead}
use Rattle.sql_text.specs.declared.create.Creating.{Creating as Part}
use Rattle.sql_text.specs.declared.create.KeyDue.{KeyDue}
use Rattle.sql_text.specs.declared.create.KeyDue.TheVariants as keys
use Rattle.sql_text.specs.declared.keyword.Keyword.{Keyword}
use Rattle.sql_text.specs.declared.keyword.Keyword.TheVariants as words
use Rattle.sql_text.specs.declared.lexeme.Lexeme.{Lexeme}
use Rattle.sql_text.specs.declared.lexeme.Lexeme.TheVariants.{Number}
use Rattle.sql_text.specs.declared.lexeme.Sign.{Sign}
use Rattle.sql_text.specs.declared.lexeme.Sign.TheVariants as signs
use Rattle.sql_text.specs.declared.reading.Reading.{Reading}
use Rattle.sql_text.specs.declared.reading.Reading.TheVariants.{Creating, Whole}
use Rattle.sql_text.specs.declared.statement.Item.{Item}
use Rattle.sql_text.specs.declared.statement.Item.TheVariants.{Column, Key}
use Rattle.sql_text.specs.declared.statement.Statement.TheVariants.{Create}
use Rattle.sql_text.specs.declared.statement.TypeName.{TypeName}
use Rattle.sql_text.specs.declared.statement.TypeName.TheVariants.{BigInt, VarChar}
use Rattle.sql_text.specs.declared.step.StepFault.TheVariants.{Unexpected}
use Rattle.sql_text.specs.Numbers.{small_number}
use Rattle.sql_text.specs.Steps.{Step, ◌>>=◌, is_word, is_sign, column_in, engine_in}

-- what has been read, and this is due
abbrev pub with_due : CreateHead → CreateDue → Reading
with_due h next_due = Creating (record { head = h; due = next_due })

-- this sign, and then what is due
abbrev pub after_sign : CreateHead → Lexeme → Sign → CreateDue → Step Reading
after_sign h l sign next_due = if is_sign sign l then Ok (with_due h next_due) else Err Unexpected

-- this word, and then what is due
abbrev pub after_word : CreateHead → Lexeme → Keyword → CreateDue → Step Reading
after_word h l word next_due = if is_word word l then Ok (with_due h next_due) else Err Unexpected

-- one item more
abbrev pub with_item : CreateHead → Item → Step CreateHead
with_item h entry = Ok (record { table = h.table; items = h.items ++ entry ∷ [] })

-- `,` and a further item, or `)`
abbrev pub more : CreateHead → Lexeme → Step Reading
more h l = if is_sign signs.Comma l then Ok (with_due h due.Item) else after_sign h l signs.Close due.Engine

-- the name of a column
abbrev pub column_name : CreateHead → Lexeme → Step Reading
column_name h l = do
  name ← column_in l
  Ok (with_due h (due.Column name columns.Kind))

-- PRIMARY, or the name of a column
unfoldable pub item : CreateHead → Lexeme → Step Reading
item h l = if is_word words.Primary l then Ok (with_due h (due.Key keys.Key)) else column_name h l

-- a column with its type and no option
abbrev pub options : CreateHead → List ℕ → TypeName → Reading
options h name kind = with_due h (due.Options (record { name = name; kind = kind; null = false; not_null = false; key = false }))

-- BIGINT or VARCHAR
abbrev pub kind : CreateHead → List ℕ → Lexeme → Step Reading
kind h name l =
    if is_word words.BigInt l then Ok (options h name BigInt) else after_word h l words.VarChar (due.Column name columns.Open)

-- a number from 1 to 255
abbrev pub small_in : Lexeme → Option ℕ
small_in (Number n) = small_number n
small_in _ = None

-- the length of a VARCHAR
abbrev pub length_of : CreateHead → List ℕ → Option ℕ → Step Reading
length_of h name (Some len) = Ok (with_due h (due.Column name (columns.Close len)))
length_of h name None = Err Unexpected

-- the lexeme that is one
abbrev pub length_next : CreateHead → List ℕ → Lexeme → Step Reading
length_next h name l = length_of h name (small_in l)

-- column BIGINT, column VARCHAR ( n )
abbrev pub column : CreateHead → List ℕ → ColumnDue → Lexeme → Step Reading
column h name columns.Kind l = kind h name l
column h name columns.Open l = after_sign h l signs.Open (due.Column name columns.Length)
column h name columns.Length l = length_next h name l
column h name (columns.Close len) l = if is_sign signs.Close l then Ok (options h name (VarChar len)) else Err Unexpected

-- what follows a column
unfoldable pub after_column : CreateHead → ColumnRead → Lexeme → Step Reading
after_column h c l = do
  further ← with_item h (Column c.name c.kind c.null c.not_null c.key)
  more further l

-- the column with the option NULL
abbrev pub with_null : ColumnRead → ColumnRead
with_null c = record { name = c.name; kind = c.kind; null = true; not_null = c.not_null; key = c.key }

-- the column with the option NOT NULL
abbrev pub with_not_null : ColumnRead → ColumnRead
with_not_null c = record { name = c.name; kind = c.kind; null = c.null; not_null = true; key = c.key }

-- the column with the option PRIMARY KEY
abbrev pub with_key : ColumnRead → ColumnRead
with_key c = record { name = c.name; kind = c.kind; null = c.null; not_null = c.not_null; key = true }

-- an option that the column has not yet, or what follows it
abbrev pub option : CreateHead → ColumnRead → Lexeme → Step Reading
option h c l =
    if is_word words.Not l && not c.not_null then Ok (with_due h (due.OptionNull c))
    else (if is_word words.Null l && not c.null then Ok (with_due h (due.Options (with_null c)))
    else (if is_word words.Primary l && not c.key then Ok (with_due h (due.OptionKey c))
    else after_column h c l))

-- the key's column
unfoldable pub key_column : CreateHead → Lexeme → Step Reading
key_column h l = do
  name ← column_in l
  Ok (with_due h (due.KeyClose name))

-- PRIMARY KEY ( column
abbrev pub key : CreateHead → KeyDue → Lexeme → Step Reading
key h keys.Key l = after_word h l words.Key (due.Key keys.Open)
key h keys.Open l = after_sign h l signs.Open (due.Key keys.Column)
key h keys.Column l = key_column h l

-- a key is whole
abbrev pub with_key_item : CreateHead → List ℕ → Step Reading
with_key_item h name = do
  further ← with_item h (Key name)
  Ok (with_due further due.More)

-- `)` behind the key's column
unfoldable pub key_close : CreateHead → List ℕ → Lexeme → Step Reading
key_close h name l = if is_sign signs.Close l then with_key_item h name else Err Unexpected

-- the name of the engine, and the statement is whole
unfoldable pub engine_name : CreateHead → Lexeme → Step Reading
engine_name h l = do
  engine ← engine_in l
  Ok (Whole (Create h.table h.items engine))

-- `=` may stand before it
abbrev pub equal : CreateHead → Lexeme → Step Reading
equal h l = if is_sign signs.Equal l then Ok (with_due h due.EngineName) else engine_name h l

-- what is due
abbrev pub at : CreateHead → CreateDue → Lexeme → Step Reading
at h due.Open l = after_sign h l signs.Open due.Item
at h due.Item l = item h l
at h (due.Column name next_due) l = column h name next_due l
at h (due.Options c) l = option h c l
at h (due.OptionNull c) l = after_word h l words.Null (due.Options (with_not_null c))
at h (due.OptionKey c) l = after_word h l words.Key (due.Options (with_key c))
at h (due.Key next_due) l = key h next_due l
at h (due.KeyClose name) l = key_close h name l
at h due.More l = more h l
at h due.Engine l = after_word h l words.Engine due.Equal
at h due.Equal l = equal h l
at h due.EngineName l = engine_name h l

-- CREATE TABLE table ( item, item ) ENGINE [=] engine
unfoldable pub next : Part → Lexeme → Step Reading
next c l = at c.head c.due l
