-- The forms of statements, as lists of lexemes.
-- (MySQL 5.7 Reference Manual, "SQL Statements", of which these are here)
use Rattle.std.specs.Prelude.{◌≡◌, ◌≤◌, ◌⊎◌, ◌||◌, ℕ, Bool, true, false, List, [], ◌∷◌, ◌++◌, map, Option, Some, None}
use Rattle.std.specs.Char.{to_ascii_lowercase, to_ascii_uppercase}
use Rattle.sql_text.specs.declared.keyword.Keyword.{Keyword as Words}
use Rattle.sql_text.specs.declared.keyword.Keyword.TheVariants as words
use Rattle.sql_text.specs.declared.lexeme.Lexeme.{Lexeme}
use Rattle.sql_text.specs.declared.lexeme.Lexeme.TheVariants.{Keyword, Name, Number, Text, Sign, End}
use Rattle.sql_text.specs.declared.lexeme.Sign.TheVariants as signs
use Rattle.sql_text.specs.declared.statement.Item.{Item}
use Rattle.sql_text.specs.declared.statement.Item.TheVariants as item
use Rattle.sql_text.specs.declared.statement.Statement.{Statement}
use Rattle.sql_text.specs.declared.statement.Statement.TheVariants as statement
use Rattle.sql_text.specs.declared.statement.TypeName.{TypeName}
use Rattle.sql_text.specs.declared.statement.TypeName.TheVariants.{BigInt, VarChar}
use Rattle.sql_text.specs.Conditions.{IsFilter}
use Rattle.sql_text.specs.Parts.{IsAssign, IsColumn, IsList, IsRow}

-- BIGINT, or VARCHAR ( n ) with n from 1 to 255
abbrev pub IsType : List Lexeme → TypeName → Type 0
IsType ls BigInt = ls ≡ Keyword words.BigInt ∷ []
IsType ls (VarChar n) =
    (1 ≤ n) × (n ≤ 255) × (ls ≡ Keyword words.VarChar ∷ Sign signs.Open ∷ Number n ∷ Sign signs.Close ∷ [])

-- an option of a column
pub data Choice : Type 0 where
  may_null : Choice
  no_null : Choice
  is_key : Choice

-- NULL, NOT NULL, PRIMARY KEY
abbrev pub choice_words : Choice → List Lexeme
choice_words may_null = Keyword words.Null ∷ []
choice_words no_null = Keyword words.Not ∷ Keyword words.Null ∷ []
choice_words is_key = Keyword words.Primary ∷ Keyword words.Key ∷ []

-- the words of options, one behind the other
abbrev pub words_of : List Choice → List Lexeme
words_of [] = []
words_of (o ∷ os) = choice_words o ++ words_of os

-- the two are the same option
abbrev pub is_same : Choice → Choice → Bool
is_same may_null may_null = true
is_same no_null no_null = true
is_same is_key is_key = true
is_same _ _ = false

-- the option is one of these
abbrev pub has : Choice → List Choice → Bool
has o [] = false
has o (p ∷ ps) = is_same o p || has o ps

-- no option stands twice
abbrev pub AreDistinct : List Choice → Type 0
AreDistinct [] = Unit {0}
AreDistinct (o ∷ os) = (has o os ≡ false) × AreDistinct os

-- column type options, or PRIMARY KEY ( column )
abbrev pub IsItem : List Lexeme → Item → Type 0
IsItem ls (item.Column name kind null not_null key) =
    (word : List Lexeme) × (type : List Lexeme) × (choices : List Choice)
    × (ls ≡ word ++ (type ++ words_of choices)) × IsColumn word name × IsType type kind × AreDistinct choices
    × (null ≡ has may_null choices) × (not_null ≡ has no_null choices) × (key ≡ has is_key choices)
IsItem ls (item.Key column) =
    (word : List ℕ) × (ls ≡ Keyword words.Primary ∷ Keyword words.Key ∷ Sign signs.Open ∷ Name word ∷ Sign signs.Close ∷ [])
    × (column ≡ map to_ascii_lowercase word)

-- `*`, or columns
abbrev pub AreColumns : List Lexeme → Option (List (List ℕ)) → Type 0
AreColumns ls None = ls ≡ Sign signs.Star ∷ []
AreColumns ls (Some columns) = IsList IsColumn ls columns

-- a word that may be left out
abbrev pub may_be : Bool → Words → List Lexeme → List Lexeme
may_be true w ls = Keyword w ∷ ls
may_be false w ls = ls

-- a `=` that may be left out
abbrev pub may_equal : Bool → List Lexeme → List Lexeme
may_equal true ls = Sign signs.Equal ∷ ls
may_equal false ls = ls

-- the form of a statement
abbrev pub IsForm : List Lexeme → Statement → Type 0
IsForm ls (statement.Create table items engine) =
    (body : List Lexeme) × (equal : Bool) × (word : List ℕ)
    × (ls ≡ Keyword words.Create ∷ Keyword words.Table ∷ Name table ∷ Sign signs.Open
    ∷ (body ++ Sign signs.Close ∷ Keyword words.Engine ∷ may_equal equal (Name word ∷ [])))
    × IsList IsItem body items × (engine ≡ map to_ascii_uppercase word)
IsForm ls (statement.Drop table) = ls ≡ Keyword words.Drop ∷ Keyword words.Table ∷ Name table ∷ []
IsForm ls (statement.Insert table rows) =
    (body : List Lexeme) × (ls ≡ Keyword words.Insert ∷ Keyword words.Into ∷ Name table ∷ Keyword words.Values ∷ body) × IsList IsRow body rows
IsForm ls (statement.Select table columns cond) =
    (body : List Lexeme) × (filter : List Lexeme) × (ls ≡ Keyword words.Select ∷ (body ++ Keyword words.From ∷ Name table ∷ filter))
    × AreColumns body columns × IsFilter filter cond
IsForm ls (statement.Update table sets cond) =
    (body : List Lexeme) × (filter : List Lexeme) × (ls ≡ Keyword words.Update ∷ Name table ∷ Keyword words.Set ∷ (body ++ filter))
    × IsList IsAssign body sets × IsFilter filter cond
IsForm ls (statement.Delete table cond) =
    (filter : List Lexeme) × (ls ≡ Keyword words.Delete ∷ Keyword words.From ∷ Name table ∷ filter) × IsFilter filter cond
IsForm ls statement.Begin =
    (ls ≡ Keyword words.Begin ∷ []) ⊎ (ls ≡ Keyword words.Begin ∷ Keyword words.Work ∷ [])
    ⊎ (ls ≡ Keyword words.Start ∷ Keyword words.Transaction ∷ [])
IsForm ls statement.Commit = (ls ≡ Keyword words.Commit ∷ []) ⊎ (ls ≡ Keyword words.Commit ∷ Keyword words.Work ∷ [])
IsForm ls statement.Rollback = (ls ≡ Keyword words.Rollback ∷ []) ⊎ (ls ≡ Keyword words.Rollback ∷ Keyword words.Work ∷ [])
IsForm ls (statement.Savepoint point) = (name : List Lexeme) × (ls ≡ Keyword words.Savepoint ∷ name) × IsColumn name point
IsForm ls (statement.RollbackTo point) =
    (work : Bool) × (savepoint : Bool) × (name : List Lexeme)
    × (ls ≡ Keyword words.Rollback ∷ may_be work words.Work (Keyword words.To ∷ may_be savepoint words.Savepoint name)) × IsColumn name point
IsForm ls (statement.Release point) =
    (name : List Lexeme) × (ls ≡ Keyword words.Release ∷ Keyword words.Savepoint ∷ name) × IsColumn name point
IsForm ls (statement.Install name soname) =
    (word : List ℕ) × (ls ≡ Keyword words.Install ∷ Keyword words.Plugin ∷ Name word ∷ Keyword words.Soname ∷ Text soname ∷ [])
    × (name ≡ map to_ascii_uppercase word)
IsForm ls (statement.Uninstall name) =
    (word : List ℕ) × (ls ≡ Keyword words.Uninstall ∷ Keyword words.Plugin ∷ Name word ∷ []) × (name ≡ map to_ascii_uppercase word)

-- the end of the text, with a `;` before it or without
abbrev pub IsEnd : List Lexeme → Type 0
IsEnd ls = (ls ≡ End ∷ []) ⊎ (ls ≡ Sign signs.Semicolon ∷ End ∷ [])

-- a statement in its form, and the end of the text
abbrev pub IsStatement : List Lexeme → Statement → Type 0
IsStatement ls s = (body : List Lexeme) × (end : List Lexeme) × (ls ≡ body ++ end) × IsForm body s × IsEnd end
