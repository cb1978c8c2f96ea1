-- The words of the grammar. (MySQL 5.7 Reference Manual, "Keywords and Reserved Words", of which these are used here.)
use Rattle.std.specs.Prelude.{ℕ, List, [], ◌∷◌, Option, Some, None, if◌then◌else◌, codes}
use Rattle.std.specs.Str.{str_eq_ignore_ascii_case}
use Rattle.sql_text.specs.declared.keyword.Keyword.{Keyword}
use Rattle.sql_text.specs.declared.keyword.Keyword.TheVariants.{And, BigInt, Begin, Commit, Create, Delete, Drop, Engine, From}
use Rattle.sql_text.specs.declared.keyword.Keyword.TheVariants.{Insert, Install, Into, Is, Key, Not, Null, Or, Plugin, Primary}
use Rattle.sql_text.specs.declared.keyword.Keyword.TheVariants.{Release, Rollback, Savepoint, Select, Set, Soname, Start, Table}
use Rattle.sql_text.specs.declared.keyword.Keyword.TheVariants.{To, Transaction, Uninstall, Update, Values, VarChar, Where, Work}

-- its letters, in upper case
abbrev pub keyword_text : Keyword → List ℕ
keyword_text And = codes "AND"
keyword_text BigInt = codes "BIGINT"
keyword_text Begin = codes "BEGIN"
keyword_text Commit = codes "COMMIT"
keyword_text Create = codes "CREATE"
keyword_text Delete = codes "DELETE"
keyword_text Drop = codes "DROP"
keyword_text Engine = codes "ENGINE"
keyword_text From = codes "FROM"
keyword_text Insert = codes "INSERT"
keyword_text Install = codes "INSTALL"
keyword_text Into = codes "INTO"
keyword_text Is = codes "IS"
keyword_text Key = codes "KEY"
keyword_text Not = codes "NOT"
keyword_text Null = codes "NULL"
keyword_text Or = codes "OR"
keyword_text Plugin = codes "PLUGIN"
keyword_text Primary = codes "PRIMARY"
keyword_text Release = codes "RELEASE"
keyword_text Rollback = codes "ROLLBACK"
keyword_text Savepoint = codes "SAVEPOINT"
keyword_text Select = codes "SELECT"
keyword_text Set = codes "SET"
keyword_text Soname = codes "SONAME"
keyword_text Start = codes "START"
keyword_text Table = codes "TABLE"
keyword_text To = codes "TO"
keyword_text Transaction = codes "TRANSACTION"
keyword_text Uninstall = codes "UNINSTALL"
keyword_text Update = codes "UPDATE"
keyword_text Values = codes "VALUES"
keyword_text VarChar = codes "VARCHAR"
keyword_text Where = codes "WHERE"
keyword_text Work = codes "WORK"

-- all of them
abbrev pub keywords : List Keyword
keywords =
    And ∷ BigInt ∷ Begin ∷ Commit ∷ Create ∷ Delete ∷ Drop ∷ Engine ∷ From ∷ Insert ∷ Install ∷ Into ∷ Is ∷ Key ∷ Not ∷ Null
    ∷ Or ∷ Plugin ∷ Primary ∷ Release ∷ Rollback ∷ Savepoint ∷ Select ∷ Set ∷ Soname ∷ Start ∷ Table ∷ To ∷ Transaction
    ∷ Uninstall ∷ Update ∷ Values ∷ VarChar ∷ Where ∷ Work ∷ []

-- the first of these keywords that the word is, without regard to ASCII case
abbrev pub keyword_in : List Keyword → List ℕ → Option Keyword
keyword_in [] word = None
keyword_in (k ∷ ks) word = if str_eq_ignore_ascii_case (keyword_text k) word then Some k else keyword_in ks word

-- the keyword that the word is
unfoldable pub keyword_of : List ℕ → Option Keyword
keyword_of word = keyword_in keywords word
