-- Which lexemes complete what has been read, by the forms of statements.
use Rattle.std.proofs.Common.{◌≡◌, ◌⊎◌, ◌≤◌, ℕ, neg_ℤ, pos, ◌+◌, Bool, true, List, [], ◌∷◌, ◌++◌, replicate, Option, Some, None, map}
use Rattle.std.specs.Char.{to_ascii_lowercase, to_ascii_uppercase}
use Rattle.sql_text.specs.declared.create.ColumnDue.{ColumnDue}
use Rattle.sql_text.specs.declared.create.ColumnDue.TheVariants as columns
use Rattle.sql_text.specs.declared.create.ColumnRead.{ColumnRead}
use Rattle.sql_text.specs.declared.create.CreateDue.{CreateDue}
use Rattle.sql_text.specs.declared.create.CreateDue.TheVariants as create
use Rattle.sql_text.specs.declared.create.CreateHead.{CreateHead}
use Rattle.sql_text.specs.declared.create.KeyDue.{KeyDue}
use Rattle.sql_text.specs.declared.create.KeyDue.TheVariants as keys
use Rattle.sql_text.specs.declared.filter.FilterDue.{FilterDue}
use Rattle.sql_text.specs.declared.filter.FilterDue.TheVariants as filter
use Rattle.sql_text.specs.declared.filter.Head.{Head}
use Rattle.sql_text.specs.declared.filter.Head.TheVariants as head
use Rattle.sql_text.specs.declared.filter.Level.{Level}
use Rattle.sql_text.specs.declared.filter.Tests.{Tests}
use Rattle.sql_text.specs.declared.insert.InsertDue.{InsertDue}
use Rattle.sql_text.specs.declared.insert.InsertDue.TheVariants as insert
use Rattle.sql_text.specs.declared.keyword.Keyword.TheVariants as words
use Rattle.sql_text.specs.declared.lexeme.Lexeme.{Lexeme}
use Rattle.sql_text.specs.declared.lexeme.Lexeme.TheVariants.{Keyword, Name, Number, Text, Sign, End}
use Rattle.sql_text.specs.declared.lexeme.Sign.TheVariants as signs
use Rattle.sql_text.specs.declared.opening.Opening.{Opening as OpeningPart}
use Rattle.sql_text.specs.declared.opening.Opening.TheVariants as opening
use Rattle.sql_text.specs.declared.plugin.Plugging.{Plugging as PluggingPart}
use Rattle.sql_text.specs.declared.plugin.Plugging.TheVariants as plugging
use Rattle.sql_text.specs.declared.reading.Reading.{Reading}
use Rattle.sql_text.specs.declared.reading.Reading.TheVariants.{Start, Opening, Transacting, Plugging, Creating, Inserting}
use Rattle.sql_text.specs.declared.reading.Reading.TheVariants.{Selecting, Updating, Head as Headed, Filtering, Whole, Closed, Done}
use Rattle.sql_text.specs.declared.select.SelectDue.{SelectDue}
use Rattle.sql_text.specs.declared.select.SelectDue.TheVariants as select
use Rattle.sql_text.specs.declared.statement.Assign.{Assign}
use Rattle.sql_text.specs.declared.statement.Cond.{Cond}
use Rattle.sql_text.specs.declared.statement.Item.{Item}
use Rattle.sql_text.specs.declared.statement.Item.TheVariants as item
use Rattle.sql_text.specs.declared.statement.Literal.{Literal}
use Rattle.sql_text.specs.declared.statement.Literal.TheVariants as literal
use Rattle.sql_text.specs.declared.statement.Literals.{Literals}
use Rattle.sql_text.specs.declared.statement.Op.{Op}
use Rattle.sql_text.specs.declared.statement.Operand.{Operand}
use Rattle.sql_text.specs.declared.statement.Operand.TheVariants as operand
use Rattle.sql_text.specs.declared.statement.Statement.{Statement}
use Rattle.sql_text.specs.declared.statement.Statement.TheVariants as statement
use Rattle.sql_text.specs.declared.statement.Step.{Step as CondStep}
use Rattle.sql_text.specs.declared.statement.Step.TheVariants.{Not, Compare, IsNull}
use Rattle.sql_text.specs.declared.statement.Sum.{Sum}
use Rattle.sql_text.specs.declared.statement.Term.{Term}
use Rattle.sql_text.specs.declared.statement.TypeName.{TypeName}
use Rattle.sql_text.specs.declared.statement.TypeName.TheVariants.{VarChar}
use Rattle.sql_text.specs.declared.sum.Summing.{Summing}
use Rattle.sql_text.specs.declared.sum.Summing.TheVariants as sums
use Rattle.sql_text.specs.declared.transaction.Transacting.{Transacting as TransactingPart}
use Rattle.sql_text.specs.declared.transaction.Transacting.TheVariants as transacting
use Rattle.sql_text.specs.declared.update.UpdateDue.{UpdateDue}
use Rattle.sql_text.specs.declared.update.UpdateDue.TheVariants as update
use Rattle.sql_text.specs.Conditions.{IsFilter, IsPart, member, ands, ors, joined_by_and, joined_by_or, null_words, sign_of}
use Rattle.sql_text.specs.Create.{with_not_null, with_key}
use Rattle.sql_text.specs.Filter.{finish}
use Rattle.sql_text.specs.Forms.{Choice, IsEnd, IsItem, IsStatement, IsType, may_be, may_equal}
use Rattle.sql_text.proofs.Options.{AreChoices, bare_column}
use Rattle.sql_text.specs.Parts.{AreTerms, IsAssign, IsColumn, IsList, IsLiteral, IsOperand, IsRow, IsSum}

-- the end of this statement
abbrev pub EndsAs : Statement → List Lexeme → Statement → Type 0
EndsAs whole ls s = IsEnd ls × (whole ≡ s)

-- ---- first words

abbrev pub AfterOpening : OpeningPart → List Lexeme → Statement → Type 0
AfterOpening opening.CreateTable ls s = IsStatement (Keyword words.Create ∷ ls) s
AfterOpening opening.CreateName ls s = IsStatement (Keyword words.Create ∷ Keyword words.Table ∷ ls) s
AfterOpening opening.DropTable ls s = IsStatement (Keyword words.Drop ∷ ls) s
AfterOpening opening.DropName ls s = IsStatement (Keyword words.Drop ∷ Keyword words.Table ∷ ls) s
AfterOpening opening.InsertInto ls s = IsStatement (Keyword words.Insert ∷ ls) s
AfterOpening opening.InsertName ls s = IsStatement (Keyword words.Insert ∷ Keyword words.Into ∷ ls) s
AfterOpening opening.UpdateName ls s = IsStatement (Keyword words.Update ∷ ls) s
AfterOpening (opening.UpdateSet t) ls s = IsStatement (Keyword words.Update ∷ Name t ∷ ls) s
AfterOpening opening.DeleteFrom ls s = IsStatement (Keyword words.Delete ∷ ls) s
AfterOpening opening.DeleteName ls s = IsStatement (Keyword words.Delete ∷ Keyword words.From ∷ ls) s

abbrev pub AfterTo : List Lexeme → Statement → Type 0
AfterTo ls s = (word : List ℕ) × (end : List Lexeme) × (ls ≡ Name word ∷ end) × EndsAs (statement.RollbackTo (map to_ascii_lowercase word)) end s

abbrev pub AfterTransacting : TransactingPart → List Lexeme → Statement → Type 0
AfterTransacting transacting.BeginWork ls s = IsStatement (Keyword words.Begin ∷ ls) s
AfterTransacting transacting.StartTransaction ls s = IsStatement (Keyword words.Start ∷ ls) s
AfterTransacting transacting.CommitWork ls s = IsStatement (Keyword words.Commit ∷ ls) s
AfterTransacting transacting.RollbackWork ls s = IsStatement (Keyword words.Rollback ∷ ls) s
AfterTransacting transacting.RollbackTo ls s = IsStatement (Keyword words.Rollback ∷ Keyword words.Work ∷ ls) s
AfterTransacting transacting.ToSavepoint ls s = (savepoint : Bool) × (rest : List Lexeme) × (ls ≡ may_be savepoint words.Savepoint rest) × AfterTo rest s
AfterTransacting transacting.ToName ls s = AfterTo ls s
AfterTransacting transacting.SavepointName ls s = IsStatement (Keyword words.Savepoint ∷ ls) s
AfterTransacting transacting.ReleaseSavepoint ls s = IsStatement (Keyword words.Release ∷ ls) s
AfterTransacting transacting.ReleaseName ls s = IsStatement (Keyword words.Release ∷ Keyword words.Savepoint ∷ ls) s

abbrev pub AfterSoname : List ℕ → List Lexeme → Statement → Type 0
AfterSoname name ls s = (text : List ℕ) × (end : List Lexeme) × (ls ≡ Text text ∷ end) × EndsAs (statement.Install name text) end s

abbrev pub AfterPlugging : PluggingPart → List Lexeme → Statement → Type 0
AfterPlugging plugging.InstallPlugin ls s = IsStatement (Keyword words.Install ∷ ls) s
AfterPlugging plugging.InstallName ls s = IsStatement (Keyword words.Install ∷ Keyword words.Plugin ∷ ls) s
AfterPlugging (plugging.InstallSoname name) ls s = (rest : List Lexeme) × (ls ≡ Keyword words.Soname ∷ rest) × AfterSoname name rest s
AfterPlugging (plugging.InstallFile name) ls s = AfterSoname name ls s
AfterPlugging plugging.UninstallPlugin ls s = IsStatement (Keyword words.Uninstall ∷ ls) s
AfterPlugging plugging.UninstallName ls s = IsStatement (Keyword words.Uninstall ∷ Keyword words.Plugin ∷ ls) s

-- ---- CREATE

abbrev pub with_items : CreateHead → List Item → CreateHead
with_items h xs = record { table = h.table; items = h.items ++ xs }

abbrev pub item_of : ColumnRead → Item
item_of c = item.Column c.name c.kind c.null c.not_null c.key

abbrev pub AtEngineName : CreateHead → List Lexeme → Statement → Type 0
AtEngineName h ls s =
    (word : List ℕ) × (end : List Lexeme) × (ls ≡ Name word ∷ end) × EndsAs (statement.Create h.table h.items (map to_ascii_uppercase word)) end s

abbrev pub AtEqual : CreateHead → List Lexeme → Statement → Type 0
AtEqual h ls s = (equal : Bool) × (rest : List Lexeme) × (ls ≡ may_equal equal rest) × AtEngineName h rest s

abbrev pub AtEngine : CreateHead → List Lexeme → Statement → Type 0
AtEngine h ls s = (rest : List Lexeme) × (ls ≡ Keyword words.Engine ∷ rest) × AtEqual h rest s

abbrev pub AtItem : CreateHead → List Lexeme → Statement → Type 0
AtItem h ls s =
    (body : List Lexeme) × (xs : List Item) × (rest : List Lexeme) × (ls ≡ body ++ Sign signs.Close ∷ rest) × IsList IsItem body xs
    × AtEngine (with_items h xs) rest s

abbrev pub AfterItem : CreateHead → List Lexeme → Statement → Type 0
AfterItem h ls s =
    ((rest : List Lexeme) × (ls ≡ Sign signs.Close ∷ rest) × AtEngine h rest s)
    ⊎ ((rest : List Lexeme) × (ls ≡ Sign signs.Comma ∷ rest) × AtItem h rest s)

abbrev pub AtOptions : CreateHead → ColumnRead → List Lexeme → Statement → Type 0
AtOptions h c ls s =
    (choices : List Choice) × (body : List Lexeme) × (d : ColumnRead) × (rest : List Lexeme) × (ls ≡ body ++ rest)
    × AreChoices choices body c d × AfterItem (with_items h (item_of d ∷ [])) rest s

abbrev pub AtColumn : CreateHead → List ℕ → ColumnDue → List Lexeme → Statement → Type 0
AtColumn h name columns.Kind ls s =
    (body : List Lexeme) × (kind : TypeName) × (rest : List Lexeme) × (ls ≡ body ++ rest) × IsType body kind × AtOptions h (bare_column name kind) rest s
AtColumn h name columns.Open ls s =
    (n : ℕ) × (rest : List Lexeme) × (ls ≡ Sign signs.Open ∷ Number n ∷ Sign signs.Close ∷ rest) × (1 ≤ n) × (n ≤ 255)
    × AtOptions h (bare_column name (VarChar n)) rest s
AtColumn h name columns.Length ls s =
    (n : ℕ) × (rest : List Lexeme) × (ls ≡ Number n ∷ Sign signs.Close ∷ rest) × (1 ≤ n) × (n ≤ 255)
    × AtOptions h (bare_column name (VarChar n)) rest s
AtColumn h name (columns.Close n) ls s = (rest : List Lexeme) × (ls ≡ Sign signs.Close ∷ rest) × AtOptions h (bare_column name (VarChar n)) rest s

abbrev pub AtKeyClose : CreateHead → List ℕ → List Lexeme → Statement → Type 0
AtKeyClose h name ls s = (rest : List Lexeme) × (ls ≡ Sign signs.Close ∷ rest) × AfterItem (with_items h (item.Key name ∷ [])) rest s

abbrev pub AtKeyColumn : CreateHead → List Lexeme → Statement → Type 0
AtKeyColumn h ls s = (word : List ℕ) × (rest : List Lexeme) × (ls ≡ Name word ∷ rest) × AtKeyClose h (map to_ascii_lowercase word) rest s

abbrev pub AtKeyOpen : CreateHead → List Lexeme → Statement → Type 0
AtKeyOpen h ls s = (rest : List Lexeme) × (ls ≡ Sign signs.Open ∷ rest) × AtKeyColumn h rest s

abbrev pub AtKey : CreateHead → KeyDue → List Lexeme → Statement → Type 0
AtKey h keys.Key ls s = (rest : List Lexeme) × (ls ≡ Keyword words.Key ∷ rest) × AtKeyOpen h rest s
AtKey h keys.Open ls s = AtKeyOpen h ls s
AtKey h keys.Column ls s = AtKeyColumn h ls s

abbrev pub AfterCreating : CreateHead → CreateDue → List Lexeme → Statement → Type 0
AfterCreating h create.Open ls s = (rest : List Lexeme) × (ls ≡ Sign signs.Open ∷ rest) × AtItem h rest s
AfterCreating h create.Item ls s = AtItem h ls s
AfterCreating h (create.Column name due) ls s = AtColumn h name due ls s
AfterCreating h (create.Options c) ls s = AtOptions h c ls s
AfterCreating h (create.OptionNull c) ls s = (rest : List Lexeme) × (ls ≡ Keyword words.Null ∷ rest) × AtOptions h (with_not_null c) rest s
AfterCreating h (create.OptionKey c) ls s = (rest : List Lexeme) × (ls ≡ Keyword words.Key ∷ rest) × AtOptions h (with_key c) rest s
AfterCreating h (create.Key due) ls s = AtKey h due ls s
AfterCreating h (create.KeyClose name) ls s = AtKeyClose h name ls s
AfterCreating h create.More ls s = AfterItem h ls s
AfterCreating h create.Engine ls s = AtEngine h ls s
AfterCreating h create.Equal ls s = AtEqual h ls s
AfterCreating h create.EngineName ls s = AtEngineName h ls s

-- ---- INSERT

abbrev pub AtRows : List ℕ → List Literals → List Lexeme → Statement → Type 0
AtRows t rows ls s =
    (body : List Lexeme) × (xs : List Literals) × (end : List Lexeme) × (ls ≡ body ++ end) × IsList IsRow body xs
    × EndsAs (statement.Insert t (rows ++ xs)) end s

abbrev pub AfterRow : List ℕ → List Literals → List Lexeme → Statement → Type 0
AfterRow t rows ls s = EndsAs (statement.Insert t rows) ls s ⊎ ((rest : List Lexeme) × (ls ≡ Sign signs.Comma ∷ rest) × AtRows t rows rest s)

abbrev pub AtValue : List ℕ → List Literals → List Literal → List Lexeme → Statement → Type 0
AtValue t rows vs ls s =
    (body : List Lexeme) × (xs : List Literal) × (rest : List Lexeme) × (ls ≡ body ++ Sign signs.Close ∷ rest) × IsList IsLiteral body xs
    × AfterRow t (rows ++ record { values = vs ++ xs } ∷ []) rest s

abbrev pub AfterValue : List ℕ → List Literals → List Literal → List Lexeme → Statement → Type 0
AfterValue t rows vs ls s =
    ((rest : List Lexeme) × (ls ≡ Sign signs.Close ∷ rest) × AfterRow t (rows ++ record { values = vs } ∷ []) rest s)
    ⊎ ((rest : List Lexeme) × (ls ≡ Sign signs.Comma ∷ rest) × AtValue t rows vs rest s)

abbrev pub AtOpen : List ℕ → List Literals → List Literal → List Lexeme → Statement → Type 0
AtOpen t rows vs ls s = (rest : List Lexeme) × (ls ≡ Sign signs.Open ∷ rest) × AtValue t rows vs rest s

abbrev pub AfterInserting : List ℕ → List Literals → List Literal → InsertDue → List Lexeme → Statement → Type 0
AfterInserting t rows vs insert.Values ls s = (rest : List Lexeme) × (ls ≡ Keyword words.Values ∷ rest) × AtOpen t rows vs rest s
AfterInserting t rows vs insert.Open ls s = AtOpen t rows vs ls s
AfterInserting t rows vs insert.Value ls s = AtValue t rows vs ls s
AfterInserting t rows vs insert.Number ls s =
    (m : ℕ) × (rest : List Lexeme) × (ls ≡ Number m ∷ rest) × AfterValue t rows (vs ++ literal.Int (neg_ℤ (pos m)) ∷ []) rest s
AfterInserting t rows vs insert.More ls s = AfterValue t rows vs ls s
AfterInserting t rows vs insert.Rows ls s = vs ≡ [] → AfterRow t rows ls s

-- ---- sums

-- a sum, and then what follows it
abbrev pub AfterSumming : Summing → (Sum → List Lexeme → Type 0) → List Lexeme → Type 0
AfterSumming sums.First Then ls = (body : List Lexeme) × (sum : Sum) × (rest : List Lexeme) × (ls ≡ body ++ rest) × IsSum body sum × Then sum rest
AfterSumming sums.FirstNumber Then ls =
    (m : ℕ) × (body : List Lexeme) × (ts : List Term) × (rest : List Lexeme) × (ls ≡ Number m ∷ (body ++ rest)) × AreTerms body ts
    × Then (record { first = operand.Literal (literal.Int (neg_ℤ (pos m))); rest = ts }) rest
AfterSumming (sums.Ready sum) Then ls =
    (body : List Lexeme) × (ts : List Term) × (rest : List Lexeme) × (ls ≡ body ++ rest) × AreTerms body ts
    × Then (record { first = sum.first; rest = sum.rest ++ ts }) rest
AfterSumming (sums.Next sum minus) Then ls =
    (front : List Lexeme) × (o : Operand) × (body : List Lexeme) × (ts : List Term) × (rest : List Lexeme)
    × (ls ≡ front ++ (body ++ rest)) × IsOperand front o × AreTerms body ts
    × Then (record { first = sum.first; rest = sum.rest ++ record { minus = minus; operand = o } ∷ ts }) rest
AfterSumming (sums.NextNumber sum minus) Then ls =
    (m : ℕ) × (body : List Lexeme) × (ts : List Term) × (rest : List Lexeme) × (ls ≡ Number m ∷ (body ++ rest)) × AreTerms body ts
    × Then (record { first = sum.first; rest = sum.rest ++ record { minus = minus; operand = operand.Literal (literal.Int (neg_ℤ (pos m))) } ∷ ts }) rest

-- ---- conditions

abbrev pub AfterHead : Head → List Lexeme → Statement → Type 0
AfterHead h ls s = (body : List Lexeme) × (end : List Lexeme) × (c : Option Cond) × (ls ≡ body ++ end) × IsFilter body c × EndsAs (finish h c) end s

-- further members with AND, how many, and their steps
abbrev pub AreAnds : List Lexeme → ℕ → List CondStep → Type 0
AreAnds ls n steps =
    ((ls ≡ []) × (n ≡ 0) × (steps ≡ [])) ⊎ ((back : List Lexeme) × (ls ≡ Keyword words.And ∷ back) × IsPart (ands n) back steps)

-- further members with OR, how many, and their steps
abbrev pub AreOrs : List Lexeme → ℕ → List CondStep → Type 0
AreOrs ls n steps =
    ((ls ≡ []) × (n ≡ 0) × (steps ≡ [])) ⊎ ((back : List Lexeme) × (ls ≡ Keyword words.Or ∷ back) × IsPart (ors n) back steps)

-- the end of a condition, of which so many members are read, and its steps
abbrev pub EndsLevel : ℕ → ℕ → List CondStep → List Lexeme → List CondStep → Type 0
EndsLevel o a steps ls whole =
    (n : ℕ) × (m : ℕ) × (more_and : List CondStep) × (more_or : List CondStep) × (front : List Lexeme) × (back : List Lexeme)
    × (ls ≡ front ++ back) × AreAnds front n more_and × AreOrs back m more_or
    × (whole ≡ joined_by_or ((o + 1) + m) (joined_by_and (a + n) (steps ++ more_and) ++ more_or))

-- what follows a condition, with the levels around it from the inside out
abbrev pub AfterLevel : Head → List Level → List CondStep → List Lexeme → Statement → Type 0
AfterLevel h [] steps ls s = EndsAs (finish h (Some (record { steps = steps }))) ls s
AfterLevel h (level ∷ levels) steps ls s =
    (body : List Lexeme) × (rest : List Lexeme) × (whole : List CondStep) × (ls ≡ Sign signs.Close ∷ (body ++ rest))
    × EndsLevel level.ors (level.ands + 1) (steps ++ replicate level.nots Not) body whole × AfterLevel h levels whole rest s

-- the levels, the innermost first
abbrev pub inside_out : List Level → List Level
inside_out [] = []
inside_out (x ∷ xs) = inside_out xs ++ x ∷ []

abbrev pub InLevel : Head → List CondStep → List Level → ℕ → ℕ → List Lexeme → Statement → Type 0
InLevel h steps levels o a ls s =
    (body : List Lexeme) × (rest : List Lexeme) × (whole : List CondStep) × (ls ≡ body ++ rest)
    × EndsLevel o a steps body whole × AfterLevel h levels whole rest s

-- what follows a member with these steps
abbrev pub AfterMember : Head → Tests → List CondStep → List Lexeme → Statement → Type 0
AfterMember h t steps ls s =
    InLevel h ((t.steps ++ steps) ++ replicate t.level.nots Not) (inside_out t.outer) t.level.ors (t.level.ands + 1) ls s

abbrev pub AtMember : Head → Tests → List Lexeme → Statement → Type 0
AtMember h t ls s =
    (body : List Lexeme) × (steps : List CondStep) × (rest : List Lexeme) × (ls ≡ body ++ rest) × IsPart member body steps × AfterMember h t steps rest s

abbrev pub AtNull : Head → Tests → Sum → Bool → List Lexeme → Statement → Type 0
AtNull h t sum negated ls s = (rest : List Lexeme) × (ls ≡ Keyword words.Null ∷ rest) × AfterMember h t (IsNull sum negated ∷ []) rest s

abbrev pub AtIs : Head → Tests → Sum → List Lexeme → Statement → Type 0
AtIs h t sum ls s = (negated : Bool) × (rest : List Lexeme) × (ls ≡ null_words negated ++ rest) × AfterMember h t (IsNull sum negated ∷ []) rest s

abbrev pub AtRight : Head → Tests → Sum → Op → Summing → List Lexeme → Statement → Type 0
AtRight h t left op summing ls s = AfterSumming summing (λ right rest. AfterMember h t (Compare left op right ∷ []) rest s) ls

abbrev pub AtOp : Head → Tests → Sum → List Lexeme → Statement → Type 0
AtOp h t sum ls s =
    ((rest : List Lexeme) × (ls ≡ Keyword words.Is ∷ rest) × AtIs h t sum rest s)
    ⊎ ((op : Op) × (rest : List Lexeme) × (ls ≡ Sign (sign_of op) ∷ rest) × AtRight h t sum op sums.First rest s)

abbrev pub AfterFiltering : Head → Tests → FilterDue → List Lexeme → Statement → Type 0
AfterFiltering h t filter.Member ls s = AtMember h t ls s
AfterFiltering h t (filter.Left summing) ls s = AfterSumming summing (λ sum rest. AtOp h t sum rest s) ls
AfterFiltering h t (filter.Is sum) ls s = AtIs h t sum ls s
AfterFiltering h t (filter.IsNot sum) ls s = AtNull h t sum true ls s
AfterFiltering h t (filter.Right left op summing) ls s = AtRight h t left op summing ls s
AfterFiltering h t filter.More ls s = t.level.nots ≡ 0 → InLevel h t.steps (inside_out t.outer) t.level.ors t.level.ands ls s

-- ---- SELECT and UPDATE

abbrev pub AtTable : (List ℕ → Head) → List Lexeme → Statement → Type 0
AtTable h ls s = (t : List ℕ) × (rest : List Lexeme) × (ls ≡ Name t ∷ rest) × AfterHead (h t) rest s

abbrev pub AtFrom : (List ℕ → Head) → List Lexeme → Statement → Type 0
AtFrom h ls s = (rest : List Lexeme) × (ls ≡ Keyword words.From ∷ rest) × AtTable h rest s

abbrev pub AtColumnName : List (List ℕ) → List Lexeme → Statement → Type 0
AtColumnName cs ls s =
    (body : List Lexeme) × (xs : List (List ℕ)) × (rest : List Lexeme) × (ls ≡ body ++ rest) × IsList IsColumn body xs
    × AtFrom (λ t. head.Select t (Some (cs ++ xs))) rest s

abbrev pub AfterSelecting : List (List ℕ) → SelectDue → List Lexeme → Statement → Type 0
AfterSelecting cs select.Columns ls s =
    ((rest : List Lexeme) × (ls ≡ Sign signs.Star ∷ rest) × AtFrom (λ t. head.Select t None) rest s) ⊎ AtColumnName cs ls s
AfterSelecting cs select.Column ls s = AtColumnName cs ls s
AfterSelecting cs select.More ls s =
    AtFrom (λ t. head.Select t (Some cs)) ls s ⊎ ((rest : List Lexeme) × (ls ≡ Sign signs.Comma ∷ rest) × AtColumnName cs rest s)
AfterSelecting cs select.AllFrom ls s = AtFrom (λ t. head.Select t None) ls s
AfterSelecting cs select.AllTable ls s = AtTable (λ t. head.Select t None) ls s
AfterSelecting cs select.Table ls s = AtTable (λ t. head.Select t (Some cs)) ls s

abbrev pub AtSet : List ℕ → List Assign → List Lexeme → Statement → Type 0
AtSet t sets ls s =
    (body : List Lexeme) × (xs : List Assign) × (rest : List Lexeme) × (ls ≡ body ++ rest) × IsList IsAssign body xs
    × AfterHead (head.Update t (sets ++ xs)) rest s

abbrev pub AfterSet : List ℕ → List Assign → List Lexeme → Statement → Type 0
AfterSet t sets ls s = AfterHead (head.Update t sets) ls s ⊎ ((rest : List Lexeme) × (ls ≡ Sign signs.Comma ∷ rest) × AtSet t sets rest s)

abbrev pub AtSum : List ℕ → List Assign → List ℕ → Summing → List Lexeme → Statement → Type 0
AtSum t sets name summing ls s = AfterSumming summing (λ sum rest. AfterSet t (sets ++ record { column = name; sum = sum } ∷ []) rest s) ls

abbrev pub AfterUpdating : List ℕ → List Assign → UpdateDue → List Lexeme → Statement → Type 0
AfterUpdating t sets update.Column ls s = AtSet t sets ls s
AfterUpdating t sets (update.Equal name) ls s = (rest : List Lexeme) × (ls ≡ Sign signs.Equal ∷ rest) × AtSum t sets name sums.First rest s
AfterUpdating t sets (update.Sum name summing) ls s = AtSum t sets name summing ls s

-- ---- all

-- these lexemes, behind what has been read, are the statement
abbrev pub Rest : Reading → List Lexeme → Statement → Type 0
Rest Start ls s = IsStatement ls s
Rest (Opening o) ls s = AfterOpening o ls s
Rest (Transacting o) ls s = AfterTransacting o ls s
Rest (Plugging o) ls s = AfterPlugging o ls s
Rest (Creating c) ls s = AfterCreating c.head c.due ls s
Rest (Inserting i) ls s = AfterInserting i.table i.rows i.values i.due ls s
Rest (Selecting o) ls s = AfterSelecting o.columns o.due ls s
Rest (Updating u) ls s = AfterUpdating u.table u.sets u.due ls s
Rest (Headed h) ls s = AfterHead h ls s
Rest (Filtering f) ls s = AfterFiltering f.head f.tests f.due ls s
Rest (Whole w) ls s = EndsAs w ls s
Rest (Closed w) ls s = (ls ≡ End ∷ []) × (w ≡ s)
Rest (Done w) ls s = (ls ≡ []) × (w ≡ s)
