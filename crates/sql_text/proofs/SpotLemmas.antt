-- Where a text may stand, and where none may.
use Rattle.std.proofs.Common.{ℕ, List, [], ◌∷◌, Ok, Err}
use Rattle.sql_text.specs.declared.create.CreateDue.TheVariants as create
use Rattle.sql_text.specs.declared.create.ColumnDue.TheVariants as columns
use Rattle.sql_text.specs.declared.create.KeyDue.TheVariants as keys
use Rattle.sql_text.specs.declared.create.CreateHead.{CreateHead}
use Rattle.sql_text.specs.declared.create.CreateDue.{CreateDue}
use Rattle.sql_text.specs.declared.filter.Head.{Head}
use Rattle.sql_text.specs.declared.filter.Tests.{Tests}
use Rattle.sql_text.specs.declared.filter.Level.{Level}
use Rattle.sql_text.specs.declared.filter.FilterDue.{FilterDue}
use Rattle.sql_text.specs.declared.filter.FilterDue.TheVariants as filter
use Rattle.sql_text.specs.declared.insert.Inserting.{Inserting as InsertPart}
use Rattle.sql_text.specs.declared.insert.InsertDue.{InsertDue}
use Rattle.sql_text.specs.declared.insert.InsertDue.TheVariants as insert
use Rattle.sql_text.specs.declared.lexeme.Lexeme.TheVariants.{Text, BadText}
use Rattle.sql_text.specs.declared.opening.Opening.TheVariants as openings
use Rattle.sql_text.specs.declared.opening.Opening.{Opening as OpeningPart}
use Rattle.sql_text.specs.declared.plugin.Plugging.TheVariants as plugs
use Rattle.sql_text.specs.declared.plugin.Plugging.{Plugging as PluggingPart}
use Rattle.sql_text.specs.declared.transaction.Transacting.{Transacting as TransactingPart}
use Rattle.sql_text.specs.declared.transaction.Transacting.TheVariants as transactions
use Rattle.sql_text.specs.declared.reading.Reading.{Reading}
use Rattle.sql_text.specs.declared.reading.Reading.TheVariants.{Start, Opening, Transacting, Plugging, Creating, Inserting}
use Rattle.sql_text.specs.declared.reading.Reading.TheVariants.{Selecting, Updating, Head as Headed, Filtering, Whole, Closed, Done}
use Rattle.sql_text.specs.declared.select.Selecting.{Selecting as SelectPart}
use Rattle.sql_text.specs.declared.select.SelectDue.{SelectDue}
use Rattle.sql_text.specs.declared.select.SelectDue.TheVariants as select
use Rattle.sql_text.specs.declared.sum.Summing.TheVariants as sums
use Rattle.sql_text.specs.declared.update.UpdateDue.{UpdateDue}
use Rattle.sql_text.specs.declared.update.UpdateDue.TheVariants as update
use Rattle.sql_text.specs.declared.step.StepFault.TheVariants.{Unexpected, InText}
use Rattle.sql_text.specs.Steps.{Step}
use Rattle.sql_text.specs.Create.{at as create_at, next as create_next, item, after_column, key_column, key_close, engine_name}
use Rattle.sql_text.specs.Filter.{at as filter_at, next as filter_next, with_member, with_test, with_and, with_or, at_level, at_end, more, op, left, member, null, compared, finished}
use Rattle.sql_text.specs.Insert.{at as insert_at, next as insert_next, value, number}
use Rattle.sql_text.specs.Opening.{next as opening_next}
use Rattle.sql_text.specs.Plugins.{next as plugin_next}
use Rattle.sql_text.specs.Reading.{next, start}
use Rattle.sql_text.specs.Select.{at as select_at, next as select_next, column as select_column, table as select_table, all_table}
use Rattle.sql_text.specs.Steps.{name_in, column_in, engine_in, text_in}
use Rattle.sql_text.specs.Sums.{literal_in, operand_in, negative_operand, sum_step}
use Rattle.sql_text.specs.Transactions.{next as transaction_next, to_name}
use Rattle.sql_text.specs.Update.{at as update_at, next as update_next, column as update_column}
use Rattle.sql_text.specs.declared.statement.Assign.{Assign}

-- a text with a fault is refused for that where a text may stand, and as a token where none may
abbrev pub Spot : Step Reading → Step Reading → Type 0
Spot (Err InText) (Ok reading) = Unit {0}
Spot (Err Unexpected) (Err e) = Unit {0}
Spot _ _ = ⊥

opening_spot : (o : OpeningPart) (p : ℕ) (x : List ℕ) → Spot (opening_next o (BadText p)) (opening_next o (Text x))
unfolding opening_next name_in
opening_spot openings.CreateTable p x = tt
opening_spot openings.CreateName p x = tt
opening_spot openings.DropTable p x = tt
opening_spot openings.DropName p x = tt
opening_spot openings.InsertInto p x = tt
opening_spot openings.InsertName p x = tt
opening_spot openings.UpdateName p x = tt
opening_spot (openings.UpdateSet t) p x = tt
opening_spot openings.DeleteFrom p x = tt
opening_spot openings.DeleteName p x = tt

transaction_spot : (o : TransactingPart) (p : ℕ) (x : List ℕ) → Spot (transaction_next o (BadText p)) (transaction_next o (Text x))
unfolding transaction_next to_name column_in name_in
transaction_spot transactions.BeginWork p x = tt
transaction_spot transactions.StartTransaction p x = tt
transaction_spot transactions.CommitWork p x = tt
transaction_spot transactions.RollbackWork p x = tt
transaction_spot transactions.RollbackTo p x = tt
transaction_spot transactions.ToSavepoint p x = tt
transaction_spot transactions.ToName p x = tt
transaction_spot transactions.SavepointName p x = tt
transaction_spot transactions.ReleaseSavepoint p x = tt
transaction_spot transactions.ReleaseName p x = tt

plugin_spot : (o : PluggingPart) (p : ℕ) (x : List ℕ) → Spot (plugin_next o (BadText p)) (plugin_next o (Text x))
unfolding plugin_next engine_in name_in text_in
plugin_spot plugs.InstallPlugin p x = tt
plugin_spot plugs.InstallName p x = tt
plugin_spot (plugs.InstallSoname n) p x = tt
plugin_spot (plugs.InstallFile n) p x = tt
plugin_spot plugs.UninstallPlugin p x = tt
plugin_spot plugs.UninstallName p x = tt

create_spot : (h : CreateHead) (due : CreateDue) (p : ℕ) (x : List ℕ) → Spot (create_at h due (BadText p)) (create_at h due (Text x))
unfolding item after_column key_column key_close engine_name column_in engine_in name_in
create_spot h create.Open p x = tt
create_spot h create.Item p x = tt
create_spot h (create.Column n columns.Kind) p x = tt
create_spot h (create.Column n columns.Open) p x = tt
create_spot h (create.Column n columns.Length) p x = tt
create_spot h (create.Column n (columns.Close k)) p x = tt
create_spot h (create.Options c) p x = tt
create_spot h (create.OptionNull c) p x = tt
create_spot h (create.OptionKey c) p x = tt
create_spot h (create.Key keys.Key) p x = tt
create_spot h (create.Key keys.Open) p x = tt
create_spot h (create.Key keys.Column) p x = tt
create_spot h (create.KeyClose n) p x = tt
create_spot h create.More p x = tt
create_spot h create.Engine p x = tt
create_spot h create.Equal p x = tt
create_spot h create.EngineName p x = tt

insert_spot : (i : InsertPart) (due : InsertDue) (p : ℕ) (x : List ℕ) → Spot (insert_at i due (BadText p)) (insert_at i due (Text x))
unfolding value number literal_in text_in
insert_spot i insert.Values p x = tt
insert_spot i insert.Open p x = tt
insert_spot i insert.Value p x = tt
insert_spot i insert.Number p x = tt
insert_spot i insert.More p x = tt
insert_spot i insert.Rows p x = tt

select_spot : (s : SelectPart) (due : SelectDue) (p : ℕ) (x : List ℕ) → Spot (select_at s due (BadText p)) (select_at s due (Text x))
unfolding select_column select_table all_table column_in name_in
select_spot s select.Columns p x = tt
select_spot s select.Column p x = tt
select_spot s select.More p x = tt
select_spot s select.AllFrom p x = tt
select_spot s select.AllTable p x = tt
select_spot s select.Table p x = tt

update_spot : (t : List ℕ) (a : List Assign) (due : UpdateDue) (p : ℕ) (x : List ℕ) → Spot (update_at t a due (BadText p)) (update_at t a due (Text x))
unfolding update_column sum_step operand_in negative_operand literal_in text_in column_in name_in
update_spot t a update.Column p x = tt
update_spot t a (update.Equal n) p x = tt
update_spot t a (update.Sum n sums.First) p x = tt
update_spot t a (update.Sum n sums.FirstNumber) p x = tt
update_spot t a (update.Sum n (sums.Ready s)) p x = tt
update_spot t a (update.Sum n (sums.Next s m)) p x = tt
update_spot t a (update.Sum n (sums.NextNumber s m)) p x = tt

level_spot : (h : Head) (t : Tests) (outer : List Level) (p : ℕ) (x : List ℕ) → Spot (at_level h t outer (BadText p)) (at_level h t outer (Text x))
unfolding finished with_or with_and
level_spot h t [] p x = tt
level_spot h t (y ∷ ys) p x = tt

filter_spot : (h : Head) (t : Tests) (due : FilterDue) (p : ℕ) (x : List ℕ) → Spot (filter_at h t due (BadText p)) (filter_at h t due (Text x))
unfolding member left op null compared more at_end with_test with_member sum_step operand_in negative_operand literal_in text_in column_in name_in
filter_spot h t filter.Member p x = tt
filter_spot h t (filter.Left sums.First) p x = tt
filter_spot h t (filter.Left sums.FirstNumber) p x = tt
filter_spot h t (filter.Left (sums.Ready s)) p x = tt
filter_spot h t (filter.Left (sums.Next s m)) p x = tt
filter_spot h t (filter.Left (sums.NextNumber s m)) p x = tt
filter_spot h t (filter.Is s) p x = tt
filter_spot h t (filter.IsNot s) p x = tt
filter_spot h t (filter.Right q o sums.First) p x = tt
filter_spot h t (filter.Right q o sums.FirstNumber) p x = tt
filter_spot h t (filter.Right q o (sums.Ready r)) p x = level_spot h _ t.outer p x
filter_spot h t (filter.Right q o (sums.Next s m)) p x = tt
filter_spot h t (filter.Right q o (sums.NextNumber s m)) p x = tt
filter_spot h t filter.More p x = level_spot h t t.outer p x

pub text_spot : (r : Reading) (p : ℕ) (x : List ℕ) → Spot (next r (BadText p)) (next r (Text x))
unfolding next start create_next filter_next insert_next select_next update_next
text_spot Start p x = tt
text_spot (Opening o) p x = opening_spot o p x
text_spot (Transacting o) p x = transaction_spot o p x
text_spot (Plugging o) p x = plugin_spot o p x
text_spot (Creating c) p x = create_spot c.head c.due p x
text_spot (Inserting i) p x = insert_spot i i.due p x
text_spot (Selecting s) p x = select_spot s s.due p x
text_spot (Updating u) p x = update_spot u.table u.sets u.due p x
text_spot (Headed h) p x = tt
text_spot (Filtering f) p x = filter_spot f.head f.tests f.due p x
text_spot (Whole s) p x = tt
text_spot (Closed s) p x = tt
text_spot (Done s) p x = tt
