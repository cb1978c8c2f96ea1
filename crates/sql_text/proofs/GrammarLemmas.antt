-- What the reader reads has the form of a statement.
use Rattle.std.proofs.Common.{◌≡◌, List, [], ◌∷◌, Ok, Err, refl, subst}
use Rattle.sql_text.specs.declared.keyword.Keyword.{Keyword as Words}
use Rattle.sql_text.specs.declared.keyword.Keyword.TheVariants as words
use Rattle.sql_text.specs.declared.lexeme.Lexeme.{Lexeme}
use Rattle.sql_text.specs.declared.lexeme.Lexeme.TheVariants.{Keyword}
use Rattle.sql_text.specs.declared.opening.Opening.TheVariants as opening
use Rattle.sql_text.specs.declared.plugin.Plugging.TheVariants as plugging
use Rattle.sql_text.specs.declared.reading.Reading.{Reading}
use Rattle.sql_text.specs.declared.reading.Reading.TheVariants.{Start, Opening, Transacting, Plugging, Creating, Inserting}
use Rattle.sql_text.specs.declared.reading.Reading.TheVariants.{Selecting, Updating, Head as Headed, Filtering, Whole, Closed, Done}
use Rattle.sql_text.specs.declared.statement.Statement.{Statement}
use Rattle.sql_text.specs.declared.transaction.Transacting.TheVariants as transacting
use Rattle.sql_text.specs.Create.{next as create_next}
use Rattle.sql_text.specs.Filter.{next as filter_next}
use Rattle.sql_text.specs.Forms.{IsStatement}
use Rattle.sql_text.specs.Insert.{next as insert_next}
use Rattle.sql_text.specs.Reading.{next, start, start_word}
use Rattle.sql_text.specs.Select.{next as select_next}
use Rattle.sql_text.specs.Starts.{selecting}
use Rattle.sql_text.proofs.ReadAll.{and_then, read_all, AreRead}
use Rattle.sql_text.specs.Steps.{Step}
use Rattle.sql_text.specs.Update.{next as update_next}
use Rattle.sql_text.proofs.BackCreate.{create_back}
use Rattle.sql_text.proofs.BackFilter.{filter_back, head_back}
use Rattle.sql_text.proofs.BackHeads.{opening_back, select_back, select_begun, update_back}
use Rattle.sql_text.proofs.BackLemmas.{From, reads, by_closed, by_whole}
use Rattle.sql_text.proofs.BackRows.{insert_back}
use Rattle.sql_text.proofs.BackWords.{plugin_back, transaction_back}
use Rattle.sql_text.proofs.Rests.{Rest}

word_back : (w : Words) (ls : List Lexeme) (s : Statement) → From ls s (start_word w) (IsStatement (Keyword w ∷ ls) s)
word_back words.Create ls s = reads ls s (Opening opening.CreateTable) (IsStatement (Keyword words.Create ∷ ls) s) (λ r. r)
word_back words.Drop ls s = reads ls s (Opening opening.DropTable) (IsStatement (Keyword words.Drop ∷ ls) s) (λ r. r)
word_back words.Insert ls s = reads ls s (Opening opening.InsertInto) (IsStatement (Keyword words.Insert ∷ ls) s) (λ r. r)
word_back words.Select ls s = reads ls s selecting (IsStatement (Keyword words.Select ∷ ls) s) (λ r. select_begun ls s r)
word_back words.Update ls s = reads ls s (Opening opening.UpdateName) (IsStatement (Keyword words.Update ∷ ls) s) (λ r. r)
word_back words.Delete ls s = reads ls s (Opening opening.DeleteFrom) (IsStatement (Keyword words.Delete ∷ ls) s) (λ r. r)
word_back words.Begin ls s = reads ls s (Transacting transacting.BeginWork) (IsStatement (Keyword words.Begin ∷ ls) s) (λ r. r)
word_back words.Start ls s = reads ls s (Transacting transacting.StartTransaction) (IsStatement (Keyword words.Start ∷ ls) s) (λ r. r)
word_back words.Commit ls s = reads ls s (Transacting transacting.CommitWork) (IsStatement (Keyword words.Commit ∷ ls) s) (λ r. r)
word_back words.Rollback ls s = reads ls s (Transacting transacting.RollbackWork) (IsStatement (Keyword words.Rollback ∷ ls) s) (λ r. r)
word_back words.Savepoint ls s = reads ls s (Transacting transacting.SavepointName) (IsStatement (Keyword words.Savepoint ∷ ls) s) (λ r. r)
word_back words.Release ls s = reads ls s (Transacting transacting.ReleaseSavepoint) (IsStatement (Keyword words.Release ∷ ls) s) (λ r. r)
word_back words.Install ls s = reads ls s (Plugging plugging.InstallPlugin) (IsStatement (Keyword words.Install ∷ ls) s) (λ r. r)
word_back words.Uninstall ls s = reads ls s (Plugging plugging.UninstallPlugin) (IsStatement (Keyword words.Uninstall ∷ ls) s) (λ r. r)
word_back _ ls s = λ q read rest. absurd cc

start_back : (l : Lexeme) (ls : List Lexeme) (s : Statement) → From ls s (start l) (IsStatement (l ∷ ls) s)
unfolding start
start_back (Keyword w) ls s = word_back w ls s
start_back _ ls s = λ q read rest. absurd cc

-- what completes a statement behind a step, completes it before
back : (r : Reading) (l : Lexeme) (ls : List Lexeme) (s : Statement) → From ls s (next r l) (Rest r (l ∷ ls) s)
unfolding next create_next insert_next select_next update_next filter_next
back Start l ls s = start_back l ls s
back (Opening o) l ls s = opening_back o l ls s
back (Transacting o) l ls s = transaction_back o l ls s
back (Plugging o) l ls s = plugin_back o l ls s
back (Creating c) l ls s = create_back c.head c.due l ls s
back (Inserting i) l ls s = insert_back i i.due l ls s
back (Selecting o) l ls s = select_back o o.due l ls s
back (Updating u) l ls s = update_back u.table u.sets u.due l ls s
back (Headed h) l ls s = head_back h l ls s
back (Filtering f) l ls s = filter_back f.head f.tests f.due l ls s
back (Whole w) l ls s = by_whole ls s w l
back (Closed w) l ls s = by_closed ls s w l
back (Done w) l ls s = λ q read rest. absurd cc

back_step : (r : Reading) (l : Lexeme) (ls : List Lexeme) (s : Statement) (st : Step Reading) → next r l ≡ st
    → ((q : Reading) → read_all q ls ≡ Ok (Done s) → Rest q ls s) → and_then st (λ q. read_all q ls) ≡ Ok (Done s) → Rest r (l ∷ ls) s
back_step r l ls s (Ok q) is h read = back r l ls s q is (h q read)
back_step r l ls s (Err e) is h read = absurd cc

rest_of : (r : Reading) (ls : List Lexeme) (s : Statement) → read_all r ls ≡ Ok (Done s) → Rest r ls s
rest_of r [] s read =
    let done : Done s ≡ r = cc in
    subst (λ (x : Reading). Rest x [] s) done (refl, refl)
rest_of r (l ∷ ls) s read = back_step r l ls s (next r l) refl (λ q. rest_of q ls s) read

-- what is spelt has the form of a statement
pub spelt_form : (ls : List Lexeme) (s : Statement) → AreRead ls s → IsStatement ls s
spelt_form ls s spells = rest_of Start ls s spells
