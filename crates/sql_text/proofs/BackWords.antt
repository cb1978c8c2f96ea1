-- What completes a statement behind a step, completes it before: first words, and statements on transactions and plugins.
use Rattle.std.proofs.Common.{◌≡◌, ℕ, Bool, true, false, List, [], ◌∷◌, ◌++◌, Ok, refl, subst, inl, inr, map}
use Rattle.std.specs.Char.{to_ascii_lowercase, to_ascii_uppercase}
use Rattle.sql_text.specs.declared.keyword.Keyword.TheVariants as words
use Rattle.sql_text.specs.declared.lexeme.Lexeme.{Lexeme}
use Rattle.sql_text.specs.declared.lexeme.Lexeme.TheVariants.{Keyword, Name, Text, Sign}
use Rattle.sql_text.specs.declared.lexeme.Sign.TheVariants as signs
use Rattle.sql_text.specs.declared.plugin.Plugging.{Plugging as PluggingPart}
use Rattle.sql_text.specs.declared.plugin.Plugging.TheVariants as plugging
use Rattle.sql_text.specs.declared.reading.Reading.TheVariants.{Transacting, Plugging, Whole}
use Rattle.sql_text.specs.declared.statement.Statement.{Statement}
use Rattle.sql_text.specs.declared.statement.Statement.TheVariants as statement
use Rattle.sql_text.specs.declared.transaction.Transacting.{Transacting as TransactingPart}
use Rattle.sql_text.specs.declared.transaction.Transacting.TheVariants as transacting
use Rattle.sql_text.specs.Forms.{IsForm, IsStatement, may_be}
use Rattle.sql_text.specs.Parts.{IsList}
use Rattle.sql_text.specs.Plugins.{next as plugin_next}
use Rattle.sql_text.specs.Transactions.{next as transaction_next, to_name, rollback_to}
use Rattle.sql_text.specs.Whole.{whole}
use Rattle.sql_text.proofs.BackLemmas.{From, reads, by_word, by_column, by_engine, by_text, by_whole, only_word}
use Rattle.sql_text.proofs.Rests.{AfterTo, AfterPlugging, AfterTransacting, EndsAs}

-- a statement in its form, and its end
pub ended : (front end : List Lexeme) (w s : Statement) → IsForm front w → EndsAs w end s → IsStatement (front ++ end) s
ended front end w s form ends = subst (λ (x : Statement). IsStatement (front ++ end) x) ends.1 (front, end, refl, form, ends.0)

-- one member more, before the others
pub cons_list : {A : Type 0} (Is : List Lexeme → A → Type 0) (front back : List Lexeme) (x : A) (xs : List A) → Is front x → IsList Is back xs
    → IsList Is (front ++ Sign signs.Comma ∷ back) (x ∷ xs)
cons_list Is front back x [] is others = absurd others
cons_list Is front back x (y ∷ ys) is others = (front, back, refl, is, others)

-- ---- transactions

to_point : (work savepoint : Bool) (rest : List Lexeme) (s : Statement) → AfterTo rest s
    → IsStatement (Keyword words.Rollback ∷ may_be work words.Work (Keyword words.To ∷ may_be savepoint words.Savepoint rest)) s
to_point work savepoint rest s (word, end, is, ends) = rw is (by_flags work savepoint)
  where
    by_flags : (work savepoint : Bool)
        → IsStatement (Keyword words.Rollback ∷ may_be work words.Work (Keyword words.To ∷ may_be savepoint words.Savepoint (Name word ∷ end))) s
    by_flags true true =
        ended (Keyword words.Rollback ∷ Keyword words.Work ∷ Keyword words.To ∷ Keyword words.Savepoint ∷ Name word ∷ []) end _ s
        (true, true, Name word ∷ [], refl, (word, refl, refl)) ends
    by_flags true false =
        ended (Keyword words.Rollback ∷ Keyword words.Work ∷ Keyword words.To ∷ Name word ∷ []) end _ s (true, false, Name word ∷ [], refl, (word, refl, refl)) ends
    by_flags false true =
        ended (Keyword words.Rollback ∷ Keyword words.To ∷ Keyword words.Savepoint ∷ Name word ∷ []) end _ s
        (false, true, Name word ∷ [], refl, (word, refl, refl)) ends
    by_flags false false =
        ended (Keyword words.Rollback ∷ Keyword words.To ∷ Name word ∷ []) end _ s (false, false, Name word ∷ [], refl, (word, refl, refl)) ends

by_to : (work : Bool) (front : List Lexeme) (l : Lexeme) (ls : List Lexeme) (s : Statement) → front ≡ may_be work words.Work [] → From ls s (rollback_to l) (IsStatement (Keyword words.Rollback ∷ (front ++ l ∷ ls)) s)
by_to work front l ls s is =
    by_word ls s (λ k. IsStatement (Keyword words.Rollback ∷ (front ++ k ∷ ls)) s) words.To l (Ok (Transacting transacting.ToSavepoint)) (whole statement.Rollback l)
    (reads ls s (Transacting transacting.ToSavepoint) (IsStatement (Keyword words.Rollback ∷ (front ++ Keyword words.To ∷ ls)) s)
    (λ r. rw (is, r.2) (by_work work r.0 r.1 r.3)))
    (λ q read rest. rw is (ends work (by_whole ls s statement.Rollback l q read rest)))
  where
    by_work : (w : Bool) (savepoint : Bool) (rest : List Lexeme) → AfterTo rest s
        → IsStatement (Keyword words.Rollback ∷ (may_be w words.Work [] ++ Keyword words.To ∷ may_be savepoint words.Savepoint rest)) s
    by_work true savepoint rest to = to_point true savepoint rest s to
    by_work false savepoint rest to = to_point false savepoint rest s to

    ends : (w : Bool) → EndsAs statement.Rollback (l ∷ ls) s → IsStatement (Keyword words.Rollback ∷ (may_be w words.Work [] ++ l ∷ ls)) s
    ends true e = ended (Keyword words.Rollback ∷ Keyword words.Work ∷ []) (l ∷ ls) statement.Rollback s (inr refl) e
    ends false e = ended (Keyword words.Rollback ∷ []) (l ∷ ls) statement.Rollback s (inl refl) e

pub transaction_back : (o : TransactingPart) (l : Lexeme) (ls : List Lexeme) (s : Statement) → From ls s (transaction_next o l) (AfterTransacting o (l ∷ ls) s)
unfolding transaction_next to_name
transaction_back transacting.BeginWork l ls s =
    by_word ls s (λ k. AfterTransacting transacting.BeginWork (k ∷ ls) s) words.Work l (Ok (Whole statement.Begin)) (whole statement.Begin l)
    (reads ls s (Whole statement.Begin) (AfterTransacting transacting.BeginWork (Keyword words.Work ∷ ls) s)
    (λ r. ended (Keyword words.Begin ∷ Keyword words.Work ∷ []) ls statement.Begin s (inr (inl refl)) r))
    (λ q read rest. ended (Keyword words.Begin ∷ []) (l ∷ ls) statement.Begin s (inl refl) (by_whole ls s statement.Begin l q read rest))
transaction_back transacting.StartTransaction l ls s =
    only_word ls s (λ k. AfterTransacting transacting.StartTransaction (k ∷ ls) s) words.Transaction l (Whole statement.Begin)
    (λ r. ended (Keyword words.Start ∷ Keyword words.Transaction ∷ []) ls statement.Begin s (inr (inr refl)) r)
transaction_back transacting.CommitWork l ls s =
    by_word ls s (λ k. AfterTransacting transacting.CommitWork (k ∷ ls) s) words.Work l (Ok (Whole statement.Commit)) (whole statement.Commit l)
    (reads ls s (Whole statement.Commit) (AfterTransacting transacting.CommitWork (Keyword words.Work ∷ ls) s)
    (λ r. ended (Keyword words.Commit ∷ Keyword words.Work ∷ []) ls statement.Commit s (inr refl) r))
    (λ q read rest. ended (Keyword words.Commit ∷ []) (l ∷ ls) statement.Commit s (inl refl) (by_whole ls s statement.Commit l q read rest))
transaction_back transacting.RollbackWork l ls s =
    by_word ls s (λ k. AfterTransacting transacting.RollbackWork (k ∷ ls) s) words.Work l (Ok (Transacting transacting.RollbackTo)) (rollback_to l)
    (reads ls s (Transacting transacting.RollbackTo) (AfterTransacting transacting.RollbackWork (Keyword words.Work ∷ ls) s) (λ r. r))
    (by_to false [] l ls s refl)
transaction_back transacting.RollbackTo l ls s = by_to true (Keyword words.Work ∷ []) l ls s refl
transaction_back transacting.ToSavepoint l ls s =
    by_word ls s (λ k. AfterTransacting transacting.ToSavepoint (k ∷ ls) s) words.Savepoint l (Ok (Transacting transacting.ToName)) (to_name l)
    (reads ls s (Transacting transacting.ToName) (AfterTransacting transacting.ToSavepoint (Keyword words.Savepoint ∷ ls) s) (λ r. (true, ls, refl, r)))
    (by_column ls s (λ k. AfterTransacting transacting.ToSavepoint (k ∷ ls) s) (λ point. Ok (Whole (statement.RollbackTo point))) l
    (λ w. reads ls s (Whole (statement.RollbackTo (map to_ascii_lowercase w))) (AfterTransacting transacting.ToSavepoint (Name w ∷ ls) s)
    (λ r. (false, Name w ∷ ls, refl, (w, ls, refl, r)))))
transaction_back transacting.ToName l ls s =
    by_column ls s (λ k. AfterTransacting transacting.ToName (k ∷ ls) s) (λ point. Ok (Whole (statement.RollbackTo point))) l
    (λ w. reads ls s (Whole (statement.RollbackTo (map to_ascii_lowercase w))) (AfterTransacting transacting.ToName (Name w ∷ ls) s) (λ r. (w, ls, refl, r)))
transaction_back transacting.SavepointName l ls s =
    by_column ls s (λ k. AfterTransacting transacting.SavepointName (k ∷ ls) s) (λ point. Ok (Whole (statement.Savepoint point))) l
    (λ w. reads ls s (Whole (statement.Savepoint (map to_ascii_lowercase w))) (AfterTransacting transacting.SavepointName (Name w ∷ ls) s)
    (λ r. ended (Keyword words.Savepoint ∷ Name w ∷ []) ls _ s (Name w ∷ [], refl, (w, refl, refl)) r))
transaction_back transacting.ReleaseSavepoint l ls s =
    only_word ls s (λ k. AfterTransacting transacting.ReleaseSavepoint (k ∷ ls) s) words.Savepoint l (Transacting transacting.ReleaseName) (λ r. r)
transaction_back transacting.ReleaseName l ls s =
    by_column ls s (λ k. AfterTransacting transacting.ReleaseName (k ∷ ls) s) (λ point. Ok (Whole (statement.Release point))) l
    (λ w. reads ls s (Whole (statement.Release (map to_ascii_lowercase w))) (AfterTransacting transacting.ReleaseName (Name w ∷ ls) s)
    (λ r. ended (Keyword words.Release ∷ Keyword words.Savepoint ∷ Name w ∷ []) ls _ s (Name w ∷ [], refl, (w, refl, refl)) r))

-- ---- plugins

installed : (w : List ℕ) (ls : List Lexeme) (s : Statement) → AfterPlugging (plugging.InstallSoname (map to_ascii_uppercase w)) ls s
    → IsStatement (Keyword words.Install ∷ Keyword words.Plugin ∷ Name w ∷ ls) s
installed w ls s (rest, is, (text, end, has, ends)) =
    rw (is, has) (ended (Keyword words.Install ∷ Keyword words.Plugin ∷ Name w ∷ Keyword words.Soname ∷ Text text ∷ []) end _ s (w, refl, refl) ends)

pub plugin_back : (o : PluggingPart) (l : Lexeme) (ls : List Lexeme) (s : Statement) → From ls s (plugin_next o l) (AfterPlugging o (l ∷ ls) s)
unfolding plugin_next
plugin_back plugging.InstallPlugin l ls s =
    only_word ls s (λ k. AfterPlugging plugging.InstallPlugin (k ∷ ls) s) words.Plugin l (Plugging plugging.InstallName) (λ r. r)
plugin_back plugging.InstallName l ls s =
    by_engine ls s (λ k. AfterPlugging plugging.InstallName (k ∷ ls) s) (λ name. Ok (Plugging (plugging.InstallSoname name))) l
    (λ w. reads ls s (Plugging (plugging.InstallSoname (map to_ascii_uppercase w))) (AfterPlugging plugging.InstallName (Name w ∷ ls) s) (λ r. installed w ls s r))
plugin_back (plugging.InstallSoname name) l ls s =
    only_word ls s (λ k. AfterPlugging (plugging.InstallSoname name) (k ∷ ls) s) words.Soname l (Plugging (plugging.InstallFile name)) (λ r. (ls, refl, r))
plugin_back (plugging.InstallFile name) l ls s =
    by_text ls s (λ k. AfterPlugging (plugging.InstallFile name) (k ∷ ls) s) (λ soname. Ok (Whole (statement.Install name soname))) l
    (λ w. reads ls s (Whole (statement.Install name w)) (AfterPlugging (plugging.InstallFile name) (Text w ∷ ls) s) (λ r. (w, ls, refl, r)))
plugin_back plugging.UninstallPlugin l ls s =
    only_word ls s (λ k. AfterPlugging plugging.UninstallPlugin (k ∷ ls) s) words.Plugin l (Plugging plugging.UninstallName) (λ r. r)
plugin_back plugging.UninstallName l ls s =
    by_engine ls s (λ k. AfterPlugging plugging.UninstallName (k ∷ ls) s) (λ name. Ok (Whole (statement.Uninstall name))) l
    (λ w. reads ls s (Whole (statement.Uninstall (map to_ascii_uppercase w))) (AfterPlugging plugging.UninstallName (Name w ∷ ls) s)
    (λ r. ended (Keyword words.Uninstall ∷ Keyword words.Plugin ∷ Name w ∷ []) ls _ s (w, refl, refl) r))
