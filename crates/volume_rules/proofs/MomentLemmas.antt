-- What each call on the way of a transaction leaves at each of its moments, and behind it.
use Rattle.std.proofs.Common.{◌≡◌, ◌≢◌, ◌⊎◌, inl, inr, ℕ, suc, ◌+◌, ◌≤◌, List, [], ◌∷◌, ◌++◌, length, map, refl, sym, ◌∙◌, ap, subst, arith}
use Rattle.std.specs.Prelude.{Contains, All}
use Rattle.disk_model.specs.File.{File}
use Rattle.disk_model.specs.Disk.{Disk, now, Keeps, Only}
use Rattle.disk_model.proofs.Moments.{weaker}
use Rattle.framed_file.specs.Framed.{IsPrefix}
use Rattle.row_format.specs.declared.change.Transaction.{Transaction}
use Rattle.binlog_file.specs.Logged.{Holds}
use Rattle.log_tables.specs.declared.gist.Prepared.{Prepared}
use Rattle.log_tables.specs.declared.gist.Gist.{Gist}
use Rattle.engine_api.specs.Reads.{EachReads, OnlyIn}
use Rattle.recovery_rules.specs.Recovery.{ShelfEngine, IsRecoverable}
use Rattle.volume_rules.specs.Readers.{Reader, with_gists}
use Rattle.volume_rules.specs.Images.{EachRecoverable}
use Rattle.volume_rules.specs.Steps.{AreChosen, EachSuits, Stands, Rests}
use Rattle.volume_rules.proofs.ListLemmas.{only_one, one_of_two, same_both, one_or_more}
use Rattle.volume_rules.proofs.StepLemmas.{alone}
use Rattle.volume_rules.proofs.ImageLemmas.{stands_recoverable}

-- one engine of which one gist is kept
pub suits_one : (shelf : List ShelfEngine) (it : Reader) (low high : List Transaction) (a : Gist)
    → ((list : List Transaction) → IsPrefix low list → IsPrefix list high → IsRecoverable shelf list (alone it a)) → EachSuits shelf (it ∷ []) low high ((a ∷ []) ∷ [])
suits_one shelf it low high a is list [] more less are = absurd are
suits_one shelf it low high a is list (g ∷ []) more less are = subst (λ (x : Gist). IsRecoverable shelf list (alone it x)) (sym (only_one a g are.0)) (is list more less)
suits_one shelf it low high a is list (g ∷ h ∷ gists) more less are = absurd are.1

-- one engine of which two are kept
pub suits_two : (shelf : List ShelfEngine) (it : Reader) (low high : List Transaction) (a b : Gist)
    → ((list : List Transaction) → IsPrefix low list → IsPrefix list high → IsRecoverable shelf list (alone it a) × IsRecoverable shelf list (alone it b))
    → EachSuits shelf (it ∷ []) low high ((a ∷ b ∷ []) ∷ [])
suits_two shelf it low high a b is list [] more less are = absurd are
suits_two shelf it low high a b is list (g ∷ []) more less are = elim (one_of_two a b g are.0) [
  | inl q ↦ subst (λ (x : Gist). IsRecoverable shelf list (alone it x)) (sym q) (is list more less).0
  | inr q ↦ subst (λ (x : Gist). IsRecoverable shelf list (alone it x)) (sym q) (is list more less).1
]
suits_two shelf it low high a b is list (g ∷ h ∷ gists) more less are = absurd are.1

-- between a log and itself
pub at_one : (P : List Transaction → Type 0) (log list : List Transaction) → P log → IsPrefix log list → IsPrefix list log → P list
at_one P log list is more less = subst P (sym (same_both log list more less)) is

-- between a log and the same with one more
pub at_two : (P : List Transaction → Type 0) (log : List Transaction) (t : Transaction) (list : List Transaction) → P log → P (log ++ t ∷ []) → IsPrefix log list → IsPrefix list (log ++ t ∷ []) → P list
at_two P log t list is longer more less = elim (one_or_more log t list more less) [ inl q ↦ subst P (sym q) is | inr q ↦ subst P (sym q) longer ]

-- At each moment of a call on the engine's files, where the log's images have one list.
pub engine_moments : (shelf : List ShelfEngine) (it : Reader) (log : List Transaction) (a b : Gist) (d₀ d₁ : Disk) → (Contains it.kind.files 0 → ⊥) → Holds log log (now d₀ 0)
    → IsRecoverable shelf log (alone it a) → IsRecoverable shelf log (alone it b)
    → Keeps d₀ d₁ (OnlyIn it.kind.files (now d₀) (EachReads it.reading (a ∷ b ∷ []))) → Keeps d₀ d₁ (EachRecoverable shelf (it ∷ []))
engine_moments shelf it log a b d₀ d₁ apart holds first second run =
    weaker d₀ d₁ (OnlyIn it.kind.files (now d₀) (EachReads it.reading (a ∷ b ∷ []))) (EachRecoverable shelf (it ∷ []))
    (λ files p. stands_recoverable shelf (it ∷ []) log log ((a ∷ b ∷ []) ∷ []) files (record {
      log = subst (λ (file : File). Holds log log file) (sym (p.0 0 apart)) holds;
      engines = (p.1, tt);
      suits = suits_two shelf it log log a b (λ list more less. at_one (λ l. IsRecoverable shelf l (alone it a) × IsRecoverable shelf l (alone it b)) log list (first, second) more less);
    })) run

-- the same files
pub same_files : (fs : List ℕ) (these those : ℕ → File) → ((f : ℕ) → Contains fs f → these f ≡ those f) → map these fs ≡ map those fs
same_files [] these those same = refl
same_files (f ∷ fs) these those same = let first = same f (0, omega arith, refl) in let rest = same_files fs these those (λ g on. same g (suc on.0, omega (arith, on.1), on.2)) in cc

-- At each moment of a call on the log's file, where the engine's images read as one gist.
pub log_moments : (shelf : List ShelfEngine) (it : Reader) (log : List Transaction) (t : Transaction) (a : Gist) (d₀ d₁ : Disk) → (Contains it.kind.files 0 → ⊥)
    → EachReads it.reading (a ∷ []) (map (now d₀) it.kind.files)
    → IsRecoverable shelf log (alone it a) → IsRecoverable shelf (log ++ t ∷ []) (alone it a)
    → Keeps d₀ d₁ (Only 0 (now d₀) (Holds log (log ++ t ∷ []))) → Keeps d₀ d₁ (EachRecoverable shelf (it ∷ []))
log_moments shelf it log t a d₀ d₁ apart reads first second run =
    weaker d₀ d₁ (Only 0 (now d₀) (Holds log (log ++ t ∷ []))) (EachRecoverable shelf (it ∷ []))
    (λ files p. stands_recoverable shelf (it ∷ []) log (log ++ t ∷ []) ((a ∷ []) ∷ []) files (record {
      log = p.1;
      engines = (subst (λ (l : List File). EachReads it.reading (a ∷ []) l) (sym (same_files it.kind.files files (now d₀) (λ f on. p.0 f (λ q. apart (subst (Contains it.kind.files) q on))))) reads, tt);
      suits = suits_one shelf it log (log ++ t ∷ []) a (λ list more less. at_two (λ l. IsRecoverable shelf l (alone it a)) log t list first second more less);
    })) run
