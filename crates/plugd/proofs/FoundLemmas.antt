-- What an opening has found goes on with the log: the xids, their numbers, and the dictionary.
use Rattle.std.proofs.Common.{◌≡◌, ◌⊎◌, inl, inr, ℕ, zero, suc, List, [], ◌∷◌, ◌++◌, length, Some, None, Result, Ok, Err, OnOk, refl, sym, ◌∙◌, ap, subst, arith}
use Rattle.std.specs.Prelude.{◌+◌, slice_get}
use Rattle.std.proofs.lemmas.List.Elements.{All-push}
use Rattle.row_format.specs.declared.change.Change.{Change}
use Rattle.row_format.specs.declared.change.Transaction.{Transaction}
use Rattle.row_format.specs.Changes.{AreFitChanges}
use Rattle.dictionary.specs.Dictionary.{Tells, changes_of}
use Rattle.xid_recovery.specs.Pairs.{ArePairsOf}
use Rattle.plugd.specs.declared.found.Found.{Found}
use Rattle.plugd.specs.Found.{IsFound}
use Rattle.plugd.specs.Xids.{xids_of}
use Rattle.plugd.specs.XidSet.{Knows}
use Rattle.plugd.proofs.DictionaryLemmas.{changes_of-push}
use Rattle.plugd.proofs.XidLemmas.{xids_of-append}

none_some : {X : Type 0} {x : X} → None ≡ Some x → ⊥
none_some e = cc

some_same : {X : Type 0} {x y : X} → Some x ≡ Some y → x ≡ y
some_same e = cc

-- what follows of what an Ok tells
pub on_ok : {T E P Q : Type 0} (r : Result T E) → (P → Q) → OnOk r P → OnOk r Q
on_ok (Ok value) f is = f is
on_ok (Err e) f is = tt

-- what stands behind others: it, or one of those
pushed_cases : {X : Type 0} (xs : List X) (x : X) (place : ℕ) (y : X) → slice_get (xs ++ x ∷ []) place ≡ Some y
    → (slice_get xs place ≡ Some y) ⊎ ((place ≡ length xs) × (x ≡ y))
pushed_cases [] x zero y e = inr (refl, some_same e)
pushed_cases [] x (suc place) y e = absurd (none_some e)
pushed_cases (z ∷ xs) x zero y e = inl e
pushed_cases (z ∷ xs) x (suc place) y e = elim (pushed_cases xs x place y e) [
  | inl before ↦ inl before
  | inr last ↦ inr (ap suc last.0, last.1)
]

stays_there : {X : Type 0} (xs : List X) (x : X) (place : ℕ) (y : X) → slice_get xs place ≡ Some y → slice_get (xs ++ x ∷ []) place ≡ Some y
stays_there [] x place y e = absurd (none_some e)
stays_there (z ∷ xs) x zero y e = e
stays_there (z ∷ xs) x (suc place) y e = stays_there xs x place y e

last_there : {X : Type 0} (xs : List X) (x : X) → slice_get (xs ++ x ∷ []) (length xs) ≡ Some x
last_there [] x = refl
last_there (z ∷ xs) x = last_there xs x

length_more : {X : Type 0} (xs : List X) (x : X) → length (xs ++ x ∷ []) ≡ suc (length xs)
length_more [] x = refl
length_more (z ∷ xs) x = ap suc (length_more xs x)

-- The pairs of a log with one transaction more.
pub pairs_go : (log : List Transaction) (t : Transaction) (pairs : List (ℕ × ℕ)) (number : ℕ) → ArePairsOf log pairs → number ≡ length pairs + 1
    → ArePairsOf (log ++ t ∷ []) (pairs ++ (t.xid, number) ∷ [])
pairs_go log t pairs number are next = record {
  as_many = length_more pairs (t.xid, number) ∙ ap suc are.as_many ∙ sym (length_more log t);
  pair = λ place it found. elim (pushed_cases log t place it found) [
    | inl before ↦ stays_there pairs (t.xid, number) place (it.xid, suc place) (are.pair place it before)
    | inr last ↦
        let at : place ≡ length pairs = last.0 ∙ sym are.as_many in
        let counts : number ≡ suc place = omega (arith, next, at) in
        ap (slice_get (pairs ++ (t.xid, number) ∷ [])) at
        ∙ last_there pairs (t.xid, number)
        ∙ ap (λ (n : ℕ). Some (t.xid, n)) counts
        ∙ ap (λ (it : Transaction). Some (it.xid, suc place)) last.1
  ];
}

-- What was found in a log goes on with one transaction more.
pub found_goes : (log : List Transaction) (t : Transaction) (old new : Found) (number : ℕ) → IsFound log old → AreFitChanges t.changes
    → Knows new.xids (xids_of log ++ t.xid ∷ []) → new.pairs.items ≡ old.pairs.items ++ (t.xid, number) ∷ []
    → number ≡ length old.pairs.items + 1 → Tells (changes_of log ++ t.changes) new.dictionary → IsFound (log ++ t ∷ []) new
found_goes log t old new number is fit knows pairs next tells = record {
  fit = All-push (λ (it : Transaction). AreFitChanges it.changes) log t is.fit fit;
  knows = subst (λ (used : List ℕ). Knows new.xids used) (sym (xids_of-append log (t ∷ []))) knows;
  pairs = subst (λ (items : List (ℕ × ℕ)). ArePairsOf (log ++ t ∷ []) items) (sym pairs) (pairs_go log t old.pairs.items number is.pairs next);
  dictionary = subst (λ (cs : List Change). Tells cs new.dictionary) (sym (changes_of-push log t)) tells;
}
