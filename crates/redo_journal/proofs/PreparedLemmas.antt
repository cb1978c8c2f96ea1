-- The prepared transactions of an index: found by xid, one more, and without an xid.
use Rattle.std.proofs.Common.{◌≡◌, ℕ, List, [], ◌∷◌, Some, None, cond, refl, sym, ap, ◌∙◌, inl, inr, subst}
use Rattle.std.specs.Prelude.{Option, is_some, not}
use Rattle.std.specs.List.{find, filter}
use Rattle.std.proofs.lemmas.Bool.{cond-true, cond-false, cases_Bool, eqb-true}
use Rattle.log_tables.specs.declared.gist.Prepared.{Prepared}
use Rattle.log_tables.specs.Gists.{has_xid, prepared_with, is_prepared, without_xid}
use Rattle.redo_journal.specs.declared.record.Record.{Record}
use Rattle.redo_journal.specs.Index.{prepared_at, is_xid, has_xid_at, ArePreparedAt}

-- what was found among the numbers for an xid: the transaction that is prepared with it, or none
abbrev pub FoundFor : List Record → ℕ → List Prepared → Option ℕ → Type 0
FoundFor records xid its None = prepared_with xid its ≡ None
FoundFor records xid its (Some number) = (it : Prepared) × (prepared_at records number ≡ Some it) × (prepared_with xid its ≡ Some it)

same_xid : (records : List Record) (xid number : ℕ) (it : Prepared) → prepared_at records number ≡ Some it → has_xid_at records xid number ≡ has_xid xid it
same_xid records xid number it is = ap (is_xid xid) is

found_for : (records : List Record) (xid : ℕ) (numbers : List ℕ) (its : List Prepared) → ArePreparedAt records numbers its → FoundFor records xid its (find (has_xid_at records xid) numbers)
found_for records xid [] [] are = refl
found_for records xid [] (p ∷ ps) are = absurd are
found_for records xid (n ∷ ns) [] are = absurd are
found_for records xid (n ∷ ns) (p ∷ ps) are = elim (cases_Bool (has_xid_at records xid n)) [
  | inl here ↦
      subst (FoundFor records xid (p ∷ ps)) (sym (cond-true (has_xid_at records xid n) (Some n) (find (has_xid_at records xid) ns) here))
      (p, are.0, cond-true (has_xid xid p) (Some p) (prepared_with xid ps) (sym (same_xid records xid n p are.0) ∙ here))
  | inr other ↦
      subst (FoundFor records xid (p ∷ ps)) (sym (cond-false (has_xid_at records xid n) (Some n) (find (has_xid_at records xid) ns) other))
      (behind (find (has_xid_at records xid) ns) (cond-false (has_xid xid p) (Some p) (prepared_with xid ps) (sym (same_xid records xid n p are.0) ∙ other)) (found_for records xid ns ps are.1))
]
  where
    behind : (o : Option ℕ) → prepared_with xid (p ∷ ps) ≡ prepared_with xid ps → FoundFor records xid ps o → FoundFor records xid (p ∷ ps) o
    behind None same found = same ∙ found
    behind (Some number) same found = (found.0, found.1, same ∙ found.2)

-- What was found for an xid.
pub prepared_found : (records : List Record) (xid : ℕ) (numbers : List ℕ) (its : List Prepared) (o : Option ℕ) → ArePreparedAt records numbers its → o ≡ find (has_xid_at records xid) numbers → FoundFor records xid its o
prepared_found records xid numbers its o are is = subst (FoundFor records xid its) (sym is) (found_for records xid numbers its are)

-- An xid is prepared where a number was found for it.
pub prepared_is : (records : List Record) (xid : ℕ) (its : List Prepared) (o : Option ℕ) → FoundFor records xid its o → is_prepared xid its ≡ is_some o
prepared_is records xid its None found = ap is_some found
prepared_is records xid its (Some number) found = ap is_some found.2

-- Without an xid, those with another one stay.
pub prepared_without : (records : List Record) (xid : ℕ) (numbers : List ℕ) (its : List Prepared) → ArePreparedAt records numbers its → ArePreparedAt records (filter (λ number. not (has_xid_at records xid number)) numbers) (without_xid xid its)
prepared_without records xid [] [] are = tt
prepared_without records xid [] (p ∷ ps) are = absurd are
prepared_without records xid (n ∷ ns) [] are = absurd are
prepared_without records xid (n ∷ ns) (p ∷ ps) are =
    let same = ap not (same_xid records xid n p are.0) in
    let rest = prepared_without records xid ns ps are.1 in
    let here = filter (λ number. not (has_xid_at records xid number)) ns in
    elim (cases_Bool (not (has_xid_at records xid n))) [
      | inl stays ↦
          subst (ArePreparedAt records (cond (not (has_xid_at records xid n)) (n ∷ here) here)) (sym (cond-true (not (has_xid xid p)) (p ∷ without_xid xid ps) (without_xid xid ps) (sym same ∙ stays)))
          (subst (λ (l : List ℕ). ArePreparedAt records l (p ∷ without_xid xid ps)) (sym (cond-true (not (has_xid_at records xid n)) (n ∷ here) here stays)) (are.0, rest))
      | inr gone ↦
          subst (ArePreparedAt records (cond (not (has_xid_at records xid n)) (n ∷ here) here)) (sym (cond-false (not (has_xid xid p)) (p ∷ without_xid xid ps) (without_xid xid ps) (sym same ∙ gone)))
          (subst (λ (l : List ℕ). ArePreparedAt records l (without_xid xid ps)) (sym (cond-false (not (has_xid_at records xid n)) (n ∷ here) here gone)) rest)
    ]

-- The transaction that is prepared with an xid has it.
pub prepared_xid : (xid : ℕ) (its : List Prepared) (it : Prepared) → prepared_with xid its ≡ Some it → it.xid ≡ xid
prepared_xid xid [] it is = cc
prepared_xid xid (p ∷ ps) it is = elim (cases_Bool (has_xid xid p)) [
  | inl here ↦ ap (λ (x : Prepared). x.xid) (some_same it p (sym is ∙ cond-true (has_xid xid p) (Some p) (prepared_with xid ps) here)) ∙ eqb-true p.xid xid here
  | inr other ↦ prepared_xid xid ps it (sym (cond-false (has_xid xid p) (Some p) (prepared_with xid ps) other) ∙ is)
]
  where
    some_same : (x y : Prepared) → Some x ≡ Some y → x ≡ y
    some_same x y e = cc
