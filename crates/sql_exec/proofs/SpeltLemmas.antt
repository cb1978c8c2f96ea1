-- What a statement changes can be spelt in the log.
use Rattle.std.proofs.Common.{◌≡◌, ◌≤◌, ◌<◌, ◌⊎◌, ℕ, List, length, All, Option, Some, None, refl, sym, subst, inl, inr, arith}
use Rattle.std.specs.Prelude.{Result, Ok}
use Rattle.sql_value.specs.declared.refusal.Refusal.{Refusal}
use Rattle.sql_value.specs.declared.refusal.Refusal.TheVariants.{TransactionTooLarge}
use Rattle.sql_value.specs.declared.value.Value.{Value}
use Rattle.sql_value.specs.Names.{IsName}
use Rattle.row_format.specs.Changes.{IsFitChange, AreFitChanges}
use Rattle.row_format.specs.Rows.{IsRow}
use Rattle.row_format.specs.Schemas.{IsSchema}
use Rattle.row_format.specs.declared.change.Change.{Change}
use Rattle.row_format.specs.declared.schema.Schema.{Schema}
use Rattle.sql_effect.specs.declared.shape.Effect.{Effect}
use Rattle.sql_effect.specs.declared.shape.Sizes.{Sizes}
use Rattle.sql_effect.specs.Effects.{counts, makes, sized}
use Rattle.sql_effect.specs.Rewrite.{refused_or}
use Rattle.sql_effect.specs.Sizes.{size_refusal}
use Rattle.sql_effect.proofs.InsertLemmas.{fit_inserts}
use Rattle.sql_effect.proofs.SizeLemmas.{many_changes}
use Rattle.sql_exec.specs.Inserts.{inserts_of}
use Rattle.sql_exec.specs.Spelt.{CanBeSpelt}
use Rattle.sql_exec.proofs.ExecuteLemmas.{granted_is}

-- one change that fits
pub one_spelt : (change : Change) (it : Effect) → it ≡ makes change → IsFitChange change → CanBeSpelt it
one_spelt change it is fit = subst CanBeSpelt (sym is) (record { fit = (fit, tt); few = omega arith })

-- the inserts of rows that go into their table
pub inserts_fit : (table : List ℕ) (schema : Schema) (rows : List (List Value)) (changes : List Change) → IsName table → IsSchema schema → All (IsRow schema) rows
    → changes ≡ inserts_of table schema rows → AreFitChanges changes
inserts_fit table schema rows changes named is fit same =
    subst AreFitChanges (sym same) (fit_inserts (record { table = table; schema = schema }) rows (record { named = named; schema = is }) fit)

not_refused : (o : Option Refusal) (r : Result Effect Refusal) (it : Effect) → refused_or o r ≡ Ok it → o ≡ None
not_refused None r it is = refl
not_refused (Some refusal) r it is = cc

not_both : (o : Option Refusal) (refusal : Refusal) → o ≡ Some refusal → o ≡ None → ⊥
not_both o refusal some none = cc

le_or_more : (n m : ℕ) → (n ≤ m) ⊎ (m < n)
le_or_more n m = grind arith

-- changes that do not make a transaction too large are no more than its bytes may be
few_changes : (before : ℕ) (changes : List Change) → size_refusal before changes ≡ None → length changes ≤ 1048576
few_changes before changes none = elim (le_or_more (length changes) 1048576) [
  | inl few ↦ few
  | inr many ↦ absurd (not_both (size_refusal before changes) TransactionTooLarge (many_changes before changes many) none)
]

-- changes that fit, and that do not make their transaction too large
pub sized_spelt : (sizes : Sizes) (changes : List Change) (it : Effect) → AreFitChanges changes → sized sizes changes ≡ Ok it → CanBeSpelt it
sized_spelt sizes changes it fit is =
    let refusal = size_refusal sizes.open changes in
    let few = few_changes sizes.open changes (not_refused refusal (Ok (counts changes)) it is) in
    subst CanBeSpelt (sym (granted_is refusal (counts changes) it is)) (record { fit = fit; few = omega (arith, few) })
