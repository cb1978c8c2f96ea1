-- Levels of parentheses.
use Rattle.std.proofs.Common.{arith, ◌≡◌, ◌==◌, ℕ, suc, true, length, List, [], ◌∷◌, ◌++◌, Some, refl, ap}
use Rattle.std.proofs.lemmas.Bool.{eqb-true}
use Rattle.sql_text.specs.declared.filter.Level.{Level}
use Rattle.sql_text.specs.Filter.{pop_last, behind_first, at_level, finished}
use Rattle.sql_text.specs.declared.filter.Head.{Head}
use Rattle.sql_text.specs.declared.filter.Tests.{Tests}
use Rattle.sql_text.specs.declared.lexeme.Lexeme.{Lexeme}

pub pop_last-push : (xs : List Level) (x : Level) → pop_last (xs ++ x ∷ []) ≡ Some (xs, x)
pop_last-push [] x = refl
pop_last-push (y ∷ xs) x = ap (λ p. Some (behind_first y p)) (pop_last-push xs x)

suc_no_zero : (n : ℕ) → (suc n == 0) ≡ true → ⊥
suc_no_zero n is = omega (arith, eqb-true (suc n) 0 is)

-- no level is around the innermost one
pub at_level_nil : (h : Head) (t : Tests) (outer : List Level) (l : Lexeme) → (length outer == 0) ≡ true → at_level h t outer l ≡ finished h t l
at_level_nil h t [] l is = refl
at_level_nil h t (x ∷ xs) l is = absurd (suc_no_zero (length xs) is)
