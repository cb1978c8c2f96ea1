-- Lines that begin with a word, and those that do not.
use Rattle.std.proofs.Common.{◌≡◌, ◌≢◌, ◌∙◌, ℕ, List, [], ◌∷◌, ◌++◌, get_or, Option, None, Some, MatchOption, sym, ap, subst, arith}
use Rattle.std.specs.Prelude.{codes}
use Rattle.std.specs.Fmt.{decimal}
use Rattle.std.proofs.lemmas.List.{append_cancel_left}
use Rattle.std.proofs.Math.Logic.{⊎_elim}
use Rattle.schedule_text.specs.declared.lines.Line.{Line}
use Rattle.schedule_text.specs.Lines.{Asked, nothing, issue, step, run, settle, line_asked, without_return, IsSession, IsSteps}
use Rattle.schedule_text.specs.Lines.{Asks, IsLine, IsBad}
use Rattle.schedule_text.specs.Inside.{IsNoWord}

-- the byte at a place of two equal texts
pub at : (place : ℕ) (a b : List ℕ) → a ≡ b → get_or a place 0 ≡ get_or b place 0
at place a b e = ap (λ (l : List ℕ). get_or l place 0) e

-- the word `run`, and no session behind it
pub run_no_word : (line rest : List ℕ) → line ≡ codes "run " ++ rest → ((number : ℕ) → IsSession number → rest ≢ decimal number)
    → IsNoWord line
run_no_word line rest is none = record {
  no_settle = λ e. omega (arith, at 0 _ _ (sym is ∙ e));
  no_run = λ session h. none session h.0 (append_cancel_left (codes "run ") rest (decimal session) (sym is ∙ h.1));
  no_step = λ session count h. omega (arith, at 0 _ _ (sym is ∙ h.2));
}

-- the word `step`, and no steps behind it
pub step_no_word : (line rest : List ℕ) → line ≡ codes "step " ++ rest
    → ((session count : ℕ) → IsSession session → IsSteps rest session count → ⊥) → IsNoWord line
step_no_word line rest is none = record {
  no_settle = λ e. omega (arith, at 1 _ _ (sym is ∙ e));
  no_run = λ session h. omega (arith, at 0 _ _ (sym is ∙ h.1));
  no_step = λ session count h. none session count h.0
      (subst (λ (l : List ℕ). IsSteps l session count) (append_cancel_left (codes "step ") h.1 rest (sym h.2 ∙ is)) h.3);
}

-- a line with another first byte than `#` and `@` asks for what its word asks for
pub bad_word : (line rest : List ℕ) (first : ℕ) → line ≡ first ∷ rest → first ≢ 35 → first ≢ 64 → IsNoWord line → (asked : Asked)
    → Asks line asked → ⊥
bad_word line rest first is no_mark no_at no_word nothing h =
    ⊎_elim (λ e. let both : first ∷ rest ≡ [] = sym is ∙ e in cc) (λ e. no_mark (at 0 _ _ (sym is ∙ e.1))) h
bad_word line rest first is no_mark no_at no_word (issue session text) h = no_at (at 0 _ _ (sym is ∙ h.1))
bad_word line rest first is no_mark no_at no_word (step session count) h = no_word.no_step session count h
bad_word line rest first is no_mark no_at no_word (run session) h = no_word.no_run session h
bad_word line rest first is no_mark no_at no_word settle h = no_word.no_settle h

pub word_line : (whole line rest : List ℕ) (first : ℕ) (r : Option Line) → line ≡ without_return whole → line ≡ first ∷ rest → first ≢ 35
    → first ≢ 64
    → MatchOption r (IsNoWord line) (λ l. Asks line (line_asked l)) → MatchOption r (IsBad whole) (λ l. IsLine whole (line_asked l))
word_line whole line rest first None same is no_mark no_at h =
    subst (λ (l : List ℕ). (asked : Asked) → Asks l asked → ⊥) same (bad_word line rest first is no_mark no_at h)
word_line whole line rest first (Some l) same is no_mark no_at h = subst (λ (xs : List ℕ). Asks xs (line_asked l)) same h
