-- What stands behind the word of a line of steps.
use Rattle.std.proofs.Common.{◌≡◌, ◌≢◌, ◌∙◌, ℕ, List, ◌∷◌, ◌++◌, sym, arith}
use Rattle.std.specs.Fmt.{decimal}
use Rattle.std.proofs.Math.Logic.{⊎_elim}
use Rattle.schedule_text.specs.Lines.{IsUpTo, IsSession, IsSteps}
use Rattle.schedule_text.specs.Inside.{HasNoSpace}
use Rattle.schedule_text.proofs.SpaceLemmas.{no_space_here, no_space_printed, space_apart}

-- bytes with no space that are no session
pub no_steps_alone : (rest : List ℕ) → HasNoSpace rest → ((number : ℕ) → IsSession number → rest ≢ decimal number)
    → (session count : ℕ) → IsSession session → IsSteps rest session count → ⊥
no_steps_alone rest free none session count up h =
    ⊎_elim (λ alone. none session up alone.0) (λ both. no_space_here rest (decimal session) (decimal count) free both.0) h

-- no session stands before the first space
pub no_steps_session : (rest digits back : List ℕ) → HasNoSpace digits × (rest ≡ digits ++ 32 ∷ back)
    → ((number : ℕ) → IsSession number → digits ≢ decimal number)
    → (session count : ℕ) → IsSession session → IsSteps rest session count → ⊥
no_steps_session rest digits back parts none session count up h =
    let free = no_space_printed session (omega (arith, up.1)) in
    ⊎_elim
    (λ alone. no_space_here (decimal session) digits back free (sym alone.0 ∙ parts.1))
    (λ both. none session up (space_apart digits back (decimal session) (decimal count) parts.0 free (sym parts.1 ∙ both.0)).0)
    h

-- no count stands behind the first space
pub no_steps_count : (rest digits back : List ℕ) → HasNoSpace digits × (rest ≡ digits ++ 32 ∷ back)
    → ((number : ℕ) → IsUpTo 9999 number → back ≢ decimal number)
    → (session count : ℕ) → IsSession session → IsSteps rest session count → ⊥
no_steps_count rest digits back parts none session count up h =
    let free = no_space_printed session (omega (arith, up.1)) in
    ⊎_elim
    (λ alone. no_space_here (decimal session) digits back free (sym alone.0 ∙ parts.1))
    (λ both. none count both.1 (space_apart digits back (decimal session) (decimal count) parts.0 free (sym parts.1 ∙ both.0)).1)
    h
