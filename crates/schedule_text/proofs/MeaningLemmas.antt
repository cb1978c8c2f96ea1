-- A line has one meaning.
use Rattle.std.proofs.Common.{◌≡◌, ◌==◌, ◌∙◌, ℕ, List, [], ◌∷◌, ◌++◌, get_or, sym, ap, subst, refl, arith}
use Rattle.std.specs.Prelude.{codes, if◌then◌else◌}
use Rattle.std.specs.Fmt.{decimal}
use Rattle.std.proofs.lemmas.List.{append_cancel_left}
use Rattle.std.proofs.lemmas.Fmt.{decimal_injective}
use Rattle.std.proofs.Math.Logic.{⊎_elim}
use Rattle.schedule_text.specs.Lines.{Asked, nothing, issue, step, run, settle, without_return, IsSession, IsSteps, Asks, IsLine}
use Rattle.schedule_text.proofs.SpaceLemmas.{no_space_here, no_space_printed, space_apart}

-- which kind of line it is, by its first two bytes
abbrev mark_of : ℕ → ℕ → ℕ
mark_of one two = if one == 64 then 1 else if one == 114 then 2 else if one == 115 then (if two == 116 then 3 else 4) else 0

-- the number of a kind
abbrev kind_of : Asked → ℕ
kind_of nothing = 0
kind_of (issue session text) = 1
kind_of (run session) = 2
kind_of (step session count) = 3
kind_of settle = 4

-- the first two bytes tell the kind
kind_told : (bytes : List ℕ) (asked : Asked) → Asks bytes asked → mark_of (get_or bytes 0 0) (get_or bytes 1 0) ≡ kind_of asked
kind_told bytes nothing h =
    ⊎_elim (λ e. ap (λ (l : List ℕ). mark_of (get_or l 0 0) (get_or l 1 0)) e)
    (λ e. ap (λ (l : List ℕ). mark_of (get_or l 0 0) (get_or l 1 0)) e.1) h
kind_told bytes (issue session text) h = ap (λ (l : List ℕ). mark_of (get_or l 0 0) (get_or l 1 0)) h.1
kind_told bytes (run session) h = ap (λ (l : List ℕ). mark_of (get_or l 0 0) (get_or l 1 0)) h.1
kind_told bytes (step session count) h = ap (λ (l : List ℕ). mark_of (get_or l 0 0) (get_or l 1 0)) h.2
kind_told bytes settle h = ap (λ (l : List ℕ). mark_of (get_or l 0 0) (get_or l 1 0)) h

-- two sessions that are printed the same are one
session_same : (one other : ℕ) → IsSession one → IsSession other → decimal one ≡ decimal other → one ≡ other
session_same one other a b e = decimal_injective one other (omega (arith, a.1)) (omega (arith, b.1)) e

-- what stands behind the word `step` has one reading
steps_same : (rest : List ℕ) (session count other more : ℕ) → IsSession session → IsSession other → IsSteps rest session count
    → IsSteps rest other more
    → step session count ≡ step other more
steps_same rest session count other more a b h k =
    let free = no_space_printed session (omega (arith, a.1)) in
    let free_other = no_space_printed other (omega (arith, b.1)) in
    ⊎_elim
    (λ alone. ⊎_elim
    (λ too. let same = session_same session other a b (sym alone.0 ∙ too.0) in let counts : count ≡ more = alone.1 ∙ sym too.1 in cc)
    (λ both. absurd (no_space_here (decimal session) (decimal other) (decimal more) free (sym alone.0 ∙ both.0)))
    k)
    (λ both. ⊎_elim
    (λ alone. absurd (no_space_here (decimal other) (decimal session) (decimal count) free_other (sym alone.0 ∙ both.0)))
    (λ too.
    let parts = space_apart (decimal session) (decimal count) (decimal other) (decimal more) free free_other (sym both.0 ∙ too.0) in
    let same = session_same session other a b parts.0 in
    let counts : count ≡ more = decimal_injective count more (omega (arith, both.1.1)) (omega (arith, too.1.1)) parts.1 in
    cc)
    k)
    h

-- bytes ask for one thing at most
asked_same : (bytes : List ℕ) (one other : Asked) → Asks bytes one → Asks bytes other → one ≡ other
asked_same bytes nothing nothing h k = refl
asked_same bytes settle settle h k = refl
asked_same bytes (issue session text) (issue other whole) h k =
    let tails : decimal session ++ 32 ∷ text ≡ decimal other ++ 32 ∷ whole = append_cancel_left (64 ∷ []) _ _ (sym h.1 ∙ k.1) in
    let free = no_space_printed session (omega (arith, h.0.1)) in
    let parts = space_apart (decimal session) text (decimal other) whole free (no_space_printed other (omega (arith, k.0.1))) tails in
    let same = session_same session other h.0 k.0 parts.0 in
    let texts : text ≡ whole = parts.1 in
    cc
asked_same bytes (run session) (run other) h k =
    let same = session_same session other h.0 k.0 (append_cancel_left (codes "run ") _ _ (sym h.1 ∙ k.1)) in
    cc
asked_same bytes (step session count) (step other more) h k =
    let rests : k.1 ≡ h.1 = append_cancel_left (codes "step ") k.1 h.1 (sym k.2 ∙ h.2) in
    steps_same h.1 session count other more h.0 k.0 h.3 (subst (λ (l : List ℕ). IsSteps l other more) rests k.3)
asked_same bytes one other h k =
    let kinds : kind_of one ≡ kind_of other = sym (kind_told bytes one h) ∙ kind_told bytes other k in
    absurd (omega (arith, kinds))

-- a line has one meaning
pub meaning_same : (line : List ℕ) (one other : Asked) → IsLine line one → IsLine line other → one ≡ other
meaning_same line one other h k = asked_same (without_return line) one other h k
