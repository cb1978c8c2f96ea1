-- What the front of a line tells of the line.
use Rattle.std.proofs.Common.{◌≡◌, ◌≢◌, ◌≤◌, ◌<◌, ◌+◌, ◌-◌, ◌==◌, ◌⊎◌, ◌∙◌, ℕ, zero, suc, List, [], ◌∷◌, ◌++◌, Bool, true, false, nat_eq}
use Rattle.std.proofs.Common.{length, take, drop, refl, inl, inr, sym, ap, arith, append_assoc, length-append, length-take}
use Rattle.std.proofs.Common.{take_all}
use Rattle.std.specs.Prelude.{if◌then◌else◌, slice_index}
use Rattle.std.specs.Fmt.{decimal}
use Rattle.std.proofs.Math.Seq.{take-append-add}
use Rattle.std.proofs.Math.Logic.{⊎_elim}
use Rattle.std.proofs.lemmas.Bool.Decides.{nat_tests}
use Rattle.std.proofs.lemmas.List.{take-append-drop, take-append-le}
use Rattle.std.proofs.lemmas.Fmt.{length-decimal-le}
use Rattle.schedule_text.specs.Lines.{Asked, nothing, issue, step, run, settle, without_return, IsUpTo, IsSession, Asks}
use Rattle.schedule_text.specs.Front.{FrontTells}
use Rattle.schedule_text.proofs.WordLemmas.{at}

cut_by : (line : List ℕ) (b : Bool)
    → (k : ℕ) × (length line ≤ k + 1) × (k ≤ length line) × ((if b then take (length line - 1) line else line) ≡ take k line)
cut_by line true = (length line - 1, omega arith, omega arith, refl)
cut_by line false = (length line, omega arith, omega arith, sym (take_all (length line) line (omega arith)))

-- a line without its return is a front of the line, and at most one byte shorter
return_cut : (line : List ℕ) → (k : ℕ) × (length line ≤ k + 1) × (k ≤ length line) × (without_return line ≡ take k line)
return_cut line = cut_by line (slice_index line (length line - 1) == 13)

-- a front of a front
take_front : (k m : ℕ) (line : List ℕ) → k ≤ m → m ≤ length line → take k (take m line) ≡ take k line
take_front k m line le within =
    sym (take-append-le k (take m line) (drop m line) (omega (arith, length-take m line)))
    ∙ ap (λ (l : List ℕ). take k l) (take-append-drop m line)

-- the front of a longer line, without a return, is a front of the line without one
front_cut : (m : ℕ) (line : List ℕ) → m < length line
    → (k : ℕ) × (m ≤ k + 1) × (k ≤ length (without_return line)) × (without_return (take m line) ≡ take k (without_return line))
front_cut m line longer =
    let front = return_cut (take m line) in
    let whole = return_cut line in
    let all : length (take m line) ≡ m = omega (arith, length-take m line) in
    let len : length (without_return line) ≡ whole.0 = ap length whole.3 ∙ omega (arith, length-take whole.0 line, whole.2) in
    let k = front.0 in (
      k,
      omega (arith, front.1, all),
      omega (arith, front.2, all, whole.1, len),
      front.3 ∙ take_front k m line (omega (arith, front.2, all)) (omega arith)
          ∙ sym (take_front k whole.0 line (omega (arith, front.2, all, whole.1)) whole.2) ∙ ap (λ (l : List ℕ). take k l) (sym whole.3),
    )

-- what a front begins with, the whole begins with
begins_up : (k : ℕ) (ys p t : List ℕ) → take k ys ≡ p ++ t → ys ≡ p ++ (t ++ drop k ys)
begins_up k ys p t e = sym (take-append-drop k ys) ∙ ap (λ (l : List ℕ). l ++ drop k ys) e ∙ append_assoc p t (drop k ys)

-- and the other way round, where the front is long enough
begins_down : (k n : ℕ) (ys p t : List ℕ) → k ≡ length p + n → ys ≡ p ++ t → take k ys ≡ p ++ take n t
begins_down k n ys p t is e = ap (λ (i : ℕ). take i ys) is ∙ ap (λ (l : List ℕ). take (length p + n) l) e ∙ take-append-add p t n

-- a session has two digits at most
session_short : (session : ℕ) → IsSession session → length (decimal session) ≤ 2
session_short session up = length-decimal-le 2 session (omega arith) (omega (arith, up.1)) (omega (arith, up.1))

-- an issue has a text that is four bytes shorter at most
issue_length : (bytes : List ℕ) (session : ℕ) (text : List ℕ) → Asks bytes (issue session text) → length bytes ≤ length text + 4
issue_length bytes session text h =
    omega (arith, ap length h.1, length-append (decimal session) (32 ∷ text), session_short session h.0)

-- a line that begins with a word is short
word_short : (bytes : List ℕ) (session count : ℕ) → (Asks bytes settle) ⊎ ((Asks bytes (run session)) ⊎ (Asks bytes (step session count)))
    → length bytes ≤ 20
word_short bytes session count h =
    ⊎_elim
    (λ e. omega (arith, ap length e))
    (λ more. ⊎_elim
    (λ e. omega (arith, ap length e.1, session_short session e.0))
    (λ e.
    let digits = session_short session e.0 in
    let len = ap length e.2 in
    ⊎_elim
    (λ alone. omega (arith, len, ap length alone.0, digits))
    (λ both.
    let counts : length (decimal count) ≤ 4 = length-decimal-le 4 count (omega arith) (omega (arith, both.1.1)) (omega (arith, both.1.1)) in
    omega (arith, len, ap length both.0, length-append (decimal session) (32 ∷ decimal count), digits, counts))
    e.3)
    more)
    h

-- an issue in the front is one in the whole
issue_up : (xs ys : List ℕ) (k session : ℕ) (text : List ℕ) → xs ≡ take k ys → Asks xs (issue session text)
    → Asks ys (issue session (text ++ drop k ys))
issue_up xs ys k session text is h = (h.0, begins_up k ys (64 ∷ decimal session) (32 ∷ text) (sym is ∙ h.1))

-- and the other way round
issue_down : (xs ys : List ℕ) (k session : ℕ) (text : List ℕ) → xs ≡ take k ys → 4 ≤ k → Asks ys (issue session text)
    → Asks xs (issue session (take (k - (length (decimal session) + 2)) text))
issue_down xs ys k session text is long h =
    let n = k - (length (decimal session) + 2) in
    let parts : k ≡ length (64 ∷ decimal session) + suc n = omega (arith, session_short session h.0) in
    (h.0, is ∙ begins_down k (suc n) ys (64 ∷ decimal session) (32 ∷ text) parts h.1)

-- the front asks for nothing where the whole does
nothing_up : (xs ys : List ℕ) (k : ℕ) → xs ≡ take k ys → 1 ≤ k → k ≤ length ys → Asks xs nothing → Asks ys nothing
nothing_up xs ys k is some within h =
    ⊎_elim
    (λ e. absurd (omega (arith, ap length is, ap length e, length-take k ys)))
    (λ e. inr (e.0 ++ drop k ys, begins_up k ys (35 ∷ []) e.0 (sym is ∙ e.1)))
    h

nothing_down : (xs ys : List ℕ) (k : ℕ) → xs ≡ take k ys → 1 ≤ k → k ≤ length ys → Asks ys nothing → Asks xs nothing
nothing_down xs ys k is some within h =
    ⊎_elim
    (λ e. absurd (omega (arith, ap length e)))
    (λ e. inr (take (k - 1) e.0, is ∙ begins_down k (k - 1) ys (35 ∷ []) e.0 (omega arith) e.1))
    h

same_or_not : (a b : ℕ) (t : Bool) → nat_eq a b ≡ t → (a ≡ b) ⊎ (a ≢ b)
same_or_not a b true e = inl (grind (arith, nat_tests))
same_or_not a b false e = inr (λ is. let both : nat_eq a b ≡ true = grind (arith, nat_tests) in cc)

-- whether bytes begin so
begins_or_not : (p bs : List ℕ) → ((t : List ℕ) × (bs ≡ p ++ t)) ⊎ ((t : List ℕ) → bs ≢ p ++ t)
begins_or_not [] bs = inl (bs, refl)
begins_or_not (x ∷ p) [] = inr (λ t e. cc)
begins_or_not (x ∷ p) (b ∷ bs) =
    ⊎_elim
    (λ same. ⊎_elim
    (λ found. inl (found.0, let tails = found.1 in cc))
    (λ none. inr (λ t e. none t (cc)))
    (begins_or_not p bs))
    (λ other. inr (λ t e. other (cc)))
    (same_or_not b x (nat_eq b x) refl)

-- an issue to one of the first sessions
record IsIssueTo (most : ℕ) (bytes : List ℕ) : Type 0 where
  session : ℕ
  text : List ℕ
  up : IsUpTo most session
  is : bytes ≡ 64 ∷ (decimal session ++ 32 ∷ text)

le_or_more : (n m : ℕ) → (n ≤ m) ⊎ (suc m ≤ n)
le_or_more n m = grind arith

-- whether bytes issue something to one of the first sessions
issue_or_not : (most : ℕ) (bytes : List ℕ) → IsIssueTo most bytes ⊎ (IsIssueTo most bytes → ⊥)
issue_or_not zero bytes = inr (λ h. omega (arith, h.up.0, h.up.1))
issue_or_not (suc n) bytes =
    ⊎_elim
    (λ found. inl (record { session = found.session; text = found.text; up = (found.up.0, omega (arith, found.up.1)); is = found.is }))
    (λ none. ⊎_elim
    (λ here. inl (record {
      session = suc n;
      text = here.0;
      up = (omega arith, omega arith);
      is = here.1 ∙ ap (λ (l : List ℕ). 64 ∷ l) (append_assoc (decimal (suc n)) (32 ∷ []) here.0);
    }))
    (λ other. inr (λ h. ⊎_elim
    (λ le. none (record { session = h.session; text = h.text; up = (h.up.0, le); is = h.is }))
    (λ more.
    let last : h.session ≡ suc n = omega (arith, more, h.up.1) in
    let parted = sym (append_assoc (decimal (suc n)) (32 ∷ []) h.text) in
    other h.text (h.is ∙ ap (λ (s : ℕ). 64 ∷ (decimal s ++ 32 ∷ h.text)) last ∙ ap (λ (l : List ℕ). 64 ∷ l) parted))
    (le_or_more h.session n)))
    (begins_or_not (64 ∷ (decimal (suc n) ++ 32 ∷ [])) bytes))
    (issue_or_not n bytes)

nothing_or_not : (bytes : List ℕ) → Asks bytes nothing ⊎ (Asks bytes nothing → ⊥)
nothing_or_not [] = inl (inl refl)
nothing_or_not (b ∷ bytes) =
    ⊎_elim
    (λ is. inl (inr (bytes, ap (λ (c : ℕ). c ∷ bytes) is)))
    (λ other. inr (λ h. ⊎_elim (λ e. cc) (λ e. other (at 0 _ _ e.1)) h))
    (same_or_not b 35 (nat_eq b 35) refl)

-- long bytes that are neither nothing nor an issue ask for nothing that there is
long_bad : (bytes : List ℕ) → 21 ≤ length bytes → (Asks bytes nothing → ⊥)
    → ((session : ℕ) (text : List ℕ) → Asks bytes (issue session text) → ⊥)
    → (asked : Asked) → Asks bytes asked → ⊥
long_bad bytes long none no_issue nothing h = none h
long_bad bytes long none no_issue (issue session text) h = no_issue session text h
long_bad bytes long none no_issue (step session count) h = omega (arith, word_short bytes session count (inr (inr h)))
long_bad bytes long none no_issue (run session) h = omega (arith, word_short bytes session 0 (inr (inl h)))
long_bad bytes long none no_issue settle h = omega (arith, word_short bytes 0 0 (inl h))

-- the front of a line that is longer
long_front : (line : List ℕ) → 65542 < length line → FrontTells (take 65542 line) line
long_front line longer =
    let cut = front_cut 65542 line longer in
    let k = cut.0 in
    let xs = without_return (take 65542 line) in
    let ys = without_return line in
    let len : length xs ≡ k = ap length cut.3 ∙ omega (arith, length-take k ys, cut.2) in
    ⊎_elim
    (λ none. inr (inl (none, nothing_up xs ys k cut.3 (omega (arith, cut.1)) cut.2 none)))
    (λ some. ⊎_elim
    (λ found.
    let h : Asks xs (issue found.session found.text) = (found.up, found.is) in
    let long : 65536 < length found.text = omega (arith, issue_length xs found.session found.text h, len, cut.1) in
    inr (inr (inr (record {
      session = found.session;
      text = found.text;
      whole = found.text ++ drop k ys;
      front_is = h;
      line_is = issue_up xs ys k found.session found.text cut.3 h;
      front_long = long;
      line_long = omega (arith, long, length-append found.text (drop k ys));
    }))))
    (λ no_issue. inr (inr (inl (
      long_bad xs (omega (arith, len, cut.1)) some
          (λ session text h. no_issue (record { session = session; text = text; up = h.0; is = h.1 })),
      long_bad ys (omega (arith, cut.1, cut.2)) (λ none. some (nothing_down xs ys k cut.3 (omega (arith, cut.1)) cut.2 none))
          (λ session text h.
          let down = issue_down xs ys k session text cut.3 (omega (arith, cut.1)) h in
          no_issue (record { session = session; text = take (k - (length (decimal session) + 2)) text; up = down.0; is = down.1 })),
    ))))
    (issue_or_not 64 xs))
    (nothing_or_not xs)

-- the first 65,542 bytes of a line tell what it asks for
pub front_tells : (line : List ℕ) → FrontTells (take 65542 line) line
front_tells line =
    ⊎_elim (λ short. inl (take_all 65542 line short)) (λ longer. long_front line (omega (arith, longer))) (le_or_more (length line) 65542)
