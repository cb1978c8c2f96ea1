-- Lines, byte by byte.
use Rattle.std.proofs.Common.{◌≡◌, ◌≢◌, ◌⊎◌, ⊎_elim, ℕ, zero, suc, ◌<◌, ◌≤◌, List, [], ◌∷◌, ◌++◌, length, take, refl, sym, ◌∙◌, ap, subst, arith, append_assoc, length-append}
use Rattle.std.proofs.lemmas.List.{append-nil, take_all, take-append-le, length-take-le}
use Rattle.plugd.specs.Lines.{HasNoFeed, AreLines, joined, Splits, front_of, closing, AreAll, AreFirst}

pub no_feed_push : (rest : List ℕ) (byte : ℕ) → HasNoFeed rest → byte ≢ 10 → HasNoFeed (rest ++ byte ∷ [])
no_feed_push [] byte is not = (not, tt)
no_feed_push (x ∷ rest) byte is not = (is.0, no_feed_push rest byte is.1 not)

pub lines_push : (lines : List (List ℕ)) (line : List ℕ) → AreLines lines → HasNoFeed line → AreLines (lines ++ line ∷ [])
lines_push [] line are is = (is, tt)
lines_push (x ∷ lines) line are is = (are.0, lines_push lines line are.1 is)

pub joined-append : (xs ys : List (List ℕ)) → joined (xs ++ ys) ≡ joined xs ++ joined ys
joined-append [] ys = refl
joined-append (x ∷ xs) ys = ap (λ (l : List ℕ). x ++ 10 ∷ l) (joined-append xs ys) ∙ sym (append_assoc x (10 ∷ joined xs) (joined ys))

pub few_lines : (lines : List (List ℕ)) → length lines ≤ length (joined lines)
few_lines [] = omega arith
few_lines (x ∷ xs) = let rest = few_lines xs in let size = length-append x (10 ∷ joined xs) in omega (arith, rest, size)

-- no bytes were taken yet
pub splits_none : Splits [] [] []
splits_none = record { spelt = refl; lines_are = tt; is_open = tt }

pub splits_byte : (taken : List ℕ) (lines : List (List ℕ)) (rest : List ℕ) (byte : ℕ) → Splits taken lines rest → byte ≢ 10 → Splits (taken ++ byte ∷ []) lines (rest ++ byte ∷ [])
splits_byte taken lines rest byte is not = record {
  spelt = ap (λ (l : List ℕ). l ++ byte ∷ []) is.spelt ∙ append_assoc (joined lines) rest (byte ∷ []);
  lines_are = is.lines_are;
  is_open = no_feed_push rest byte is.is_open not;
}

pub splits_feed : (taken : List ℕ) (lines : List (List ℕ)) (rest : List ℕ) → Splits taken lines rest → Splits (taken ++ 10 ∷ []) (lines ++ rest ∷ []) []
splits_feed taken lines rest is = record {
  spelt = ap (λ (l : List ℕ). l ++ 10 ∷ []) is.spelt ∙ append_assoc (joined lines) rest (10 ∷ []) ∙ sym (joined-append lines (rest ∷ [])) ∙ sym (append-nil (joined (lines ++ rest ∷ [])));
  lines_are = lines_push lines rest is.lines_are is.is_open;
  is_open = tt;
}

pub splits_few : (taken : List ℕ) (lines : List (List ℕ)) (rest : List ℕ) → Splits taken lines rest → length lines ≤ length taken
splits_few taken lines rest is = let few = few_lines lines in let size = length-append (joined lines) rest in omega (arith, few, size, ap length is.spelt)

-- The first bytes that are kept, as many as they are.

split : (a b : ℕ) → (a < b) ⊎ (b ≤ a)
split a b = grind arith

short_of : (n : ℕ) (front rest : List ℕ) (byte : ℕ) → front ≡ take n rest → length front < n → front ++ byte ∷ [] ≡ take n (rest ++ byte ∷ [])
short_of n front rest byte is short =
    let some : length rest < n = ⊎_elim (λ lt. lt) (λ ge. absurd (let size = length-take-le n rest ge in omega (arith, short, ap length is, size))) (split (length rest) n) in
    ap (λ (l : List ℕ). l ++ byte ∷ []) (is ∙ take_all n rest (omega (arith, some))) ∙ sym (take_all n (rest ++ byte ∷ []) (omega (arith, some, length-append rest (byte ∷ []))))

full_of : (n : ℕ) (front rest : List ℕ) (byte : ℕ) → front ≡ take n rest → n ≤ length front → front ≡ take n (rest ++ byte ∷ [])
full_of n front rest byte is long =
    let size : n ≤ length rest = ⊎_elim (λ lt. absurd (omega (arith, lt, long, ap length (is ∙ take_all n rest (omega (arith, lt)))))) (λ ge. ge) (split (length rest) n) in
    is ∙ sym (take-append-le n rest (byte ∷ []) size)

none_of : (n : ℕ) (rest : List ℕ) → 0 < n → [] ≡ take n rest → rest ≡ []
none_of n [] some is = refl
none_of zero (x ∷ rest) some is = absurd (omega (arith, some))
none_of (suc n) (x ∷ rest) some is = let e = is in cc

pub front_short : (front rest : List ℕ) (byte : ℕ) → front ≡ front_of rest → length front < 65542 → front ++ byte ∷ [] ≡ front_of (rest ++ byte ∷ [])
front_short front rest byte = short_of 65542 front rest byte

pub front_full : (front rest : List ℕ) (byte : ℕ) → front ≡ front_of rest → 65542 ≤ length front → front ≡ front_of (rest ++ byte ∷ [])
front_full front rest byte = full_of 65542 front rest byte

pub take_none : (rest : List ℕ) → [] ≡ front_of rest → rest ≡ []
take_none rest = none_of 65542 rest (omega arith)

-- bytes that end with a line feed have no open line
no_feed_last : (xs : List ℕ) → HasNoFeed (xs ++ 10 ∷ []) → ⊥
no_feed_last [] is = is.0 refl
no_feed_last (x ∷ xs) is = no_feed_last xs is.1

nil_right : {A : Type 0} (xs ys : List A) → xs ++ ys ≡ [] → ys ≡ []
nil_right [] ys is = is
nil_right (x ∷ xs) ys is = let e = is in cc

open_none : (zs rest xs : List ℕ) → HasNoFeed rest → zs ++ rest ≡ xs ++ 10 ∷ [] → rest ≡ []
open_none [] rest xs none is = absurd (no_feed_last xs (subst HasNoFeed is none))
open_none (z ∷ zs) rest [] none is = let e = is in let tail : zs ++ rest ≡ [] = cc in nil_right zs rest tail
open_none (z ∷ zs) rest (x ∷ xs) none is = let e = is in let tail : zs ++ rest ≡ xs ++ 10 ∷ [] = cc in open_none zs rest xs none tail

pub feed_ends : (xs : List ℕ) (lines : List (List ℕ)) (rest : List ℕ) → Splits (xs ++ 10 ∷ []) lines rest → rest ≡ []
feed_ends xs lines rest is = open_none (joined lines) rest xs is.is_open (sym is.spelt)

pub closing_some : (rest : List ℕ) → (rest ≡ [] → ⊥) → closing rest ≡ 13 ∷ 10 ∷ []
closing_some [] not = absurd (not refl)
closing_some (x ∷ rest) not = refl

-- all lines, where one was last, and where none was
pub all_closed : (taken : List ℕ) (lines all : List (List ℕ)) (rest last : List ℕ) → Splits taken lines rest → (rest ≡ [] → ⊥) → Splits (taken ++ 13 ∷ 10 ∷ []) all last → AreAll taken all
all_closed taken lines all rest last splits not closed = record {
  ended = lines;
  rest = rest;
  splits = splits;
  all = subst (λ (l : List ℕ). Splits (taken ++ l) all []) (sym (closing_some rest not))
      (subst (λ (l : List ℕ). Splits (taken ++ 13 ∷ 10 ∷ []) all l) (feed_ends (taken ++ 13 ∷ []) all last (subst (λ (l : List ℕ). Splits l all last) (sym (append_assoc taken (13 ∷ []) (10 ∷ []))) closed)) closed);
}

pub all_ended : (taken : List ℕ) (lines : List (List ℕ)) (rest : List ℕ) → Splits taken lines rest → rest ≡ [] → AreAll taken lines
all_ended taken lines rest splits none = record {
  ended = lines;
  rest = [];
  splits = whole;
  all = subst (λ (l : List ℕ). Splits l lines []) (sym (append-nil taken)) whole;
}
  where
    whole : Splits taken lines []
    whole = subst (λ (l : List ℕ). Splits taken lines l) none splits

-- first lines, and bytes that follow
pub first_more : (taken others : List ℕ) (lines : List (List ℕ)) → AreFirst taken lines → AreFirst (taken ++ others) lines
first_more taken others lines first = record {
  lines_are = first.lines_are;
  more = first.more ++ others;
  spelt = ap (λ (l : List ℕ). l ++ others) first.spelt ∙ append_assoc (joined lines) first.more others;
}

-- all ended lines are first lines
pub first_ended : (taken : List ℕ) (lines : List (List ℕ)) (rest : List ℕ) → Splits taken lines rest → AreFirst taken lines
first_ended taken lines rest splits = record { lines_are = splits.lines_are; more = rest; spelt = splits.spelt }
