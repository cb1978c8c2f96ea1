-- What the front of a line gives, the line gives; and a text that is refused, or too long, is so as the line has it.
use Rattle.std.proofs.Common.{◌≡◌, ◌≤◌, ◌<◌, ◌⊎◌, inl, inr, ℕ, List, length, take, Err, sym, subst, arith}
use Rattle.sql_value.specs.declared.refusal.Refusal.{Refusal}
use Rattle.schedule_text.specs.Lines.{Asked, nothing, issue, step, run, settle, IsLine, IsBad}
use Rattle.schedule_text.specs.Front.{AreTooLong, FrontTells}
use Rattle.schedule_text.proofs.FrontLemmas.{front_tells}
use Rattle.schedule_text.proofs.MeaningLemmas.{meaning_same}
use Rattle.sql_step.specs.Catalogs.{Catalog}
use Rattle.sql_step.specs.Steps.{Refuses}
use Rattle.sql_step.specs.declared.outcome.Outcome.{Outcome}
use Rattle.plugd.specs.Asked.{engine_facts, Comes}
use Rattle.plugd.specs.Texts.{Gives, IsUnknown, IsGivenBy}

nothing_settle : nothing ≡ settle → ⊥
nothing_settle e = cc

nothing_issue : (session : ℕ) (text : List ℕ) → nothing ≡ issue session text → ⊥
nothing_issue session text e = cc

issue_settle : (session : ℕ) (text : List ℕ) → issue session text ≡ settle → ⊥
issue_settle session text e = cc

issue_same : (a b : ℕ) (s t : List ℕ) → issue a s ≡ issue b t → (a ≡ b) × (s ≡ t)
issue_same a b s t e = (cc, cc)

-- a text for another session is none for this one
pub other_session : (front : List ℕ) (session : ℕ) (text : List ℕ) → (session ≡ 1 → ⊥) → IsLine front (issue session text) → IsUnknown front
other_session front session text other is = record {
  no_text = λ it gives. other (issue_same session 1 text it (meaning_same front (issue session text) (issue 1 it) is gives)).0;
  no_settle = λ settles. issue_settle session text (meaning_same front (issue session text) settle is settles);
}

-- what the front tells
told : (front line : List ℕ) → front ≡ take 65542 line → FrontTells front line
told front line part = subst (λ (l : List ℕ). FrontTells l line) (sym part) (front_tells line)

pub settles_line : (front line : List ℕ) → front ≡ take 65542 line → IsLine front settle → IsLine line settle
settles_line front line part is = by (told front line part)
  where
    by : FrontTells front line → IsLine line settle
    by (inl same) = subst (λ (l : List ℕ). IsLine l settle) same is
    by (inr (inl both)) = absurd (nothing_settle (meaning_same front nothing settle both.0 is))
    by (inr (inr (inl both))) = absurd (both.0 settle is)
    by (inr (inr (inr long))) = absurd (issue_settle long.session long.text (meaning_same front (issue long.session long.text) settle long.front_is is))

pub given_line : (front line text : List ℕ) → front ≡ take 65542 line → Gives front text → IsGivenBy text line
given_line front line text part is = by (told front line part)
  where
    by : FrontTells front line → IsGivenBy text line
    by (inl same) = inl (subst (λ (l : List ℕ). Gives l text) same is)
    by (inr (inl both)) = absurd (nothing_issue 1 text (meaning_same front nothing (issue 1 text) both.0 is))
    by (inr (inr (inl both))) = absurd (both.0 (issue 1 text) is)
    by (inr (inr (inr long))) =
        let same = issue_same long.session 1 long.text text (meaning_same front (issue long.session long.text) (issue 1 text) long.front_is is) in
        inr (
          long.whole,
          subst (λ (n : ℕ). IsLine line (issue n long.whole)) same.0 long.line_is,
          subst (λ (t : List ℕ). 65536 < length t) same.1 long.front_long,
          long.line_long,
        )

pub unknown_line : (front line : List ℕ) → front ≡ take 65542 line → IsUnknown front → IsUnknown line
unknown_line front line part is = by (told front line part)
  where
    by : FrontTells front line → IsUnknown line
    by (inl same) = subst IsUnknown same is
    by (inr (inl both)) = record {
      no_text = λ text gives. nothing_issue 1 text (meaning_same line nothing (issue 1 text) both.1 gives);
      no_settle = λ settles. nothing_settle (meaning_same line nothing settle both.1 settles);
    }
    by (inr (inr (inl both))) = record { no_text = λ text gives. both.1 (issue 1 text) gives; no_settle = λ settles. both.1 settle settles }
    by (inr (inr (inr long))) = record {
      no_text = λ text gives.
          let same = issue_same long.session 1 long.whole text (meaning_same line (issue long.session long.whole) (issue 1 text) long.line_is gives) in
          is.no_text long.text (subst (λ (n : ℕ). IsLine front (issue n long.text)) same.0 long.front_is);
      no_settle = λ settles. issue_settle long.session long.whole (meaning_same line (issue long.session long.whole) settle long.line_is settles);
    }

-- the line gives some text
pub some_text : (text line : List ℕ) → IsGivenBy text line → (it : List ℕ) × Gives line it
some_text text line (inl gives) = (text, gives)
some_text text line (inr (whole, gives, long, longer)) = (whole, gives)

apart : (n : ℕ) → n ≤ 65536 → 65536 < n → ⊥
apart n short long = omega (arith, short, long)

-- a text that is not too long is the line's
pub given_short : (text line : List ℕ) → IsGivenBy text line → length text ≤ 65536 → Gives line text
given_short text line (inl gives) short = gives
given_short text line (inr (whole, gives, long, longer)) short = absurd (apart (length text) short long)

pub given_comes : (text line : List ℕ) (here : Catalog) (outcome : Outcome) → IsGivenBy text line → Comes text here outcome → Gives line text
given_comes text line here outcome given comes = given_short text line given comes.short

-- why the text is refused, the line's is
refused_whole : (here : Catalog) (text whole : List ℕ) (r : Refusal) → 65536 < length text → 65536 < length whole → Refuses here engine_facts text r → Refuses here engine_facts whole r
refused_whole here text whole r long longer (inl (inl (also, is))) = inl (inl (longer, is))
refused_whole here text whole r long longer (inl (inr (inl (at, short, faults, is)))) = absurd (apart (length text) short long)
refused_whole here text whole r long longer (inl (inr (inr (asks, short, spells, is)))) = absurd (apart (length text) short long)
refused_whole here text whole r long longer (inr excepted) = absurd (apart (length text) excepted.short long)

pub given_refused : (here : Catalog) (text line : List ℕ) (r : Refusal) → IsGivenBy text line → Refuses here engine_facts text r
    → (it : List ℕ) × Gives line it × Refuses here engine_facts it r
given_refused here text line r (inl gives) refuses = (text, gives, refuses)
given_refused here text line r (inr (whole, gives, long, longer)) refuses = (whole, gives, refused_whole here text whole r long longer refuses)
