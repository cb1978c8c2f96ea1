-- The first token that is not read is the first that no statement has there.
use Rattle.std.proofs.Common.{◌≡◌, ℕ, List, [], ◌∷◌, ◌++◌, Option, Some, None, Ok, Err, refl, sym, ap, ◌∙◌, subst, inl, inr, append_assoc}
use Rattle.std.proofs.lemmas.List.{map-append}
use Rattle.sql_value.specs.declared.refusal.Refusal.{Refusal}
use Rattle.sql_value.specs.declared.refusal.Refusal.TheVariants.{Syntax}
use Rattle.sql_text.specs.declared.lexeme.Lexeme.{Lexeme}
use Rattle.sql_text.specs.declared.lexeme.Lexeme.TheVariants.{Keyword, Name, Number, Text, Sign, Minus, End, Bad, BadText}
use Rattle.sql_text.specs.declared.parser.ParseFault.TheVariants as fault
use Rattle.sql_text.specs.declared.reading.Reading.{Reading}
use Rattle.sql_text.specs.declared.reading.Reading.TheVariants.{Start, Opening, Transacting, Plugging, Creating, Inserting}
use Rattle.sql_text.specs.declared.reading.Reading.TheVariants.{Selecting, Updating, Head, Filtering, Whole, Closed, Done}
use Rattle.sql_text.specs.declared.statement.Statement.{Statement}
use Rattle.sql_text.specs.declared.step.StepFault.{StepFault}
use Rattle.sql_text.specs.declared.step.StepFault.TheVariants.{Unexpected, InText, Memory}
use Rattle.sql_text.specs.declared.token.Token.{Token}
use Rattle.sql_text.specs.Reading.{next}
use Rattle.sql_text.specs.Statements.{IsFront, lexemes_of, IsPlace, FaultsAt}
use Rattle.sql_text.specs.Run.{text_place, refusal_of, done_with, ended, or_refused, run}
use Rattle.sql_text.proofs.ReadAll.{and_then, read_all, read_all-append}
use Rattle.sql_text.proofs.FormLemmas.{form_spelt}
use Rattle.sql_text.proofs.GrammarLemmas.{spelt_form}
use Rattle.sql_text.specs.Steps.{Step}
use Rattle.sql_text.proofs.FrontLemmas.{completable}
use Rattle.sql_text.proofs.SpotLemmas.{Spot, text_spot}

-- ---- what is read to its end is spelt

is_done : (r : Reading) (s : Statement) → ended (done_with r) ≡ Ok s → r ≡ Done s
is_done Start s e = cc
is_done (Opening o) s e = cc
is_done (Transacting o) s e = cc
is_done (Plugging o) s e = cc
is_done (Creating o) s e = cc
is_done (Inserting o) s e = cc
is_done (Selecting o) s e = cc
is_done (Updating o) s e = cc
is_done (Head o) s e = cc
is_done (Filtering o) s e = cc
is_done (Whole o) s e = cc
is_done (Closed o) s e = cc
is_done (Done o) s e = cc

spelt_step : (st : Step Reading) (t : Token) (ts : List Token) (s : Statement) → ((q : Reading) → run q ts ≡ Ok s → read_all q (lexemes_of ts) ≡ Ok (Done s)) → or_refused t st (λ q. run q ts) ≡ Ok s → and_then st (λ q. read_all q (lexemes_of ts)) ≡ Ok (Done s)
spelt_step (Ok q) t ts s h ran = h q ran
spelt_step (Err e) t ts s h ran = cc

pub spelt : (r : Reading) (ts : List Token) (s : Statement) → run r ts ≡ Ok s → read_all r (lexemes_of ts) ≡ Ok (Done s)
spelt r [] s ran = ap Ok (is_done r s ran)
spelt r (t ∷ ts) s ran = spelt_step (next r t.lexeme) t ts s (λ q. spelt q ts s) ran

-- ---- what is spelt is read

ran_step : (st : Step Reading) (t : Token) (ts : List Token) (s : Statement) → ((q : Reading) → read_all q (lexemes_of ts) ≡ Ok (Done s) → run q ts ≡ Ok s) → and_then st (λ q. read_all q (lexemes_of ts)) ≡ Ok (Done s) → or_refused t st (λ q. run q ts) ≡ Ok s
ran_step (Ok q) t ts s h is = h q is
ran_step (Err e) t ts s h is = cc

pub is_read : (r : Reading) (ts : List Token) (s : Statement) → read_all r (lexemes_of ts) ≡ Ok (Done s) → run r ts ≡ Ok s
is_read r [] s is = let e : r ≡ Done s = cc in ap (λ x. ended (done_with x)) e
is_read r (t ∷ ts) s is = ran_step (next r t.lexeme) t ts s (λ q. is_read q ts s) is

-- ---- the only refusal is that of a place

ended_refused : (o : Option Statement) (x : Refusal) → ended o ≡ Err (fault.Refused x) → ⊥
ended_refused (Some s) x is = absurd cc
ended_refused None x is = absurd cc

refusal_place : (t : Token) (e : StepFault) (x : Refusal) → refusal_of t e ≡ fault.Refused x → (at : ℕ) × (x ≡ Syntax at)
refusal_place t Unexpected x is = (t.at, cc)
refusal_place t InText x is = (text_place t.at t.lexeme, cc)
refusal_place t Memory x is = absurd cc

place_step : (st : Step Reading) (t : Token) (ts : List Token) (x : Refusal) → ((q : Reading) → run q ts ≡ Err (fault.Refused x) → (at : ℕ) × (x ≡ Syntax at)) → or_refused t st (λ q. run q ts) ≡ Err (fault.Refused x) → (at : ℕ) × (x ≡ Syntax at)
place_step (Ok q) t ts x h ran = h q ran
place_step (Err e) t ts x h ran = refusal_place t e x cc

pub has_place : (r : Reading) (ts : List Token) (x : Refusal) → run r ts ≡ Err (fault.Refused x) → (at : ℕ) × (x ≡ Syntax at)
has_place r [] x ran = absurd (ended_refused (done_with r) x ran)
has_place r (t ∷ ts) x ran = place_step (next r t.lexeme) t ts x (λ q. has_place q ts x) ran

-- ---- fronts

-- what is read with one lexeme more
led_on : (r : Reading) (front : List Lexeme) (l : Lexeme) (st : Step Reading) → read_all Start front ≡ Ok r → next r l ≡ st → read_all Start (front ++ l ∷ []) ≡ and_then st (λ q. Ok q)
led_on r front l st led is =
    read_all-append Start front (l ∷ []) ∙ ap (λ s. and_then s (λ p. read_all p (l ∷ []))) led ∙ ap (λ s. and_then s (λ q. Ok q)) is

-- what has been read can be completed
front_of : (r : Reading) (front : List Lexeme) → read_all Start front ≡ Ok r → IsFront front
front_of r front led =
    let c = completable r in
    (c.0, c.1, spelt_form (front ++ c.0) c.1 (read_all-append Start front c.0 ∙ ap (λ s. and_then s (λ p. read_all p c.0)) led ∙ c.2))

-- what is refused cannot
no_front : (r : Reading) (front : List Lexeme) (l : Lexeme) (e : StepFault) → read_all Start front ≡ Ok r → next r l ≡ Err e → ¬ IsFront (front ++ l ∷ [])
no_front r front l e led is h =
    let stops : read_all Start ((front ++ l ∷ []) ++ h.0) ≡ Err e = read_all-append Start (front ++ l ∷ []) h.0 ∙ ap (λ s. and_then s (λ p. read_all p h.0)) (led_on r front l (Err e) led is) in
    let both : Err e ≡ Ok (Done h.1) = sym stops ∙ form_spelt ((front ++ l ∷ []) ++ h.0) h.1 h.2 in
    absurd cc

-- ---- places

unexpected_spot : (x y : Step Reading) → Spot x y → x ≡ Err Unexpected → (e : StepFault) × (y ≡ Err e)
unexpected_spot (Ok r) y spot is = absurd spot
unexpected_spot (Err Unexpected) (Ok r) spot is = absurd spot
unexpected_spot (Err Unexpected) (Err e) spot is = (e, refl)
unexpected_spot (Err InText) y spot is = absurd cc
unexpected_spot (Err Memory) y spot is = absurd spot

in_text_spot : (x y : Step Reading) → Spot x y → x ≡ Err InText → (r : Reading) × (y ≡ Ok r)
in_text_spot (Ok r) y spot is = absurd spot
in_text_spot (Err Unexpected) y spot is = absurd cc
in_text_spot (Err InText) (Ok r) spot is = (r, refl)
in_text_spot (Err InText) (Err e) spot is = absurd spot
in_text_spot (Err Memory) y spot is = absurd spot

unexpected_place : (r : Reading) (front : List Lexeme) (t : Token) (at : ℕ) → read_all Start front ≡ Ok r → next r t.lexeme ≡ Err Unexpected → t.at ≡ at → IsPlace front t at
unexpected_place r front t at led is here =
    inl (
      sym here,
      λ (place : ℕ) (bad : t.lexeme ≡ BadText place).
          let spot = unexpected_spot _ _ (text_spot r place []) (ap (next r) (sym bad) ∙ is) in
          no_front r front (Text []) spot.0 led spot.1,
    )

text_front : (r : Reading) (front : List Lexeme) (place : ℕ) → read_all Start front ≡ Ok r → next r (BadText place) ≡ Err InText → IsFront (front ++ Text [] ∷ [])
text_front r front place led is =
    let spot = in_text_spot _ _ (text_spot r place []) is in
    front_of spot.0 (front ++ Text [] ∷ []) (led_on r front (Text []) (Ok spot.0) led spot.1)

-- the place of a token that is no text with a fault
plain_place : (front : List Lexeme) (t : Token) (at : ℕ) → ((place : ℕ) → t.lexeme ≡ BadText place → ⊥) → t.at ≡ at → IsPlace front t at
plain_place front t at other here = inl (sym here, λ (place : ℕ) (bad : t.lexeme ≡ BadText place). absurd (other place bad))

in_text_place : (r : Reading) (front : List Lexeme) (t : Token) (at : ℕ) (l : Lexeme) → t.lexeme ≡ l → read_all Start front ≡ Ok r → next r l ≡ Err InText → text_place t.at l ≡ at → IsPlace front t at
in_text_place r front t at (BadText place) has led is here = inr (has ∙ ap BadText here, text_front r front place led is)
in_text_place r front t at (Keyword k) has led is here = plain_place front t at (λ place bad. absurd cc) here
in_text_place r front t at (Name k) has led is here = plain_place front t at (λ place bad. absurd cc) here
in_text_place r front t at (Number k) has led is here = plain_place front t at (λ place bad. absurd cc) here
in_text_place r front t at (Text k) has led is here = plain_place front t at (λ place bad. absurd cc) here
in_text_place r front t at (Sign k) has led is here = plain_place front t at (λ place bad. absurd cc) here
in_text_place r front t at (Minus k) has led is here = plain_place front t at (λ place bad. absurd cc) here
in_text_place r front t at End has led is here = plain_place front t at (λ place bad. absurd cc) here
in_text_place r front t at Bad has led is here = plain_place front t at (λ place bad. absurd cc) here

placed : (r : Reading) (front : List Lexeme) (t : Token) (e : StepFault) (at : ℕ) → read_all Start front ≡ Ok r → next r t.lexeme ≡ Err e → refusal_of t e ≡ fault.Refused (Syntax at) → IsPlace front t at
placed r front t Unexpected at led is refused = unexpected_place r front t at led is cc
placed r front t InText at led is refused = in_text_place r front t at t.lexeme refl led is cc
placed r front t Memory at led is refused = absurd cc

-- ---- the fault

fault_step : (r : Reading) (front : List Token) (t : Token) (ts : List Token) (at : ℕ) (st : Step Reading)
    → ((q : Reading) → read_all Start (lexemes_of (front ++ t ∷ [])) ≡ Ok q → run q ts ≡ Err (fault.Refused (Syntax at)) → FaultsAt ((front ++ t ∷ []) ++ ts) at)
    → read_all Start (lexemes_of front) ≡ Ok r → next r t.lexeme ≡ st → or_refused t st (λ q. run q ts) ≡ Err (fault.Refused (Syntax at)) → FaultsAt (front ++ t ∷ ts) at
fault_step r front t ts at (Ok q) h led is ran =
    let more : lexemes_of (front ++ t ∷ []) ≡ lexemes_of front ++ t.lexeme ∷ [] = map-append (λ (x : Token). x.lexeme) front (t ∷ []) in
    let on : read_all Start (lexemes_of (front ++ t ∷ [])) ≡ Ok q = ap (read_all Start) more ∙ led_on r (lexemes_of front) t.lexeme (Ok q) led is in
    subst (λ xs. FaultsAt xs at) (append_assoc front (t ∷ []) ts) (h q on ran)
fault_step r front t ts at (Err e) h led is ran = record {
  front = front;
  token = t;
  back = ts;
  cut = refl;
  begun = front_of r (lexemes_of front) led;
  ends_here = no_front r (lexemes_of front) t.lexeme e led is;
  place = placed r (lexemes_of front) t e at led is cc;
}

pub faults : (r : Reading) (front ts : List Token) (at : ℕ) → read_all Start (lexemes_of front) ≡ Ok r → run r ts ≡ Err (fault.Refused (Syntax at)) → FaultsAt (front ++ ts) at
faults r front [] at led ran = absurd (ended_refused (done_with r) (Syntax at) ran)
faults r front (t ∷ ts) at led ran =
    fault_step r front t ts at (next r t.lexeme) (λ q on behind. faults q (front ++ t ∷ []) ts at on behind) led refl ran
