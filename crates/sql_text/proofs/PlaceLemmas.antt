-- The fault of a text has one place, and a text with a fault spells no statement.
use Rattle.std.proofs.Common.{◌≡◌, ◌⊎◌, ◌≤◌, ℕ, List, [], ◌∷◌, ◌++◌, length, Result, Ok, Err, refl, sym, ap, ◌∙◌, subst, inl, inr, append_assoc, arith}
use Rattle.std.proofs.lemmas.List.{map-append}
use Rattle.sql_value.specs.declared.refusal.Refusal.TheVariants.{Syntax}
use Rattle.sql_text.specs.declared.lexeme.Lexeme.{Lexeme}
use Rattle.sql_text.specs.declared.lexeme.Lexeme.TheVariants.{BadText}
use Rattle.sql_text.specs.declared.parser.ParseFault.{ParseFault}
use Rattle.sql_text.specs.declared.parser.ParseFault.TheVariants as fault
use Rattle.sql_text.specs.declared.statement.Statement.{Statement}
use Rattle.sql_text.specs.declared.token.Token.{Token}
use Rattle.sql_text.specs.Forms.{IsStatement}
use Rattle.sql_text.specs.Statements.{lexemes_of, Spells, IsFront, IsPlace, FaultsAt, HasFault, Parses}
use Rattle.sql_text.proofs.TextLemmas.{same_tokens}

-- what begins a front is one
front_less : (a b : List Lexeme) → IsFront (a ++ b) → IsFront a
front_less a b (more, s, is) = (b ++ more, s, subst (λ ls. IsStatement ls s) (append_assoc a b more) is)

-- two cuts of tokens are the same, where each is behind the longest part of which this holds
one_cut : (P : List Lexeme → Type 0) → ((a b : List Lexeme) → P (a ++ b) → P a) → (f g : List Token) (t u : Token) (x y : List Token) → f ++ t ∷ x ≡ g ++ u ∷ y
    → P (lexemes_of f) → ¬ P (lexemes_of f ++ t.lexeme ∷ []) → P (lexemes_of g) → ¬ P (lexemes_of g ++ u.lexeme ∷ []) → (f ≡ g) × (t ≡ u)
one_cut P less [] [] t u x y same in_f not_f in_g not_g = (refl, cc)
one_cut P less [] (w ∷ g) t u x y same in_f not_f in_g not_g =
    let is : w ≡ t = cc in
    absurd (not_f (less (t.lexeme ∷ []) (lexemes_of g) (subst (λ z. P (z.lexeme ∷ lexemes_of g)) is in_g)))
one_cut P less (v ∷ f) [] t u x y same in_f not_f in_g not_g =
    let is : v ≡ u = cc in
    absurd (not_g (less (u.lexeme ∷ []) (lexemes_of f) (subst (λ z. P (z.lexeme ∷ lexemes_of f)) is in_f)))
one_cut P less (v ∷ f) (w ∷ g) t u x y same in_f not_f in_g not_g =
    let is : w ≡ v = cc in
    let behind : f ++ t ∷ x ≡ g ++ u ∷ y = cc in
    let cut = one_cut (λ a. P (v.lexeme ∷ a)) (λ a b p. less (v.lexeme ∷ a) b p) f g t u x y behind in_f not_f
    (subst (λ z. P (z.lexeme ∷ lexemes_of g)) is in_g)
    (subst (λ z. ¬ P (z.lexeme ∷ (lexemes_of g ++ u.lexeme ∷ []))) is not_g) in
    (rw is (ap (λ z. v ∷ z) cut.0), cut.1)

one_at : (front : List Lexeme) (t : Token) (a b : ℕ) → IsPlace front t a → IsPlace front t b → a ≡ b
one_at front t a b (inl (is, plain)) (inl (also, other)) = is ∙ sym also
one_at front t a b (inl (is, plain)) (inr (bad, text)) = absurd (plain b bad text)
one_at front t a b (inr (bad, text)) (inl (is, plain)) = absurd (plain a bad text)
one_at front t a b (inr (bad, text)) (inr (also, other)) = let same : BadText a ≡ BadText b = sym bad ∙ also in cc

-- tokens have one fault at most
one_fault : (ts : List Token) (a b : ℕ) → FaultsAt ts a → FaultsAt ts b → a ≡ b
one_fault ts a b first second =
    let cut = one_cut IsFront front_less first.front second.front first.token second.token first.back second.back
    (sym first.cut ∙ second.cut) first.begun first.ends_here second.begun second.ends_here in
    one_at (lexemes_of second.front) second.token a b
    (subst (λ t. IsPlace (lexemes_of second.front) t a) cut.1 (subst (λ f. IsPlace (lexemes_of f) first.token a) cut.0 first.place)) second.place

-- and so has a text
pub one_place : (bytes : List ℕ) (a b : ℕ) → HasFault bytes a → HasFault bytes b → a ≡ b
one_place bytes a b (ts, are, at) (us, also, has) =
    let same = same_tokens bytes us also ∙ sym (same_tokens bytes ts are) in
    one_fault ts a b at (subst (λ xs. FaultsAt xs b) same has)

-- the lexemes of tokens that are cut at one
cut_lexemes : (front : List Token) (t : Token) (back : List Token) → lexemes_of (front ++ t ∷ back) ≡ (lexemes_of front ++ t.lexeme ∷ []) ++ lexemes_of back
cut_lexemes front t back =
    map-append (λ (x : Token). x.lexeme) front (t ∷ back) ∙ sym (append_assoc (lexemes_of front) (t.lexeme ∷ []) (lexemes_of back))

-- no tokens are a statement and have a fault
not_both : (ts : List Token) (s : Statement) (at : ℕ) → IsStatement (lexemes_of ts) s → FaultsAt ts at → ⊥
not_both ts s at is has =
    let lexemes = ap lexemes_of has.cut ∙ cut_lexemes has.front has.token has.back in
    has.ends_here (lexemes_of has.back, s, subst (λ ls. IsStatement ls s) lexemes is)

spells_none : (bytes : List ℕ) (s : Statement) (at : ℕ) → Spells bytes s → HasFault bytes at → ⊥
spells_none bytes s at (ts, are, is) (us, also, has) =
    let same = same_tokens bytes us also ∙ sym (same_tokens bytes ts are) in
    not_both ts s at is (subst (λ xs. FaultsAt xs at) same has)

-- a text with a fault is refused for it
pub refused_at : (bytes : List ℕ) (r : Result Statement ParseFault) (at : ℕ) → length bytes ≤ 65536 → Parses bytes r → HasFault bytes at
    → (r ≡ Err (fault.Refused (Syntax at))) ⊎ (r ≡ Err fault.Memory)
refused_at bytes (Ok s) at short parsed has = absurd (spells_none bytes s at parsed.1 has)
refused_at bytes (Err fault.Memory) at short parsed has = inr refl
refused_at bytes (Err (fault.Refused x)) at short (inl (is, long)) has = absurd (omega arith)
refused_at bytes (Err (fault.Refused x)) at short (inr (place, is, within, there)) has =
    inl (ap (λ y. Err (fault.Refused y)) (is ∙ ap Syntax (one_place bytes place at there has)))
