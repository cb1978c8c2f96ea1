-- The options of a column, one by one.
use Rattle.std.proofs.Common.{◌≡◌, ◌||◌, ℕ, Bool, true, false, List, [], ◌∷◌, ◌++◌, refl, sym, ap, ◌∙◌, subst}
use Rattle.sql_text.specs.declared.create.ColumnRead.{ColumnRead}
use Rattle.sql_text.specs.declared.lexeme.Lexeme.{Lexeme}
use Rattle.sql_text.specs.declared.statement.TypeName.{TypeName}
use Rattle.sql_text.specs.Create.{with_null, with_not_null, with_key}
use Rattle.sql_text.specs.Forms.{Choice, may_null, no_null, is_key, choice_words, words_of, is_same, has, AreDistinct}

-- the column has the option
abbrev pub is_set : Choice → ColumnRead → Bool
is_set may_null c = c.null
is_set no_null c = c.not_null
is_set is_key c = c.key

-- the column with the option
abbrev pub with_choice : Choice → ColumnRead → ColumnRead
with_choice may_null c = with_null c
with_choice no_null c = with_not_null c
with_choice is_key c = with_key c

-- options that the first column has not, each once, make the second
abbrev pub AreChoices : List Choice → List Lexeme → ColumnRead → ColumnRead → Type 0
AreChoices [] ls c d = (ls ≡ []) × (c ≡ d)
AreChoices (o ∷ os) ls c d =
    (back : List Lexeme) × (ls ≡ choice_words o ++ back) × (is_set o c ≡ false) × AreChoices os back (with_choice o c) d

-- a column with its type and no option
abbrev pub bare_column : List ℕ → TypeName → ColumnRead
bare_column name kind = record { name = name; kind = kind; null = false; not_null = false; key = false }

-- what options, one behind the other, say together
pub record Chosen (os : List Choice) (ls : List Lexeme) (c d : ColumnRead) : Type 0 where
  pub words : ls ≡ words_of os
  pub distinct : AreDistinct os
  pub set : (o : Choice) → is_set o d ≡ (is_set o c || has o os)
  pub free : (o : Choice) → has o os ≡ true → is_set o c ≡ false
  pub name : c.name ≡ d.name
  pub kind : c.kind ≡ d.kind

or_true : (b : Bool) → true ≡ (b || true)
or_true true = refl
or_true false = refl

or_false : (b : Bool) → b ≡ (b || false)
or_false true = refl
or_false false = refl

or_apart : (a b : Bool) → (a || b) ≡ false → (a ≡ false) × (b ≡ false)
or_apart false b is = (refl, is)
or_apart true b is = absurd cc

or_assoc : (a b c : Bool) → ((a || b) || c) ≡ (a || (b || c))
or_assoc true b c = refl
or_assoc false b c = refl

set_with : (o p : Choice) (c : ColumnRead) → is_set o (with_choice p c) ≡ (is_set o c || is_same o p)
set_with may_null may_null c = or_true c.null
set_with may_null no_null c = or_false c.null
set_with may_null is_key c = or_false c.null
set_with no_null may_null c = or_false c.not_null
set_with no_null no_null c = or_true c.not_null
set_with no_null is_key c = or_false c.not_null
set_with is_key may_null c = or_false c.key
set_with is_key no_null c = or_false c.key
set_with is_key is_key c = or_true c.key

same_choice : (o p : Choice) → is_same o p ≡ true → o ≡ p
same_choice may_null may_null is = refl
same_choice no_null no_null is = refl
same_choice is_key is_key is = refl
same_choice may_null no_null is = absurd cc
same_choice may_null is_key is = absurd cc
same_choice no_null may_null is = absurd cc
same_choice no_null is_key is = absurd cc
same_choice is_key may_null is = absurd cc
same_choice is_key no_null is = absurd cc

self_same : (o : Choice) → is_same o o ≡ true
self_same may_null = refl
self_same no_null = refl
self_same is_key = refl

keeps_name : (o : Choice) (c : ColumnRead) → c.name ≡ (with_choice o c).name
keeps_name may_null c = refl
keeps_name no_null c = refl
keeps_name is_key c = refl

keeps_kind : (o : Choice) (c : ColumnRead) → c.kind ≡ (with_choice o c).kind
keeps_kind may_null c = refl
keeps_kind no_null c = refl
keeps_kind is_key c = refl

is_not : (b : Bool) → (b ≡ true → ⊥) → b ≡ false
is_not true h = absurd (h refl)
is_not false h = refl

free_before : (o p : Choice) (os : List Choice) (c : ColumnRead) (same : Bool) → is_same o p ≡ same → is_set p c ≡ false
    → (has o os ≡ true → is_set o (with_choice p c) ≡ false) → (same || has o os) ≡ true → is_set o c ≡ false
free_before o p os c true is free behind some = ap (λ x. is_set x c) (same_choice o p is) ∙ free
free_before o p os c false is free behind some = (or_apart (is_set o c) (is_same o p) (sym (set_with o p c) ∙ behind some)).0

pub chosen : (os : List Choice) (ls : List Lexeme) (c d : ColumnRead) → AreChoices os ls c d → Chosen os ls c d
chosen [] ls c d is = record {
  words = is.0;
  distinct = tt;
  set = λ o. ap (is_set o) (sym is.1) ∙ or_false (is_set o c);
  free = λ o some. absurd cc;
  name = ap (λ (x : ColumnRead). x.name) is.1;
  kind = ap (λ (x : ColumnRead). x.kind) is.1;
}
chosen (p ∷ os) ls c d (back, cut, free, is) =
    let behind = chosen os back (with_choice p c) d is in
    let now_set : is_set p (with_choice p c) ≡ true = set_with p p c ∙ ap (λ b. is_set p c || b) (self_same p) ∙ sym (or_true (is_set p c)) in
    record {
      words = cut ∙ ap (λ zs. choice_words p ++ zs) behind.words;
      distinct = (is_not (has p os) (λ twice. let both : true ≡ false = sym now_set ∙ behind.free p twice in absurd cc), behind.distinct);
      set = λ o. behind.set o ∙ ap (λ b. b || has o os) (set_with o p c) ∙ or_assoc (is_set o c) (is_same o p) (has o os);
      free = λ o some. free_before o p os c (is_same o p) refl free (behind.free o) some;
      name = keeps_name p c ∙ behind.name;
      kind = keeps_kind p c ∙ behind.kind;
    }

-- ---- the other way round

still_free : (o p : Choice) (os : List Choice) (c : ColumnRead) → has p os ≡ false → ((x : Choice) → has x (p ∷ os) ≡ true → is_set x c ≡ false)
    → has o os ≡ true → is_set o (with_choice p c) ≡ false
still_free o p os c once free some =
    let unset : is_set o c ≡ false = free o (ap (λ b. is_same o p || b) some ∙ sym (or_true (is_same o p))) in
    let other : is_same o p ≡ false = is_not (is_same o p) (λ same. let both : true ≡ false = sym some ∙ ap (λ x. has x os) (same_choice o p same) ∙ once in absurd cc) in
    rw (set_with o p c, unset, other) refl

pub choose : (os : List Choice) (c : ColumnRead) → AreDistinct os → ((o : Choice) → has o os ≡ true → is_set o c ≡ false)
    → (d : ColumnRead) × AreChoices os (words_of os) c d
choose [] c distinct free = (c, (refl, refl))
choose (p ∷ os) c (once, distinct) free =
    let behind = choose os (with_choice p c) distinct (λ o some. still_free o p os c once free some) in
    let unset : is_set p c ≡ false = free p (ap (λ b. b || has p os) (self_same p)) in
    (behind.0, (words_of os, refl, unset, behind.1))

none_set : (name : List ℕ) (kind : TypeName) (o : Choice) → is_set o (bare_column name kind) ≡ false
none_set name kind may_null = refl
none_set name kind no_null = refl
none_set name kind is_key = refl

same_column : (c d : ColumnRead) → c.name ≡ d.name → c.kind ≡ d.kind → c.null ≡ d.null → c.not_null ≡ d.not_null → c.key ≡ d.key → c ≡ d
same_column c d name kind null not_null key =
    let named : c ≡ record { name = d.name; kind = c.kind; null = c.null; not_null = c.not_null; key = c.key } =
    ap (λ x. record { name = x; kind = c.kind; null = c.null; not_null = c.not_null; key = c.key }) name in
    named ∙ ap (λ x. record { name = d.name; kind = x; null = c.null; not_null = c.not_null; key = c.key }) kind
    ∙ ap (λ x. record { name = d.name; kind = d.kind; null = x; not_null = c.not_null; key = c.key }) null
    ∙ ap (λ x. record { name = d.name; kind = d.kind; null = d.null; not_null = x; key = c.key }) not_null
    ∙ ap (λ x. record { name = d.name; kind = d.kind; null = d.null; not_null = d.not_null; key = x }) key

-- options that stand once each make this of a column without one
pub column_with : (os : List Choice) (name : List ℕ) (kind : TypeName) → AreDistinct os
    → AreChoices os (words_of os) (bare_column name kind) (record { name = name; kind = kind; null = has may_null os; not_null = has no_null os; key = has is_key os })
column_with os name kind distinct =
    let c = bare_column name kind in
    let found = choose os c distinct (λ o some. none_set name kind o) in
    let all = chosen os (words_of os) c found.0 found.1 in
    let made : ColumnRead = record { name = name; kind = kind; null = has may_null os; not_null = has no_null os; key = has is_key os } in
    let same : found.0 ≡ made = same_column found.0 made (sym all.name) (sym all.kind) (all.set may_null) (all.set no_null) (all.set is_key) in
    subst (λ (d : ColumnRead). AreChoices os (words_of os) c d) same found.1
