-- Lexemes in the form of a CREATE are read as it.
use Rattle.std.proofs.Common.{◌≡◌, ◌≤◌, ℕ, Bool, true, false, List, [], ◌∷◌, ◌++◌, Some, Ok, refl, ap, ◌∙◌, subst, append_assoc, map}
use Rattle.std.specs.Char.{to_ascii_lowercase, to_ascii_uppercase}
use Rattle.std.proofs.lemmas.Bool.{le-leb}
use Rattle.sql_text.specs.declared.create.ColumnRead.{ColumnRead}
use Rattle.sql_text.specs.declared.create.ColumnDue.TheVariants as columns
use Rattle.sql_text.specs.declared.create.CreateDue.{CreateDue}
use Rattle.sql_text.specs.declared.create.CreateDue.TheVariants as due
use Rattle.sql_text.specs.declared.create.CreateHead.{CreateHead}
use Rattle.sql_text.specs.declared.keyword.Keyword.TheVariants as words
use Rattle.sql_text.specs.declared.lexeme.Lexeme.{Lexeme}
use Rattle.sql_text.specs.declared.lexeme.Lexeme.TheVariants.{Keyword, Name, Sign}
use Rattle.sql_text.specs.declared.lexeme.Sign.TheVariants as signs
use Rattle.sql_text.specs.declared.reading.Reading.{Reading}
use Rattle.sql_text.specs.declared.reading.Reading.TheVariants.{Start, Creating, Whole}
use Rattle.sql_text.specs.declared.statement.Item.{Item}
use Rattle.sql_text.specs.declared.statement.Item.TheVariants as item
use Rattle.sql_text.specs.declared.statement.Statement.TheVariants.{Create}
use Rattle.sql_text.specs.declared.statement.TypeName.{TypeName}
use Rattle.sql_text.specs.declared.statement.TypeName.TheVariants.{BigInt, VarChar}
use Rattle.sql_text.specs.Create.{next as create_next, item as create_item, after_column, key_column, key_close, engine_name}
use Rattle.sql_text.specs.Parts.{IsColumn, IsList}
use Rattle.sql_text.specs.Forms.{IsType, IsItem, Choice, may_null, no_null, is_key, choice_words, words_of, has, may_equal}
use Rattle.sql_text.proofs.Options.{is_set, with_choice, AreChoices, bare_column, column_with}
use Rattle.sql_text.specs.Numbers.{small_number}
use Rattle.sql_text.specs.Opening.{next as opening_next}
use Rattle.sql_text.specs.Reading.{next, start}
use Rattle.sql_text.specs.Steps.{same_keyword, same_sign, name_in, column_in, engine_in}
use Rattle.sql_text.proofs.SumLemmas.{Leads, both}

abbrev at : CreateHead → CreateDue → Reading
at h next_due = Creating (record { head = h; due = next_due })

abbrev with : CreateHead → List Item → CreateHead
with h xs = record { table = h.table; items = h.items ++ xs }

abbrev item_of : ColumnRead → Item
item_of c = item.Column c.name c.kind c.null c.not_null c.key

-- `,` or `)`
abbrev sign_of : Bool → Lexeme
sign_of true = Sign signs.Close
sign_of false = Sign signs.Comma

-- what is due behind it
abbrev due_of : Bool → CreateDue
due_of true = due.Engine
due_of false = due.Item

column_leads : (h : CreateHead) (ls : List Lexeme) (c : List ℕ) → IsColumn ls c → Leads (at h due.Item) ls (at h (due.Column c columns.Kind))
unfolding next create_next create_item column_in name_in same_keyword
column_leads h ls c is = rw (is.1, is.2) refl

small : (n : ℕ) → 1 ≤ n → n ≤ 255 → small_number n ≡ Some n
small n least most = rw (le-leb 1 n least, le-leb n 255 most) refl

type_leads : (h : CreateHead) (c : List ℕ) (ls : List Lexeme) (k : TypeName) → IsType ls k → Leads (at h (due.Column c columns.Kind)) ls (at h (due.Options (bare_column c k)))
unfolding next create_next same_keyword same_sign
type_leads h c ls BigInt is = rw is refl
type_leads h c ls (VarChar n) is = rw (is.2, small n is.0 is.1) refl

choice_leads : (h : CreateHead) (o : Choice) (c : ColumnRead) → is_set o c ≡ false → Leads (at h (due.Options c)) (choice_words o) (at h (due.Options (with_choice o c)))
unfolding next create_next same_keyword
choice_leads h may_null c is = rw is refl
choice_leads h no_null c is = rw is refl
choice_leads h is_key c is = rw is refl

choices_lead : (h : CreateHead) (os : List Choice) (ls : List Lexeme) (c d : ColumnRead) → AreChoices os ls c d → Leads (at h (due.Options c)) ls (at h (due.Options d))
choices_lead h [] ls c d is = rw is.0 (ap (λ x. Ok (at h (due.Options x))) is.1)
choices_lead h (o ∷ os) ls c d is =
    rw is.1 (both (at h (due.Options c)) (at h (due.Options (with_choice o c))) (at h (due.Options d)) (choice_words o) is.0 (choice_leads h o c is.2) (choices_lead h os is.0 (with_choice o c) d is.3))

column_ends : (closes : Bool) (h : CreateHead) (c : ColumnRead) → Leads (at h (due.Options c)) (sign_of closes ∷ []) (at (with h (item_of c ∷ [])) (due_of closes))
unfolding next create_next after_column same_sign
column_ends true h c = refl
column_ends false h c = refl

key_ends : (closes : Bool) (h : CreateHead) (w : List ℕ) → Leads (at h due.Item) (Keyword words.Primary ∷ Keyword words.Key ∷ Sign signs.Open ∷ Name w ∷ Sign signs.Close ∷ sign_of closes ∷ []) (at (with h (item.Key (map to_ascii_lowercase w) ∷ [])) (due_of closes))
unfolding next create_next create_item key_column key_close column_in name_in same_keyword same_sign
key_ends true h w = refl
key_ends false h w = refl

item_leads : (closes : Bool) (h : CreateHead) (ls : List Lexeme) (x : Item) → IsItem ls x → Leads (at h due.Item) (ls ++ sign_of closes ∷ []) (at (with h (x ∷ [])) (due_of closes))
item_leads b h ls (item.Column name kind null not_null key) (word, type, choices, is, named, typed, distinct, is_null, is_not_null, is_keyed) =
    let c : ColumnRead = record { name = name; kind = kind; null = has may_null choices; not_null = has no_null choices; key = has is_key choices } in
    let back = words_of choices in
    let chosen = column_with choices name kind distinct in
    let options = both (at h (due.Options (bare_column name kind))) (at h (due.Options c)) (at (with h (item_of c ∷ [])) (due_of b)) back (sign_of b ∷ []) (choices_lead h choices back (bare_column name kind) c chosen) (column_ends b h c) in
    let typed_options = both (at h (due.Column name columns.Kind)) (at h (due.Options (bare_column name kind))) (at (with h (item_of c ∷ [])) (due_of b)) type (back ++ sign_of b ∷ []) (type_leads h name type kind typed) options in
    let all = both (at h due.Item) (at h (due.Column name columns.Kind)) (at (with h (item_of c ∷ [])) (due_of b)) word (type ++ (back ++ sign_of b ∷ [])) (column_leads h word name named) typed_options in
    rw (is, is_null, is_not_null, is_keyed, append_assoc word (type ++ back) (sign_of b ∷ []), append_assoc type back (sign_of b ∷ [])) all
item_leads b h ls (item.Key column) (word, is, folded) = rw (is, folded) (key_ends b h word)

pub items_lead : (h : CreateHead) (ls : List Lexeme) (xs : List Item) → IsList IsItem ls xs → Leads (at h due.Item) (ls ++ Sign signs.Close ∷ []) (at (with h xs) due.Engine)
items_lead h ls [] is = absurd is
items_lead h ls (x ∷ []) is = item_leads true h ls x is
items_lead h ls (x ∷ y ∷ ys) is =
    let further = with h (x ∷ []) in
    let others = items_lead further is.1 (y ∷ ys) is.4 in
    let first = item_leads false h is.0 x is.3 in
    let all = both (at h due.Item) (at further due.Item) (at (with further (y ∷ ys)) due.Engine) (is.0 ++ Sign signs.Comma ∷ []) (is.1 ++ Sign signs.Close ∷ []) first others in
    rw (is.2, append_assoc is.0 (Sign signs.Comma ∷ is.1) (Sign signs.Close ∷ []))
    (subst (λ zs. Leads (at h due.Item) zs (at (with further (y ∷ ys)) due.Engine)) (append_assoc is.0 (Sign signs.Comma ∷ []) (is.1 ++ Sign signs.Close ∷ [])) all
    ∙ ap (λ zs. Ok (at (record { table = h.table; items = zs }) due.Engine)) (append_assoc h.items (x ∷ []) (y ∷ ys)))

pub create_begins : (t : List ℕ) → Leads Start (Keyword words.Create ∷ Keyword words.Table ∷ Name t ∷ Sign signs.Open ∷ []) (at (record { table = t; items = [] }) due.Item)
unfolding next start opening_next create_next name_in same_keyword same_sign
create_begins t = refl

pub engine_leads : (equal : Bool) (h : CreateHead) (w : List ℕ) → Leads (at h due.Engine) (Keyword words.Engine ∷ may_equal equal (Name w ∷ [])) (Whole (Create h.table h.items (map to_ascii_uppercase w)))
unfolding next create_next engine_name engine_in name_in same_keyword same_sign
engine_leads true h w = refl
engine_leads false h w = refl
