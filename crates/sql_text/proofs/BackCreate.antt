-- What completes a CREATE behind a step, completes it before.
use Rattle.std.proofs.Common.{◌≡◌, ◌&&◌, nat_le, not, ℕ, Bool, true, false, cond, List, [], ◌∷◌, ◌++◌, Some, None, Ok, refl, sym, ap, subst, inl, inr, append_assoc, map}
use Rattle.std.specs.Char.{to_ascii_lowercase, to_ascii_uppercase}
use Rattle.std.proofs.lemmas.Bool.{and_parts, leb-true}
use Rattle.sql_text.specs.declared.create.ColumnDue.{ColumnDue}
use Rattle.sql_text.specs.declared.create.ColumnDue.TheVariants as columns
use Rattle.sql_text.specs.declared.create.ColumnRead.{ColumnRead}
use Rattle.sql_text.specs.declared.create.CreateDue.{CreateDue}
use Rattle.sql_text.specs.declared.create.CreateDue.TheVariants as due
use Rattle.sql_text.specs.declared.create.CreateHead.{CreateHead}
use Rattle.sql_text.specs.declared.create.KeyDue.{KeyDue}
use Rattle.sql_text.specs.declared.create.KeyDue.TheVariants as keys
use Rattle.sql_text.specs.declared.keyword.Keyword.{Keyword as Words}
use Rattle.sql_text.specs.declared.keyword.Keyword.TheVariants as words
use Rattle.sql_text.specs.declared.lexeme.Lexeme.{Lexeme}
use Rattle.sql_text.specs.declared.lexeme.Lexeme.TheVariants.{Keyword, Name, Number, Sign}
use Rattle.sql_text.specs.declared.lexeme.Sign.TheVariants as signs
use Rattle.sql_text.specs.declared.reading.Reading.{Reading}
use Rattle.sql_text.specs.declared.reading.Reading.TheVariants.{Whole}
use Rattle.sql_text.specs.declared.statement.Item.{Item}
use Rattle.sql_text.specs.declared.statement.Item.TheVariants as items
use Rattle.sql_text.specs.declared.statement.Statement.{Statement}
use Rattle.sql_text.specs.declared.statement.Statement.TheVariants.{Create}
use Rattle.sql_text.specs.declared.statement.TypeName.TheVariants.{BigInt, VarChar}
use Rattle.sql_text.specs.declared.step.StepFault.{StepFault}
use Rattle.sql_text.specs.Create.{at as create_at, item, column_name, kind, options, length_next, length_of, column, option, after_column, key, key_column, key_close, engine_name, more, after_sign, after_word, equal, with_due, with_null, with_not_null, with_key}
use Rattle.sql_text.specs.Forms.{Choice, may_null, no_null, is_key, choice_words, words_of, IsItem, IsStatement, IsType, may_equal}
use Rattle.sql_text.proofs.Options.{bare_column, chosen, is_set, with_choice}
use Rattle.sql_text.specs.Parts.{IsList}
use Rattle.sql_text.specs.Steps.{Step, is_word}
use Rattle.sql_text.proofs.BackLemmas.{From, reads, refuses, by_word, by_sign, by_column, by_engine, only_word, only_sign, word_same}
use Rattle.sql_text.proofs.BackWords.{cons_list, ended}
use Rattle.sql_text.proofs.Rests.{AfterCreating, AfterItem, AtColumn, AtEngine, AtEqual, AtEngineName, AtItem, AtKey, AtKeyClose, AtOptions, EndsAs, item_of, with_items}

-- ---- items

more_items : (h : CreateHead) (front : List Lexeme) (x : Item) (rest : List Lexeme) (s : Statement)
    → IsItem front x → AfterItem (with_items h (x ∷ [])) rest s → AtItem h (front ++ rest) s
more_items h front x rest s is (inl (back, has, after)) = (front, x ∷ [], back, ap (λ zs. front ++ zs) has, is, after)
more_items h front x rest s is (inr (back, has, (body, xs, others, cut, listed, after))) = (
  front ++ Sign signs.Comma ∷ body,
  x ∷ xs,
  others,
  rw (has, cut) (sym (append_assoc front (Sign signs.Comma ∷ body) (Sign signs.Close ∷ others))),
  cons_list IsItem front body x xs is listed,
  subst (λ zs. AtEngine (record { table = h.table; items = zs }) others s) (append_assoc h.items (x ∷ []) xs) after,
)

column_item : (h : CreateHead) (w : List ℕ) (ls : List Lexeme) (s : Statement) → AtColumn h (map to_ascii_lowercase w) columns.Kind ls s → AtItem h (Name w ∷ ls) s
column_item h w ls s (type, kind, behind, has, typed, (choices, body, d, rest, cut, are, after)) =
    let all = chosen choices body (bare_column (map to_ascii_lowercase w) kind) d are in
    let found = more_items h (Name w ∷ (type ++ words_of choices)) (item_of d) rest s (
      Name w ∷ [],
      type,
      choices,
      refl,
      (w, refl, sym all.name),
      subst (λ k. IsType type k) all.kind typed,
      all.distinct,
      all.set may_null,
      all.set no_null,
      all.set is_key,
    ) after in
    rw (has, cut, all.words) (subst (λ zs. AtItem h (Name w ∷ zs) s) (append_assoc type (words_of choices) rest) found)

more_options : (h : CreateHead) (o : Choice) (c : ColumnRead) (rest : List Lexeme) (s : Statement)
    → is_set o c ≡ false → AtOptions h (with_choice o c) rest s → AtOptions h c (choice_words o ++ rest) s
more_options h o c rest s free (choices, body, d, behind, cut, are, after) = (
  o ∷ choices,
  choice_words o ++ body,
  d,
  behind,
  rw cut (sym (append_assoc (choice_words o) body behind)),
  (body, refl, free, are),
  after,
)

-- a word that is due only where the flag is not set
by_free_word : (ls : List Lexeme) (s : Statement) (P : Lexeme → Type 0) (w : Words) (b : Bool) (l : Lexeme) (x y : Step Reading)
    → (b ≡ false → From ls s x (P (Keyword w))) → From ls s y (P l) → From ls s (cond (is_word w l && not b) x y) (P l)
by_free_word ls s P w b l x y h k = by_flags (is_word w l) b refl refl
  where
    by_flags : (a c : Bool) → is_word w l ≡ a → b ≡ c → From ls s (cond (a && not c) x y) (P l)
    by_flags true false is free = λ q read rest. subst P (sym (word_same w l is)) (h free q read rest)
    by_flags true true is free = k
    by_flags false true is free = k
    by_flags false false is free = k

more_back : (h : CreateHead) (l : Lexeme) (ls : List Lexeme) (s : Statement) → From ls s (more h l) (AfterItem h (l ∷ ls) s)
more_back h l ls s =
    by_sign ls s (λ k. AfterItem h (k ∷ ls) s) signs.Comma l (Ok (with_due h due.Item)) (after_sign h l signs.Close due.Engine)
    (reads ls s (with_due h due.Item) (AfterItem h (Sign signs.Comma ∷ ls) s) (λ r. inr (ls, refl, r)))
    (only_sign ls s (λ k. AfterItem h (k ∷ ls) s) signs.Close l (with_due h due.Engine) (λ r. inl (ls, refl, r)))

item_back : (h : CreateHead) (l : Lexeme) (ls : List Lexeme) (s : Statement) → From ls s (item h l) (AtItem h (l ∷ ls) s)
unfolding item
item_back h l ls s =
    by_word ls s (λ k. AtItem h (k ∷ ls) s) words.Primary l (Ok (with_due h (due.Key keys.Key))) (column_name h l)
    (reads ls s (with_due h (due.Key keys.Key)) (AtItem h (Keyword words.Primary ∷ ls) s) keyed)
    (by_column ls s (λ k. AtItem h (k ∷ ls) s) (λ name. Ok (with_due h (due.Column name columns.Kind))) l
    (λ w. reads ls s (with_due h (due.Column (map to_ascii_lowercase w) columns.Kind)) (AtItem h (Name w ∷ ls) s) (λ r. column_item h w ls s r)))
  where
    keyed : AtKey h keys.Key ls s → AtItem h (Keyword words.Primary ∷ ls) s
    keyed (r0, is0, (r1, is1, (w, r2, is2, (r3, is3, after)))) =
        rw (is0, is1, is2, is3)
        (more_items h (Keyword words.Primary ∷ Keyword words.Key ∷ Sign signs.Open ∷ Name w ∷ Sign signs.Close ∷ []) (items.Key (map to_ascii_lowercase w)) r3 s (w, refl, refl) after)

small_back : (h : CreateHead) (name : List ℕ) (n : ℕ) (b : Bool) (ls : List Lexeme) (s : Statement) → (nat_le 1 n && nat_le n 255) ≡ b
    → From ls s (length_of h name (cond b (Some n) None)) (AtColumn h name columns.Length (Number n ∷ ls) s)
small_back h name n true ls s is =
    let parts = and_parts (nat_le 1 n) (nat_le n 255) is in
    reads ls s (with_due h (due.Column name (columns.Close n))) (AtColumn h name columns.Length (Number n ∷ ls) s)
    (λ r. (n, r.0, ap (λ zs. Number n ∷ zs) r.1, leb-true 1 n parts.0, leb-true n 255 parts.1, r.2))
small_back h name n false ls s is = refuses ls s StepFault.Unexpected _

length_back : (h : CreateHead) (name : List ℕ) (l : Lexeme) (ls : List Lexeme) (s : Statement) → From ls s (length_next h name l) (AtColumn h name columns.Length (l ∷ ls) s)
length_back h name (Number n) ls s = small_back h name n (nat_le 1 n && nat_le n 255) ls s refl
length_back h name _ ls s = λ q read rest. absurd cc

column_back : (h : CreateHead) (name : List ℕ) (next_due : ColumnDue) (l : Lexeme) (ls : List Lexeme) (s : Statement)
    → From ls s (column h name next_due l) (AtColumn h name next_due (l ∷ ls) s)
column_back h name columns.Kind l ls s =
    by_word ls s (λ k. AtColumn h name columns.Kind (k ∷ ls) s) words.BigInt l (Ok (options h name BigInt)) (after_word h l words.VarChar (due.Column name columns.Open))
    (reads ls s (options h name BigInt) (AtColumn h name columns.Kind (Keyword words.BigInt ∷ ls) s) (λ r. (Keyword words.BigInt ∷ [], BigInt, ls, refl, refl, r)))
    (only_word ls s (λ k. AtColumn h name columns.Kind (k ∷ ls) s) words.VarChar l (with_due h (due.Column name columns.Open))
    (λ r. (Keyword words.VarChar ∷ Sign signs.Open ∷ Number r.0 ∷ Sign signs.Close ∷ [], VarChar r.0, r.1, ap (λ zs. Keyword words.VarChar ∷ zs) r.2, (r.3, r.4, refl), r.5)))
column_back h name columns.Open l ls s =
    only_sign ls s (λ k. AtColumn h name columns.Open (k ∷ ls) s) signs.Open l (with_due h (due.Column name columns.Length))
    (λ r. (r.0, r.1, ap (λ zs. Sign signs.Open ∷ zs) r.2, r.3, r.4, r.5))
column_back h name columns.Length l ls s = length_back h name l ls s
column_back h name (columns.Close n) l ls s =
    only_sign ls s (λ k. AtColumn h name (columns.Close n) (k ∷ ls) s) signs.Close l (options h name (VarChar n)) (λ r. (ls, refl, r))

after_back : (h : CreateHead) (c : ColumnRead) (l : Lexeme) (ls : List Lexeme) (s : Statement) → From ls s (after_column h c l) (AtOptions h c (l ∷ ls) s)
unfolding after_column
after_back h c l ls s q read rest = ([], [], c, l ∷ ls, refl, (refl, refl), more_back (with_items h (item_of c ∷ [])) l ls s q read rest)

option_back : (h : CreateHead) (c : ColumnRead) (l : Lexeme) (ls : List Lexeme) (s : Statement) → From ls s (option h c l) (AtOptions h c (l ∷ ls) s)
option_back h c l ls s =
    by_free_word ls s (λ k. AtOptions h c (k ∷ ls) s) words.Not c.not_null l _ _
    (λ free. reads ls s (with_due h (due.OptionNull c)) (AtOptions h c (Keyword words.Not ∷ ls) s)
    (λ r. rw r.1 (more_options h no_null c r.0 s free r.2)))
    (by_free_word ls s (λ k. AtOptions h c (k ∷ ls) s) words.Null c.null l _ _
    (λ free. reads ls s (with_due h (due.Options (with_null c))) (AtOptions h c (Keyword words.Null ∷ ls) s)
    (λ r. more_options h may_null c ls s free r))
    (by_free_word ls s (λ k. AtOptions h c (k ∷ ls) s) words.Primary c.key l _ _
    (λ free. reads ls s (with_due h (due.OptionKey c)) (AtOptions h c (Keyword words.Primary ∷ ls) s)
    (λ r. rw r.1 (more_options h is_key c r.0 s free r.2)))
    (after_back h c l ls s)))

key_back : (h : CreateHead) (next_due : KeyDue) (l : Lexeme) (ls : List Lexeme) (s : Statement) → From ls s (key h next_due l) (AtKey h next_due (l ∷ ls) s)
unfolding key_column
key_back h keys.Key l ls s = only_word ls s (λ k. AtKey h keys.Key (k ∷ ls) s) words.Key l (with_due h (due.Key keys.Open)) (λ r. (ls, refl, r))
key_back h keys.Open l ls s = only_sign ls s (λ k. AtKey h keys.Open (k ∷ ls) s) signs.Open l (with_due h (due.Key keys.Column)) (λ r. (ls, refl, r))
key_back h keys.Column l ls s =
    by_column ls s (λ k. AtKey h keys.Column (k ∷ ls) s) (λ name. Ok (with_due h (due.KeyClose name))) l
    (λ w. reads ls s (with_due h (due.KeyClose (map to_ascii_lowercase w))) (AtKey h keys.Column (Name w ∷ ls) s) (λ r. (w, ls, refl, r)))

engine_back : (h : CreateHead) (l : Lexeme) (ls : List Lexeme) (s : Statement) → From ls s (engine_name h l) (AtEngineName h (l ∷ ls) s)
unfolding engine_name
engine_back h l ls s =
    by_engine ls s (λ k. AtEngineName h (k ∷ ls) s) (λ engine. Ok (Whole (Create h.table h.items engine))) l
    (λ w. reads ls s (Whole (Create h.table h.items (map to_ascii_uppercase w))) (AtEngineName h (Name w ∷ ls) s) (λ r. (w, ls, refl, r)))

equal_back : (h : CreateHead) (l : Lexeme) (ls : List Lexeme) (s : Statement) → From ls s (equal h l) (AtEqual h (l ∷ ls) s)
equal_back h l ls s =
    by_sign ls s (λ k. AtEqual h (k ∷ ls) s) signs.Equal l (Ok (with_due h due.EngineName)) (engine_name h l)
    (reads ls s (with_due h due.EngineName) (AtEqual h (Sign signs.Equal ∷ ls) s) (λ r. (true, ls, refl, r)))
    (λ q read rest. (false, l ∷ ls, refl, engine_back h l ls s q read rest))

close_back : (h : CreateHead) (name : List ℕ) (l : Lexeme) (ls : List Lexeme) (s : Statement) → From ls s (key_close h name l) (AtKeyClose h name (l ∷ ls) s)
unfolding key_close
close_back h name l ls s =
    only_sign ls s (λ k. AtKeyClose h name (k ∷ ls) s) signs.Close l (with_due (with_items h (items.Key name ∷ [])) due.More) (λ r. (ls, refl, r))

pub create_back : (h : CreateHead) (next_due : CreateDue) (l : Lexeme) (ls : List Lexeme) (s : Statement)
    → From ls s (create_at h next_due l) (AfterCreating h next_due (l ∷ ls) s)
create_back h due.Open l ls s = only_sign ls s (λ k. AfterCreating h due.Open (k ∷ ls) s) signs.Open l (with_due h due.Item) (λ r. (ls, refl, r))
create_back h due.Item l ls s = item_back h l ls s
create_back h (due.Column name next_due) l ls s = column_back h name next_due l ls s
create_back h (due.Options c) l ls s = option_back h c l ls s
create_back h (due.OptionNull c) l ls s =
    only_word ls s (λ k. AfterCreating h (due.OptionNull c) (k ∷ ls) s) words.Null l (with_due h (due.Options (with_not_null c))) (λ r. (ls, refl, r))
create_back h (due.OptionKey c) l ls s =
    only_word ls s (λ k. AfterCreating h (due.OptionKey c) (k ∷ ls) s) words.Key l (with_due h (due.Options (with_key c))) (λ r. (ls, refl, r))
create_back h (due.Key next_due) l ls s = key_back h next_due l ls s
create_back h (due.KeyClose name) l ls s = close_back h name l ls s
create_back h due.More l ls s = more_back h l ls s
create_back h due.Engine l ls s =
    only_word ls s (λ k. AfterCreating h due.Engine (k ∷ ls) s) words.Engine l (with_due h due.Equal) (λ r. (ls, refl, r))
create_back h due.Equal l ls s = equal_back h l ls s
create_back h due.EngineName l ls s = engine_back h l ls s

-- ---- the whole

created : (t : List ℕ) (body : List Lexeme) (equal : Bool) (w : List ℕ) (end : List Lexeme) (xs : List Item) (s : Statement) → IsList IsItem body xs
    → EndsAs (Create t xs (map to_ascii_uppercase w)) end s
    → IsStatement (Keyword words.Create ∷ Keyword words.Table ∷ Name t ∷ Sign signs.Open
    ∷ (body ++ Sign signs.Close ∷ Keyword words.Engine ∷ (may_equal equal (Name w ∷ []) ++ end))) s
created t body equal w end xs s listed ends =
    let behind = Sign signs.Close ∷ Keyword words.Engine ∷ may_equal equal (Name w ∷ []) in
    let front = Keyword words.Create ∷ Keyword words.Table ∷ Name t ∷ Sign signs.Open ∷ (body ++ behind) in
    subst (λ zs. IsStatement (Keyword words.Create ∷ Keyword words.Table ∷ Name t ∷ Sign signs.Open ∷ zs) s) (append_assoc body behind end)
    (ended front end (Create t xs (map to_ascii_uppercase w)) s (body, equal, w, refl, listed, refl) ends)

equal_end : (equal : Bool) (w : List ℕ) (end : List Lexeme) → may_equal equal (Name w ∷ []) ++ end ≡ may_equal equal (Name w ∷ end)
equal_end true w end = refl
equal_end false w end = refl

pub create_begun : (t : List ℕ) (ls : List Lexeme) (s : Statement) → AfterCreating (record { table = t; items = [] }) due.Open ls s
    → IsStatement (Keyword words.Create ∷ Keyword words.Table ∷ Name t ∷ ls) s
create_begun t ls s (r0, is0, (body, xs, r1, is1, listed, (r2, is2, (equal, r3, is3, (w, end, is4, ends))))) =
    rw (is0, is1, is2, is3, is4, ← equal_end equal w end) (created t body equal w end xs s listed ends)
