-- A session, byte by byte.
use Rattle.std.proofs.Common.{◌≡◌, ◌≢◌, ℕ, ◌+◌, ◌<◌, List, [], ◌∷◌, ◌++◌, length, take, drop, get_or, flat_map, Option, Some, None, Result, Ok, Err, OnOk, OnErr, IsErr, refl, sym, ◌∙◌, ap, subst, arith, append_assoc, take-append-drop}
use Rattle.std.specs.Prelude.{option_to_list}
use Rattle.std.specs.declared.alloc.AllocError.{AllocError}
use Rattle.std.proofs.lemmas.List.{append-nil}
use Rattle.std.proofs.lemmas.Grind.{flat_map-append, take_at_read}
use Rattle.plugd.specs.declared.reply.Reply.{Reply}
use Rattle.plugd.specs.declared.session.Session.{Session}
use Rattle.plugd.specs.Reply.{text_of}
use Rattle.plugd.specs.Lines.{front_of}
use Rattle.plugd.specs.Coordinator.{Telling, GoesOn}
use Rattle.plugd.specs.Serve.{Base}
use Rattle.plugd.specs.Session.{Standing, Starved, IsStanding, Takes}
use Rattle.plugd.proofs.LineLemmas.{splits_byte, splits_feed, splits_few, first_more, first_ended}

-- the coordinator of a session that stands
pub goes_on : {C : Type 0} {serves : Telling C} (session : Session C) (room : ℕ) → IsStanding serves session room → GoesOn (serves session.core)
goes_on session room is =
    let s = is.3 in
    (is.0, s.lines, s.replies, s.serving, omega (arith, splits_few is.1 s.lines s.rest s.splits, is.4))

-- what a byte does, in the two answers
pub takes_ok : {C : Type 0} {serves rests : Telling C} (bytes : List ℕ) (old new : Session C)
    → ((base : Base) (taken spoken : List ℕ) → Standing serves base taken spoken old → Standing serves base (taken ++ bytes) spoken new) → Takes serves rests bytes old new (Ok tt)
takes_ok bytes old new does = record { ok = does; err = λ base taken spoken s. tt }

pub err_ok : {T E : Type 0} (r : Result T E) (P : Type 0) → IsErr r → OnOk r P
err_ok (Ok v) P is = cc
err_ok (Err e) P is = tt

pub on_err : {T E : Type 0} (r : Result T E) (P : Type 0) → P → OnErr r P
on_err (Ok v) P is = tt
on_err (Err e) P is = is

pub takes_err : {C : Type 0} {serves rests : Telling C} (bytes : List ℕ) (old new : Session C) (result : Result Unit AllocError) → IsErr result
    → ((base : Base) (taken spoken : List ℕ) → Standing serves base taken spoken old → Starved rests base (taken ++ bytes) spoken new) → Takes serves rests bytes old new result
takes_err bytes old new result is_err does = record {
  ok = λ base taken spoken s. err_ok result _ is_err;
  err = λ base taken spoken s. on_err result _ (does base taken spoken s);
}

none_of : {A : Type 0} (o : Option A) → ((x : A) → o ≡ Some x → ⊥) → o ≡ None
none_of None not = refl
none_of (Some x) not = absurd (not x refl)

-- the texts that are to be written after a reply, or after none
pub told_some : (o : Option Reply) (reply : Reply) (old new : List ℕ) → o ≡ Some reply → new ≡ old ++ text_of reply → new ≡ old ++ flat_map text_of (option_to_list o)
told_some o reply old new is same = same ∙ ap (λ (l : List ℕ). old ++ l) (sym (append-nil (text_of reply))) ∙ ap (λ (r : Option Reply). old ++ flat_map text_of (option_to_list r)) (sym is)

pub told_none : (o : Option Reply) (old : List ℕ) → ((x : Reply) → o ≡ Some x → ⊥) → old ≡ old ++ flat_map text_of (option_to_list o)
told_none o old not = sym (append-nil old) ∙ ap (λ (r : Option Reply). old ++ flat_map text_of (option_to_list r)) (sym (none_of o not))

-- a line was ended and played
pub line_ended : {C : Type 0} {serves : Telling C} (base : Base) (taken spoken : List ℕ) (old new : Session C) (s : Standing serves base taken spoken old) (more : Option Reply)
    → serves new.core base (s.lines ++ s.rest ∷ []) (s.replies ++ option_to_list more) → new.front.items ≡ [] → new.replies.items ≡ old.replies.items ++ flat_map text_of (option_to_list more)
    → Standing serves base (taken ++ 10 ∷ []) spoken new
line_ended base taken spoken old new s more serving none texts = record {
  lines = s.lines ++ s.rest ∷ [];
  rest = [];
  replies = s.replies ++ option_to_list more;
  splits = splits_feed taken s.lines s.rest s.splits;
  front = none;
  serving = serving;
  texts = flat_map-append text_of s.replies (option_to_list more) ∙ ap (λ (l : List ℕ). l ++ flat_map text_of (option_to_list more)) s.texts
      ∙ append_assoc spoken old.replies.items (flat_map text_of (option_to_list more)) ∙ ap (λ (l : List ℕ). spoken ++ l) (sym texts);
}

-- a line was ended, and its reply found no memory
pub line_untold : {C : Type 0} {serves rests : Telling C} (base : Base) (taken spoken : List ℕ) (old new : Session C) (s : Standing serves base taken spoken old) (more : Option Reply)
    → rests new.core base (s.lines ++ s.rest ∷ []) (s.replies ++ option_to_list more) → new.replies.items ≡ old.replies.items → Starved rests base (taken ++ 10 ∷ []) spoken new
line_untold base taken spoken old new s more halts same =
    let splits = splits_feed taken s.lines s.rest s.splits in record {
      lines = s.lines ++ s.rest ∷ [];
      replies = s.replies ++ option_to_list more;
      first = first_ended (taken ++ 10 ∷ []) (s.lines ++ s.rest ∷ []) [] splits;
      halts = halts;
      untold = flat_map text_of (option_to_list more);
      texts = flat_map-append text_of s.replies (option_to_list more) ∙ ap (λ (l : List ℕ). l ++ flat_map text_of (option_to_list more)) (s.texts ∙ ap (λ (l : List ℕ). spoken ++ l) (sym same));
    }

-- there was no memory for a byte, or for the line that it ends
pub starved_at : {C : Type 0} {serves rests : Telling C} (base : Base) (taken spoken : List ℕ) (old new : Session C) (s : Standing serves base taken spoken old) (byte : ℕ)
    → rests new.core base s.lines s.replies → new.replies.items ≡ old.replies.items → Starved rests base (taken ++ byte ∷ []) spoken new
starved_at base taken spoken old new s byte halts same = record {
  lines = s.lines;
  replies = s.replies;
  first = first_more taken (byte ∷ []) s.lines (first_ended taken s.lines s.rest s.splits);
  halts = halts;
  untold = [];
  texts = s.texts ∙ ap (λ (l : List ℕ). spoken ++ l) (sym same) ∙ sym (append-nil (spoken ++ new.replies.items));
}

-- a byte of the open line
pub byte_taken : {C : Type 0} {serves : Telling C} (base : Base) (taken spoken : List ℕ) (old new : Session C) (s : Standing serves base taken spoken old) (byte : ℕ) → byte ≢ 10
    → serves new.core base s.lines s.replies → new.replies.items ≡ old.replies.items → new.front.items ≡ front_of (s.rest ++ byte ∷ []) → Standing serves base (taken ++ byte ∷ []) spoken new
byte_taken base taken spoken old new s byte not serving same front = record {
  lines = s.lines;
  rest = s.rest ++ byte ∷ [];
  replies = s.replies;
  splits = splits_byte taken s.lines s.rest byte s.splits not;
  front = front;
  serving = serving;
  texts = s.texts ∙ ap (λ (l : List ℕ). spoken ++ l) (sym same);
}

-- more bytes after those where it starved
pub starved_more : {C : Type 0} {rests : Telling C} (base : Base) (taken more spoken : List ℕ) (session : Session C) → Starved rests base taken spoken session → Starved rests base (taken ++ more) spoken session
starved_more base taken more spoken session s = record {
  lines = s.lines;
  replies = s.replies;
  first = first_more taken more s.lines s.first;
  halts = s.halts;
  untold = s.untold;
  texts = s.texts;
}

-- the same, in the middle of some bytes
pub starved_within : {C : Type 0} {rests : Telling C} (base : Base) (taken bytes spoken : List ℕ) (i byte : ℕ) (session : Session C) → i < length bytes → byte ≡ get_or bytes i 0
    → Starved rests base ((taken ++ take i bytes) ++ byte ∷ []) spoken session → Starved rests base (taken ++ bytes) spoken session
starved_within {rests = rests} base taken bytes spoken i byte session lt is s =
    subst (λ (l : List ℕ). Starved rests base l spoken session) whole (starved_more base ((taken ++ take i bytes) ++ byte ∷ []) (drop (i + 1) bytes) spoken session s)
  where
    whole : ((taken ++ take i bytes) ++ byte ∷ []) ++ drop (i + 1) bytes ≡ taken ++ bytes
    whole = ap (λ (l : List ℕ). l ++ drop (i + 1) bytes) (append_assoc taken (take i bytes) (byte ∷ []) ∙ ap (λ (b : ℕ). taken ++ (take i bytes ++ b ∷ [])) is
        ∙ ap (λ (l : List ℕ). taken ++ l) (sym (take_at_read bytes i 0 lt).1))
        ∙ append_assoc taken (take (i + 1) bytes) (drop (i + 1) bytes) ∙ ap (λ (l : List ℕ). taken ++ l) (take-append-drop (i + 1) bytes)
