-- How a run begins: its words, the engine on its shelf, and a session that has read nothing.
use Rattle.std.proofs.Common.{◌≡◌, ℕ, ◌≤◌, ◌<◌, ◌↔◌, get_or, codes, Bool, List, [], ◌∷◌, length, map, Some, IsTrue, refl, sym, ◌∙◌, ap, subst, arith}
use Rattle.std.proofs.lemmas.List.{append-nil}
use Rattle.std.specs.Prelude.{string_bytes, slice_index_or}
use Rattle.std.specs.declared.alloc.Global.{Global}
use Rattle.std.specs.declared.string.String.{String}
use Rattle.disk_model.specs.Disk.{Disk}
use Rattle.engine_api.specs.States.{Kind}
use Rattle.engine_api.specs.Many.{Working}
use Rattle.plugd.specs.declared.session.Session.{Session}
use Rattle.plugd.specs.Coordinator.{Telling}
use Rattle.plugd.specs.Run.{IsPlay, IsShelf, OnShelf}
use Rattle.plugd.specs.Serve.{Base, IsJournal}
use Rattle.plugd.specs.Session.{World, world, Reading}
use Rattle.plugd.proofs.LineLemmas.{splits_none}

-- it has read nothing yet
pub fresh : {C : Type 0} {serves : Telling C} (base : Base) (start : World) (disk : Disk) (core : C) (session : Session C) → serves core base [] [] → session.core ≡ core → session.front.items ≡ [] → session.replies.items ≡ []
    → Reading serves base start [] session (world disk start.left start.source_faults start.held start.sink_faults)
fresh {C} {serves} base start disk core session goes same front replies = record {
  spoken = [];
  standing = record { lines = []; rest = []; replies = []; splits = splits_none; front = front; serving = subst (λ (c : C). serves c base [] []) (sym same) goes; texts = sym replies };
  all_told = replies;
  took = record { told = λ xs is. (xs, is, refl) };
  put = record { told = λ xs is. is ∙ ap (λ (l : List ℕ). Some l) (sym (append-nil xs)) };
  faults = record { source = omega arith; sink = omega arith };
}

-- one word
pub one_word : (words : List (String Global)) (word other : String Global) (bytes : List ℕ) (b : Bool) → 1 ≤ length words → length words < 2 → word ≡ get_or words 0 other → bytes ≡ string_bytes word
    → (IsTrue b → bytes ≡ codes "play") → (bytes ≡ codes "play" → IsTrue b) → IsTrue b ↔ IsPlay words
one_word [] word other bytes b low high at is from to = absurd (omega (arith, low))
one_word (x ∷ y ∷ words) word other bytes b low high at is from to = absurd (omega (arith, high))
one_word (x ∷ []) word other bytes b low high at is from to =
    let same : bytes ≡ string_bytes x = is ∙ ap string_bytes at in
    ((λ holds. ap (λ (l : List ℕ). l ∷ []) (sym same ∙ from holds)), (λ all. to (let e = all in let one : string_bytes x ≡ codes "play" = cc in same ∙ one)))

-- there is one engine
pub has_one : {T : Type 0} (kind_of : T → Kind) (xs : List T) → IsShelf (map kind_of xs) → length xs ≡ 1
has_one kind_of [] one = absurd one
has_one kind_of (x ∷ []) one = refl
has_one kind_of (x ∷ y ∷ xs) one = absurd one

-- it is JOURNAL
pub is_journal : {T : Type 0} (kind_of : T → Kind) (xs : List T) (e : T) → IsShelf (map kind_of xs) → e ≡ slice_index_or xs 0 e → IsJournal (kind_of e)
is_journal kind_of [] e one is = absurd one
is_journal {T} kind_of (x ∷ []) e one is = subst (λ (v : T). IsJournal (kind_of v)) (sym is) one
is_journal kind_of (x ∷ y ∷ xs) e one is = absurd one

-- what holds of it holds on the shelf
pub on_first : {T : Type 0} (tells : T → Working) (kind_of : T → Kind) (xs : List T) (e : T) (P : Working → Type 0) → IsShelf (map kind_of xs) → e ≡ slice_index_or xs 0 e → P (tells e) → OnShelf (map tells xs) P
on_first tells kind_of [] e P one is p = absurd one
on_first {T} tells kind_of (x ∷ []) e P one is p = subst (λ (v : T). P (tells v)) is p
on_first tells kind_of (x ∷ y ∷ xs) e P one is p = absurd one

-- what holds of any engine holds on the shelf
pub on_any : {T : Type 0} (tells : T → Working) (kind_of : T → Kind) (xs : List T) (P : Working → Type 0) → IsShelf (map kind_of xs) → ((w : Working) → P w) → OnShelf (map tells xs) P
on_any tells kind_of [] P one each = absurd one
on_any tells kind_of (x ∷ []) P one each = each (tells x)
on_any tells kind_of (x ∷ y ∷ xs) P one each = absurd one

-- what follows for any engine follows on the shelf
pub on_law : (engines : List Working) (P Q : Working → Type 0) → ((w : Working) → P w → Q w) → OnShelf engines P → OnShelf engines Q
on_law [] P Q law on = absurd on
on_law (engine ∷ []) P Q law on = law engine on
on_law (engine ∷ other ∷ engines) P Q law on = absurd on
