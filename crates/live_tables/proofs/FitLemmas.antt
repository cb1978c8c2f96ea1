-- Whether changes apply one after the other, told one change at a time.
use Rattle.std.proofs.Common.{◌≡◌, ℕ, ◌+◌, ◌<◌, List, [], ◌∷◌, ◌++◌, length, get_or, take, drop, Bool, true, false, ◌&&◌, refl, sym, ap, ◌∙◌}
use Rattle.std.proofs.lemmas.Bool.{and_from}
use Rattle.std.proofs.lemmas.List.{take_more, drop_more, take-append-drop}
use Rattle.row_format.specs.declared.change.Change.{Change}
use Rattle.log_tables.specs.declared.table.Table.{Table}
use Rattle.log_tables.specs.Changes.{after_change, after_changes, all_apply, applies}
use Rattle.log_tables.proofs.FoldLemmas.{after_changes-append}
use Rattle.live_tables.proofs.FoldLemmas.{all_apply_append}

-- Two lists that apply one behind the other apply as one.
pub both_apply : (cs ds : List Change) (ts : List Table) → all_apply cs ts ≡ true → all_apply ds (after_changes cs ts) ≡ true → all_apply (cs ++ ds) ts ≡ true
both_apply cs ds ts first second = all_apply_append cs ds ts ∙ and_from (all_apply cs ts) (all_apply ds (after_changes cs ts)) first second

-- What was told of the change at a place, behind those before it.
told_there : (done changes : List Change) (ts : List Table) (i : ℕ) (c : Change) (told : Bool) → c ≡ get_or changes i c
    → all_apply done ts ≡ true → all_apply (take i changes) (after_changes done ts) ≡ true
    → (all_apply (done ++ take i changes) ts ≡ true → told ≡ applies c (after_changes (done ++ take i changes) ts))
    → told ≡ applies (get_or changes i c) (after_changes (take i changes) (after_changes done ts))
told_there done changes ts i c told at first so_far tells =
    tells (both_apply done (take i changes) ts first so_far)
    ∙ ap (applies c) (after_changes-append done (take i changes) ts)
    ∙ ap (λ (x : Change). applies x (after_changes (take i changes) (after_changes done ts))) at

-- One change more applies.
pub fit_more : (done changes : List Change) (ts : List Table) (i : ℕ) (c : Change) → i < length changes → c ≡ get_or changes i c
    → all_apply done ts ≡ true → all_apply (take i changes) (after_changes done ts) ≡ true
    → (all_apply (done ++ take i changes) ts ≡ true → true ≡ applies c (after_changes (done ++ take i changes) ts))
    → all_apply (take (i + 1) changes) (after_changes done ts) ≡ true
fit_more done changes ts i c within at first so_far tells =
    let base = after_changes done ts in
    let next = get_or changes i c in
    let here = sym (told_there done changes ts i c true at first so_far tells) in
    ap (λ l. all_apply l base) (take_more changes i c within)
    ∙ both_apply (take i changes) (next ∷ []) base so_far (and_from (applies next (after_changes (take i changes) base)) true here refl)

-- The first that does not apply tells that not all do.
pub fit_stops : (done changes : List Change) (ts : List Table) (i : ℕ) (c : Change) → i < length changes → c ≡ get_or changes i c
    → all_apply done ts ≡ true → all_apply (take i changes) (after_changes done ts) ≡ true
    → (all_apply (done ++ take i changes) ts ≡ true → false ≡ applies c (after_changes (done ++ take i changes) ts))
    → false ≡ all_apply changes (after_changes done ts)
fit_stops done changes ts i c within at first so_far tells =
    let base = after_changes done ts in
    let next = get_or changes i c in
    let there = after_changes (take i changes) base in
    let here = told_there done changes ts i c false at first so_far tells in
    sym
    (ap (λ l. all_apply l base) (sym (take-append-drop i changes) ∙ ap (λ l. take i changes ++ l) (drop_more changes i c within))
    ∙ all_apply_append (take i changes) (next ∷ drop (i + 1) changes) base
    ∙ ap (λ b. b && (applies next there && all_apply (drop (i + 1) changes) (after_change next there))) so_far
    ∙ ap (λ b. b && all_apply (drop (i + 1) changes) (after_change next there)) (sym here))
