-- JOURNAL in a box, on a shelf of its own.
use Rattle.std.proofs.Common.{◌≡◌, ◌⊎◌, inl, inr, ⊎_elim, ℕ, List, [], ◌∷◌, map, refl, sym, ◌∙◌, ap, subst, arith}
use Rattle.std.specs.Prelude.{Contains}
use Rattle.std.specs.declared.dyn_box.DynBox.{DynBox}
use denote.Param.Object.{Made}
use base.Stored.{Gv}
use Rattle.engine_api.specs.States.{Kind}
use Rattle.volume_rules.proofs.ListLemmas.{one_of_two}
use Rattle.journal_engine.specs.Engine.{Journaled, not_begun, kind_of}
use Rattle.plugd.specs.Run.{IsShelf}
use Rattle.plugd.specs.Serve.{IsJournal}

no_log : Contains {X = ℕ} (16 ∷ 17 ∷ []) 0 → ⊥
no_log here = ⊎_elim (λ first. omega (arith, first)) (λ second. omega (arith, second)) (one_of_two 16 17 0 here)

-- the kind of JOURNAL, in the files 16 and 17
is_journal_at : (kind : Kind) (e : Journaled) → kind ≡ kind_of e → e ≡ not_begun 16 → IsJournal kind
is_journal_at kind e same is = subst IsJournal (sym (same ∙ ap kind_of is)) (record { name = refl; library = refl; flags = refl; apart = λ here. no_log here })

-- the kind of a box that was made of a value
kind_made : {A : Type 0} {V : Unit {0} ⊎ ⊥ → Type 0} (kind_at : DynBox (Unit {0} ⊎ ⊥) A V → Kind) (b : DynBox (Unit {0} ⊎ ⊥) A V) (codes : (x : Unit {0} ⊎ ⊥) → V x → Gv) (vtable : Unit {0} ⊎ ⊥) (value : V vtable) (v : V (inl tt))
    → codes vtable value ≡ codes (inl tt) v → ((x y : V (inl tt)) → codes (inl tt) x ≡ codes (inl tt) y → x ≡ y)
    → kind_at (record { ptr = b.ptr; vtable = vtable; alloc = b.alloc; value = value }) ≡ kind_at (record { ptr = b.ptr; vtable = inl tt; alloc = b.alloc; value = v })
kind_made {V = V} kind_at b codes (inl one) value v same inj = ap (λ (w : V (inl tt)). kind_at (record { ptr = b.ptr; vtable = inl tt; alloc = b.alloc; value = w })) (inj value v same)
kind_made kind_at b codes (inr none) value v same inj = absurd none

-- a shelf with the one box that was made of JOURNAL
pub shelf_of_box : {A : Type 0} {V : Unit {0} ⊎ ⊥ → Type 0} (kind_at : DynBox (Unit {0} ⊎ ⊥) A V → Kind) (xs : List (DynBox (Unit {0} ⊎ ⊥) A V)) (b : DynBox (Unit {0} ⊎ ⊥) A V) (codes : (x : Unit {0} ⊎ ⊥) → V x → Gv) (code : V (inl tt) → Gv)
    (v : V (inl tt)) (e : Journaled) → xs ≡ b ∷ [] → Made {X = Unit {0} ⊎ ⊥} {Y = V (inl tt)} {F = V} codes code (inl tt) b.vtable b.value v → ((x : V (inl tt)) → codes (inl tt) x ≡ code x)
    → ((x y : V (inl tt)) → codes (inl tt) x ≡ codes (inl tt) y → x ≡ y) → kind_at (record { ptr = b.ptr; vtable = inl tt; alloc = b.alloc; value = v }) ≡ kind_of e → e ≡ not_begun 16
    → IsShelf (map kind_at xs)
shelf_of_box {A} {V} kind_at xs b codes code v e items made coded inj kind is =
    subst (λ (l : List (DynBox (Unit {0} ⊎ ⊥) A V)). IsShelf (map kind_at l)) (sym items)
    (is_journal_at (kind_at b) e (kind_made kind_at b codes b.vtable b.value v (made.codes ∙ sym (coded v)) inj ∙ kind) is)
