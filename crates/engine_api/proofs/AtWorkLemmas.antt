-- Boxed engines that are all of one type, and of which each is at work.
use Rattle.std.proofs.Common.{◌⊎◌, ℕ, inl, inr, List, [], ◌∷◌, map}
use Rattle.std.specs.declared.dyn_box.DynBox.{DynBox}
use Rattle.disk_model.specs.File.{File}
use Rattle.engine_api.specs.Many.{Working, IsAtWork, AllAtWork}

-- what holds of each box of the one type holds of a box
at_type : {A : Type 0} {V : Unit {0} ⊎ ⊥ → Type 0} (P : DynBox (Unit {0} ⊎ ⊥) A V → Type 0) (b : DynBox (Unit {0} ⊎ ⊥) A V)
    → ((v : V (inl tt)) → P (record { ptr = b.ptr; vtable = inl tt; alloc = b.alloc; value = v }))
    → (type : Unit {0} ⊎ ⊥) (value : V type) → P (record { ptr = b.ptr; vtable = type; alloc = b.alloc; value = value })
at_type P b h (inl one) value = h value
at_type P b h (inr none) value = absurd none

pub of_one_type : {A : Type 0} {V : Unit {0} ⊎ ⊥ → Type 0} (P : DynBox (Unit {0} ⊎ ⊥) A V → Type 0)
    → ((b : DynBox (Unit {0} ⊎ ⊥) A V) (v : V (inl tt)) → P (record { ptr = b.ptr; vtable = inl tt; alloc = b.alloc; value = v }))
    → (b : DynBox (Unit {0} ⊎ ⊥) A V) → P b
of_one_type P h b = at_type P b (h b) b.vtable b.value

-- where each is at work, all are
pub all_at_work : {E : Type 0} (tells : E → Working) (files : ℕ → File) → ((e : E) → IsAtWork (tells e) files) → (engines : List E) → AllAtWork (map tells engines) files
all_at_work tells files each [] = tt
all_at_work tells files each (e ∷ rest) = (each e, all_at_work tells files each rest)
