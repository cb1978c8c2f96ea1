-- How a run of device calls goes on.
use Rattle.std.proofs.Common.{◌≡◌, ◌≢◌, ◌⊎◌, inl, inr, ⊎_elim, ℕ, ◌<◌, ◌≤◌, Result, Ok, IsTrue, refl, sym, ◌∙◌, subst, arith}
use Rattle.disk_model.specs.declared.storage.Failed.{Failed}
use Rattle.disk_model.specs.File.{File}
use Rattle.disk_model.specs.Disk.{Disk, now, Does, Called, Keeps, Only}
use Rattle.fault_counts.specs.Rose.{last}

-- before the first call
pub started : (d : Disk) (P : (ℕ → File) → Type 0) → P (now d) → Keeps d d P
started d P here = record {
  later = omega arith;
  past = λ m le. refl;
  each = λ m low high. let same : m ≡ d.calls = omega arith in subst (λ (k : ℕ). P (d.at k)) (sym same) here;
}

room_or_spent : (c : ℕ) → (c < last) ⊎ (last ≤ c)
room_or_spent c = grind arith

split : (c n : ℕ) → (c ≤ n) ⊎ (n < c)
split c n = grind arith

-- one call more
pub goes_on : {T : Type 0} (d₀ d₁ d₂ : Disk) (P : (ℕ → File) → Type 0) (file : ℕ) (step : File → File → Type 0) (result : Result T Failed)
    → IsTrue d₁.told → Keeps d₀ d₁ P → Called file step result d₁ d₂
    → (((f : ℕ) → f ≢ file → now d₂ f ≡ now d₁ f) → step (now d₁ file) (now d₂ file) ⊎ (now d₂ file ≡ now d₁ file) → P (now d₂)) → Keeps d₀ d₂ P
goes_on d₀ d₁ d₂ P file step result told so_far called here = record {
  later = omega (arith, so_far.later, called.later);
  past = λ m le. does.past m (omega (arith, so_far.later)) ∙ so_far.past m le;
  each = λ m low high. ⊎_elim (λ le. subst P (sym (does.past m le)) (so_far.each m low le)) (λ lt. newest m high lt) (split m d₁.calls);
}
  where
    does : Does file step result d₁ d₂
    does = called.does told

    newest : (m : ℕ) → m ≤ d₂.calls → d₁.calls < m → P (d₂.at m)
    newest m high lt =
        let same : m ≡ d₂.calls = ⊎_elim (λ room. omega (arith, called.counted room)) (λ spent. absurd (let none = (called.spent spent).0 in omega (arith, none))) (room_or_spent d₁.calls) in
        subst (λ (k : ℕ). P (d₂.at k)) (sym same) (here does.others (⊎_elim (λ did. inl did) (λ not. inr not.1) does.here))

-- one call more on the one file of a run
pub goes_on_file : {T : Type 0} (d₀ d₁ d₂ : Disk) (file : ℕ) (P : File → Type 0) (step : File → File → Type 0) (result : Result T Failed)
    → IsTrue d₁.told → Keeps d₀ d₁ (Only file (now d₀) P) → Called file step result d₁ d₂
    → (step (now d₁ file) (now d₂ file) → P (now d₂ file)) → Keeps d₀ d₂ (Only file (now d₀) P)
goes_on_file d₀ d₁ d₂ file P step result told so_far called here =
    let before = so_far.each d₁.calls so_far.later (omega arith) in
    goes_on d₀ d₁ d₂ (Only file (now d₀) P) file step result told so_far called
    (λ others did. (λ f not. others f not ∙ before.0 f not, ⊎_elim here (λ same. subst P (sym same) before.1) did))

-- two runs, one after the other
pub both : (d₀ d₁ d₂ : Disk) (P : (ℕ → File) → Type 0) → Keeps d₀ d₁ P → Keeps d₁ d₂ P → Keeps d₀ d₂ P
both d₀ d₁ d₂ P first second = record {
  later = omega (arith, first.later, second.later);
  past = λ m le. second.past m (omega (arith, first.later)) ∙ first.past m le;
  each = λ m low high. ⊎_elim (λ le. subst P (sym (second.past m le)) (first.each m low le)) (λ lt. second.each m (omega arith) high) (split m d₁.calls);
}

pub weaker : (old new : Disk) (P Q : (ℕ → File) → Type 0) → ((files : ℕ → File) → P files → Q files) → Keeps old new P → Keeps old new Q
weaker old new P Q gives run = record { later = run.later; past = run.past; each = λ m low high. gives (new.at m) (run.each m low high) }

-- a call that answered Ok made the step
pub done_ok : {T : Type 0} (d₀ d₁ : Disk) (file : ℕ) (step : File → File → Type 0) (v : T) → IsTrue d₀.told → Called {T = T} file step (Ok v) d₀ d₁ → step (now d₀ file) (now d₁ file)
done_ok d₀ d₁ file step v told called = ⊎_elim (λ did. did) (λ not. let is = not.0 in cc) (called.does told).here

-- what is told stays told
pub still_told : {T : Type 0} (d₀ d₁ : Disk) (file : ℕ) (step : File → File → Type 0) (result : Result T Failed) → IsTrue d₀.told → Called file step result d₀ d₁ → IsTrue d₁.told
still_told d₀ d₁ file step result told called = subst IsTrue (sym called.told) told
