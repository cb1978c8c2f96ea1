-- What only this crate's own functions say. (This project.)
use Rattle.std.specs.Prelude.{◌≡◌, ◌≢◌, ℕ, List, [], ◌∷◌, ◌++◌}
use Rattle.schedule_text.specs.Lines.{step, run, settle, Asks}

-- the first list is a first part of the second
abbrev pub IsPrefix : List ℕ → List ℕ → Type 0
IsPrefix some all = (rest : List ℕ) × (all ≡ some ++ rest)

-- no space stands in it
abbrev pub HasNoSpace : List ℕ → Type 0
HasNoSpace [] = Unit {0}
HasNoSpace (byte ∷ bytes) = (byte ≢ 32) × HasNoSpace bytes

-- the bytes ask for nothing that begins with a word
pub record IsNoWord (bytes : List ℕ) : Type 0 where
  pub no_settle : Asks bytes settle → ⊥
  pub no_run : (session : ℕ) → Asks bytes (run session) → ⊥
  pub no_step : (session count : ℕ) → Asks bytes (step session count) → ⊥
