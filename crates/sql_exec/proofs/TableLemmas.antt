-- One table of a list becomes another.
use Rattle.std.proofs.Common.{◌≡◌, ◌+◌, ℕ, List, [], ◌∷◌, ◌++◌, Some, None, true, false, sym, ap, ◌∙◌, inl, inr, arith}
use Rattle.std.proofs.lemmas.List.Sums.{sum_by-cons}
use Rattle.log_tables.specs.declared.table.Table.{Table}
use Rattle.log_tables.specs.Tables.{table_named, at_table, is_named}
use Rattle.log_tables.proofs.PartLemmas.{cases, cond_true, cond_false}
use Rattle.engine_api.specs.Live.{live_bytes, table_bytes}

-- the table that was found, or one behind it
here_is : (n : List ℕ) (it t : Table) (rest : List Table) → is_named n it ≡ true → table_named n (it ∷ rest) ≡ Some t → it ≡ t
here_is n it t rest named found = same (sym (cond_true (is_named n it) (Some it) (table_named n rest) named) ∙ found)
  where
    same : Some it ≡ Some t → it ≡ t
    same e = cc

later_is : (n : List ℕ) (it t : Table) (rest : List Table) → is_named n it ≡ false → table_named n (it ∷ rest) ≡ Some t → table_named n rest ≡ Some t
later_is n it t rest other found = sym (cond_false (is_named n it) (Some it) (table_named n rest) other) ∙ found

-- The table of this name becomes another of its name.
pub found_changed : (n : List ℕ) (f : Table → List Table) (t u : Table) (ts : List Table) → table_named n ts ≡ Some t → f t ≡ u ∷ [] → u.definition ≡ t.definition
    → table_named n (at_table n f ts) ≡ Some u
found_changed n f t u [] found makes same = absurd (none found)
  where
    none : None ≡ Some t → ⊥
    none e = cc
found_changed n f t u (it ∷ rest) found makes same = elim (cases (is_named n it)) [
  | inl named ↦
      let is = here_is n it t rest named found in
      ap (table_named n) (cond_true (is_named n it) (f it ++ rest) (it ∷ at_table n f rest) named ∙ ap (λ x. x ++ rest) (ap f is ∙ makes))
      ∙ cond_true (is_named n u) (Some u) (table_named n rest) (named_as n it u named (same ∙ ap (λ (x : Table). x.definition) (sym is)))
  | inr other ↦
      ap (table_named n) (cond_false (is_named n it) (f it ++ rest) (it ∷ at_table n f rest) other)
      ∙ cond_false (is_named n it) (Some it) (table_named n (at_table n f rest)) other
      ∙ found_changed n f t u rest (later_is n it t rest other found) makes same
]
  where
    named_as : (n : List ℕ) (it u : Table) → is_named n it ≡ true → u.definition ≡ it.definition → is_named n u ≡ true
    named_as n it u named same = cc

bytes_first : (it : Table) (rest : List Table) → live_bytes (it ∷ rest) ≡ table_bytes it + live_bytes rest
bytes_first it rest = sum_by-cons table_bytes it rest

-- Its bytes go, and those of the other come.
pub bytes_changed : (n : List ℕ) (f : Table → List Table) (t u : Table) (ts : List Table) → table_named n ts ≡ Some t → f t ≡ u ∷ []
    → live_bytes (at_table n f ts) + table_bytes t ≡ live_bytes ts + table_bytes u
bytes_changed n f t u [] found makes = absurd (none found)
  where
    none : None ≡ Some t → ⊥
    none e = cc
bytes_changed n f t u (it ∷ rest) found makes = elim (cases (is_named n it)) [
  | inl named ↦
      let is = here_is n it t rest named found in
      let now : live_bytes (at_table n f (it ∷ rest)) ≡ table_bytes u + live_bytes rest =
      ap live_bytes (cond_true (is_named n it) (f it ++ rest) (it ∷ at_table n f rest) named ∙ ap (λ x. x ++ rest) (ap f is ∙ makes)) ∙ bytes_first u rest in
      let was : live_bytes (it ∷ rest) ≡ table_bytes t + live_bytes rest = bytes_first it rest ∙ ap (λ (x : Table). table_bytes x + live_bytes rest) is in
      omega (arith, now, was)
  | inr other ↦
      let now : live_bytes (at_table n f (it ∷ rest)) ≡ table_bytes it + live_bytes (at_table n f rest) =
      ap live_bytes (cond_false (is_named n it) (f it ++ rest) (it ∷ at_table n f rest) other) ∙ bytes_first it (at_table n f rest) in
      let was = bytes_first it rest in
      let more = bytes_changed n f t u rest (later_is n it t rest other found) makes in
      omega (arith, now, was, more)
]
