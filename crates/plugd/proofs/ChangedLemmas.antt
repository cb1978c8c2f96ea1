-- What the changes of one transaction make of an engine that had nothing pending.
use Rattle.std.proofs.Common.{◌≡◌, ℕ, ◌<◌, List, [], ◌∷◌, ◌++◌, length, None, Some, Bool, refl, sym, ◌∙◌, ap, arith, append_assoc}
use Rattle.std.specs.Prelude.{cond, not}
use Rattle.std.proofs.lemmas.Bool.Decides.{Decides-eqb}
use Rattle.std.proofs.lemmas.List.{append-nil}
use Rattle.row_format.specs.declared.change.Change.{Change}
use Rattle.log_tables.specs.declared.gist.Gist.{Gist}
use Rattle.engine_api.specs.States.{EngineState, Pending, begun_state, changes_of, with_change}
use Rattle.sql_exec.specs.Changes.{with_changes}

-- what a transaction that is not prepared has pending
abbrev pending_with : ℕ → List Change → Pending
pending_with txn changes = record { txn = txn; under = None; changes = changes }

-- an engine with this gist, in which only these changes of a transaction are pending
abbrev pub changed_state : ℕ → List Change → Gist → EngineState
changed_state txn changes gist = record { gist = gist; pending = pending_with txn changes ∷ []; kept = gist ∷ [] }

one_more : (txn : ℕ) (done : List Change) (it : Change) (gist : Gist) → with_change txn it (changed_state txn done gist) ≡ changed_state txn (done ++ it ∷ []) gist
one_more txn done it gist =
    ap (λ (b : Bool). record {
      gist = gist;
      pending = cond (not b) (pending_with txn done ∷ []) [] ++ pending_with txn (changes_of (cond b (Some (pending_with txn done)) None) ++ it ∷ []) ∷ [];
      kept = gist ∷ [];
    }) ((Decides-eqb txn txn).1 refl)

more : (txn : ℕ) (done rest : List Change) (gist : Gist) → with_changes txn rest (changed_state txn done gist) ≡ changed_state txn (done ++ rest) gist
more txn done [] gist = ap (λ (l : List Change). changed_state txn l gist) (sym (append-nil done))
more txn done (it ∷ rest) gist =
    ap (with_changes txn rest) (one_more txn done it gist) ∙ more txn (done ++ it ∷ []) rest gist ∙ ap (λ (l : List Change). changed_state txn l gist) (append_assoc done (it ∷ []) rest)

-- Changes of a transaction, in an engine that had nothing pending: they alone are pending.
pub with_changes-begun : (txn : ℕ) (changes : List Change) (gist : Gist) → 0 < length changes → with_changes txn changes (begun_state gist) ≡ changed_state txn changes gist
with_changes-begun txn [] gist some = absurd (omega (arith, some))
with_changes-begun txn (it ∷ rest) gist some = more txn (it ∷ []) rest gist
