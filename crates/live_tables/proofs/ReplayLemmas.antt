-- What was left alone, read back and committed, for the tests.
use Rattle.std.proofs.Common.{◌≡◌, ℕ, List, [], ◌∷◌, ◌++◌, Some, refl, sym, ap, subst, ◌∙◌, false}
use Rattle.std.specs.Prelude.{IsTrue}
use Rattle.row_format.specs.declared.change.Change.{Change}
use Rattle.log_tables.specs.declared.gist.Prepared.{Prepared}
use Rattle.log_tables.specs.Gists.{is_prepared, prepared_with, without_xid, after_prepare, after_commit}
use Rattle.engine_api.specs.States.{EngineState, begun_state, with_gist}
use Rattle.engine_api.specs.Live.{IsLeft}
use Rattle.live_tables.specs.Alone.{IsIdle}

-- what is left
abbrev pub left_of : List Change → Prepared
left_of changes = record { xid = 9; changes = changes }

pub left_fresh : (s : EngineState) → IsIdle s → is_prepared 9 s.gist.prepared ≡ false
left_fresh s idle = ap (is_prepared 9) idle.unprepared

prepared_is : (cs : List Change) (s new : EngineState) → IsIdle s → new ≡ begun_state (after_prepare (left_of cs) s.gist) → new.gist.prepared ≡ left_of cs ∷ []
prepared_is cs s new idle is = ap (λ (x : EngineState). x.gist.prepared) is ∙ ap (λ (l : List Prepared). l ++ left_of cs ∷ []) idle.unprepared

pub left_alone : (cs : List Change) (s new : EngineState) → IsIdle s → new ≡ begun_state (after_prepare (left_of cs) s.gist) → IsLeft 9 new
left_alone cs s new idle is = (
  subst (λ (l : List Prepared). IsTrue (is_prepared 9 l)) (sym (prepared_is cs s new idle is)) refl,
  ap (λ (x : EngineState). Rattle.std.specs.List.list_any (Rattle.engine_api.specs.Live.has_under 9) x.pending) is,
)

pub idle_again : (cs : List Change) (s new out : EngineState) (number : ℕ) → IsIdle s → new ≡ begun_state (after_prepare (left_of cs) s.gist)
    → ((it : Prepared) → prepared_with 9 new.gist.prepared ≡ Some it → out ≡ with_gist (after_commit it number new.gist) new) → IsIdle out
idle_again cs s new out number idle is told =
    let all = prepared_is cs s new idle is in
    let o = told (left_of cs) (ap (prepared_with 9) all) in
    record {
      nothing = ap (λ (x : EngineState). x.pending) o ∙ ap (λ (x : EngineState). x.pending) is;
      unprepared = ap (λ (x : EngineState). x.gist.prepared) o ∙ ap (without_xid 9) all;
    }
