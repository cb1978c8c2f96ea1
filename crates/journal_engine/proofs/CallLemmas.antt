-- What the calls without a device leave.
use Rattle.std.proofs.Common.{◌≡◌, ℕ, Option, Some, None, List, [], ◌∷◌, Result, Ok, Err, OnOk, Bool, refl, sym, ap, subst, ◌∙◌}
use Rattle.std.specs.Prelude.{OnErr}
use Rattle.sql_value.specs.declared.value.Value.{Value}
use Rattle.row_format.specs.declared.schema.Schema.{Schema}
use Rattle.log_tables.specs.declared.gist.Gist.{Gist}
use Rattle.redo_journal.specs.declared.journal.Journal.{Journal}
use Rattle.engine_api.specs.declared.fault.Code.{Code}
use Rattle.engine_api.specs.declared.fault.EngineFault.{EngineFault}
use Rattle.engine_api.specs.declared.fault.EngineFault.TheVariants.{Code as code, Device, NotAVolume, Memory}
use Rattle.engine_api.specs.States.{EngineState}
use Rattle.engine_api.specs.Live.{live_schema, insert_into, with_insert, wrote_state}
use Rattle.engine_api.specs.Calls.{IsDevice, IsRefused, AnswersAlone, AnswersOnly, MayCome, MayComeAlone}
use Rattle.live_tables.specs.Live.{Adds}
use Rattle.journal_engine.specs.Engine.{Journaled, CanBeSpelt, IsWell, StandsFor}

-- What is always so of the fields is so of what is told.
pub well_of : (first : ℕ) (journal : Option Journal) (state : EngineState) (name soname : List ℕ) (e : Journaled) → record { name = name; soname = soname; first_file = first; journal = journal; live = state } ≡ e → IsWell first journal state
    → IsWell e.first_file e.journal e.live
well_of first journal state name soname e is well = subst (λ (v : Journaled). IsWell v.first_file v.journal v.live) is well

-- one change more
pub well_next : (first : ℕ) (journal : Option Journal) (old next : EngineState) → next.gist ≡ old.gist → next.kept ≡ old.kept → CanBeSpelt next → IsWell first journal old → IsWell first journal next
well_next first journal old next gist kept spelt well = record {
  files_fit = well.files_fit;
  stands = subst (λ (g : Gist). StandsFor first journal g) (sym gist) well.stands;
  alone = kept ∙ well.alone ∙ ap (λ (g : Gist). g ∷ []) (sym gist);
  spelt = spelt;
}

pub well_added : (first : ℕ) (journal : Option Journal) (old next new : EngineState) (result : Result (Unit {0}) EngineFault) → Adds result next old new → IsWell first journal old → IsWell first journal next → IsWell first journal new
well_added first journal old next new (Ok v) adds well added = subst (λ (s : EngineState). IsWell first journal s) (sym adds.ok) added
well_added first journal old next new (Err f) adds well added = subst (λ (s : EngineState). IsWell first journal s) (sym adds.none) well

pub well_either : (first : ℕ) (journal : Option Journal) (old next new : EngineState) (result : Result (Unit {0}) EngineFault) → OnOk result (new ≡ next) → OnErr result (new ≡ old)
    → IsWell first journal old → IsWell first journal next → IsWell first journal new
well_either first journal old next new (Ok v) ok none well added = subst (λ (s : EngineState). IsWell first journal s) (sym ok) added
well_either first journal old next new (Err f) ok none well added = subst (λ (s : EngineState). IsWell first journal s) (sym none) well

-- a row written leaves the gist, and as which gists an image reads
insert_gist : (txn : ℕ) (name : List ℕ) (row : List Value) (o : Option Schema) (state : EngineState) → (with_insert txn (insert_into name o row) state).gist ≡ state.gist
insert_gist txn name row None state = refl
insert_gist txn name row (Some schema) state = refl

insert_kept : (txn : ℕ) (name : List ℕ) (row : List Value) (o : Option Schema) (state : EngineState) → (with_insert txn (insert_into name o row) state).kept ≡ state.kept
insert_kept txn name row None state = refl
insert_kept txn name row (Some schema) state = refl

pub wrote_gist : (txn : ℕ) (name : List ℕ) (row : List Value) (state : EngineState) → (wrote_state txn name row state).gist ≡ state.gist
wrote_gist txn name row state = insert_gist txn name row (live_schema name state) state

pub wrote_kept : (txn : ℕ) (name : List ℕ) (row : List Value) (state : EngineState) → (wrote_state txn name row state).kept ≡ state.kept
wrote_kept txn name row state = insert_kept txn name row (live_schema name state) state

-- What was added or not leaves the gist, and as which gists an image reads.
pub added_gist : (old next new : EngineState) (result : Result (Unit {0}) EngineFault) → Adds result next old new → next.gist ≡ old.gist → new.gist ≡ old.gist
added_gist old next new (Ok v) adds same = ap (λ (s : EngineState). s.gist) adds.ok ∙ same
added_gist old next new (Err f) adds same = ap (λ (s : EngineState). s.gist) adds.none

pub added_kept : (old next new : EngineState) (result : Result (Unit {0}) EngineFault) → Adds result next old new → next.kept ≡ old.kept → new.kept ≡ old.kept
added_kept old next new (Ok v) adds same = ap (λ (s : EngineState). s.kept) adds.ok ∙ same
added_kept old next new (Err f) adds same = ap (λ (s : EngineState). s.kept) adds.none

pub not_added : (old next new : EngineState) (result : Result (Unit {0}) EngineFault) → Adds result next old new → IsRefused result → new ≡ old
not_added old next new (Ok v) adds refused = absurd refused
not_added old next new (Err f) adds refused = adds.none

-- a call without a device blames none
pub blames_none : {T : Type 0} (codes : List Code) (result : Result T EngineFault) → AnswersAlone codes result → IsDevice result → ⊥
blames_none codes (Ok v) answers device = let e = device in cc
blames_none {T} codes (Err f) answers device = of f device (answers f refl)
  where
    of : (g : EngineFault) → IsDevice {T = T} (Err g) → MayComeAlone codes g → ⊥
    of (code c) is may = let e = is in cc
    of Device is may = may
    of (NotAVolume n) is may = may
    of Memory is may = let e = is in cc

pub answers_also : {T : Type 0} (codes : List Code) (files : List ℕ) (told : Bool) (result : Result T EngineFault) → AnswersAlone codes result → AnswersOnly codes files told result
answers_also codes files told result answers fault is = wider files fault (answers fault is)
  where
    wider : (fs : List ℕ) (f : EngineFault) → MayComeAlone codes f → MayCome codes fs told f
    wider [] (code c) may = may
    wider (n ∷ fs) (code c) may = may
    wider [] Device may = absurd may
    wider (n ∷ fs) Device may = absurd may
    wider fs (NotAVolume n) may = absurd may
    wider [] Memory may = tt
    wider (n ∷ fs) Memory may = tt
