-- Rows that go into an engine, call by call.
use Rattle.std.proofs.Common.{◌≡◌, ◌≤◌, ◌<◌, ◌+◌, ℕ, List, length, take, get_or, Result, Ok, false, refl, ap, subst, ◌∙◌, take_all}
use Rattle.std.specs.Prelude.{Err, IsErrAnd}
use Rattle.disk_model.specs.File.{File}
use Rattle.disk_model.specs.Disk.{Disk}
use Rattle.sql_value.specs.declared.value.Value.{Value}
use Rattle.row_format.specs.declared.schema.Schema.{Schema}
use Rattle.engine_api.specs.States.{Kind, EngineState, with_change}
use Rattle.engine_api.specs.Reads.{Reading}
use Rattle.engine_api.specs.Calls.{IsSame}
use Rattle.engine_api.specs.Live.{is_under}
use Rattle.sql_exec.specs.declared.fault.ExecFault.{ExecFault}
use Rattle.sql_exec.specs.CarriesOut.{CarriesOut}
use Rattle.sql_exec.specs.Changes.{with_changes}
use Rattle.sql_exec.specs.Inserts.{insert_of, inserts_of}
use Rattle.sql_exec.proofs.CarryLemmas.{carry_on, fails_so, keeps_same, refused_so}
use Rattle.sql_exec.proofs.RowsLemmas.{kept_still, state_next}
use Rattle.sql_exec.proofs.RunLemmas.{same_goes}

-- the engine with so many of the rows, from the first
abbrev pub with_rows : ℕ → List ℕ → Schema → List (List Value) → EngineState → EngineState
with_rows txn table schema rows s = with_changes txn (inserts_of table schema rows) s

-- A row is not put in.
pub rows_fail : (txn : ℕ) (table : List ℕ) (schema : Schema) (rows : List (List Value)) (i : ℕ) (row : List Value) (kind kind_mid : Kind) (reading reading_mid : Reading)
    (outer : Result (Unit {0}) ExecFault) (fault : ExecFault) (s mid new : EngineState) (held holds : List File → Type 0) (a b d : Disk) → is_under txn s ≡ false
    → CarriesOut {T = Unit {0}} kind reading (Ok tt) (with_rows txn table schema (take i rows) s) s mid held a b → IsSame kind kind_mid reading reading_mid
    → CarriesOut {T = Unit {0}} kind_mid reading_mid (Err fault) (with_change txn (insert_of table schema row) mid) mid new holds b d → IsErrAnd outer (λ e. e ≡ fault)
    → CarriesOut kind reading outer (with_rows txn table schema rows s) (with_rows txn table schema (take i rows) s) new holds a d
rows_fail txn table schema rows i row kind kind_mid reading reading_mid outer fault s mid new held holds a b d free first same second tells =
    let done = with_rows txn table schema (take i rows) s in
    let all = with_rows txn table schema rows s in
    let kept_done = kept_still txn (inserts_of table schema (take i rows)) s free in
    let kept_all = kept_still txn (inserts_of table schema rows) s free in
    let kept_mid : mid.kept ≡ s.kept = ap (λ (e : EngineState). e.kept) first.ok ∙ kept_done in
    carry_on kind kind_mid reading reading_mid (tt {0}) (Err fault) outer done s mid (with_change txn (insert_of table schema row) mid) mid all done new held holds a b d first same second
    (fails_so outer fault all new tells) (λ is. second.refused (refused_so (Unit {0}) outer fault tells is) ∙ first.ok) (same_goes (Err fault) outer fault refl tells)
    (keeps_same s done done all s refl kept_done kept_done kept_all)
    (keeps_same mid (with_change txn (insert_of table schema row) mid) done all s kept_mid kept_mid kept_done kept_all)

-- A row is put in.
pub rows_next : (txn : ℕ) (table : List ℕ) (schema : Schema) (rows : List (List Value)) (i : ℕ) (row : List Value) (kind kind_mid : Kind) (reading reading_mid : Reading)
    (s mid new : EngineState) (held holds : List File → Type 0) (a b d : Disk) → i < length rows → row ≡ get_or rows i row → is_under txn s ≡ false
    → CarriesOut {T = Unit {0}} kind reading (Ok tt) (with_rows txn table schema (take i rows) s) s mid held a b → IsSame kind kind_mid reading reading_mid
    → CarriesOut {T = Unit {0}} kind_mid reading_mid (Ok tt) (with_change txn (insert_of table schema row) mid) mid new holds b d
    → CarriesOut {T = Unit {0}} kind reading (Ok tt) (with_rows txn table schema (take (i + 1) rows) s) s new holds a d
rows_next txn table schema rows i row kind kind_mid reading reading_mid s mid new held holds a b d within at free first same second =
    let done = with_rows txn table schema (take i rows) s in
    let next = with_rows txn table schema (take (i + 1) rows) s in
    let kept_done = kept_still txn (inserts_of table schema (take i rows)) s free in
    let kept_next = kept_still txn (inserts_of table schema (take (i + 1) rows)) s free in
    let kept_mid : mid.kept ≡ s.kept = ap (λ (e : EngineState). e.kept) first.ok ∙ kept_done in
    carry_on kind kind_mid reading reading_mid (tt {0}) (Ok (tt {0})) (Ok (tt {0})) done s mid (with_change txn (insert_of table schema row) mid) mid next s new held holds a b d first same second
    (second.ok ∙ ap (with_change txn (insert_of table schema row)) first.ok ∙ state_next txn table schema rows i row s within at)
    (λ is. absurd is) ((λ on. tt), (λ is. is))
    (keeps_same s done s next s refl kept_done refl kept_next)
    (keeps_same mid (with_change txn (insert_of table schema row) mid) s next s kept_mid kept_mid refl kept_next)

-- All rows are put in.
pub rows_end : (txn : ℕ) (table : List ℕ) (schema : Schema) (rows : List (List Value)) (i : ℕ) (kind : Kind) (reading : Reading) (s mid : EngineState) (held : List File → Type 0) (a b : Disk)
    → length rows ≤ i → CarriesOut {T = Unit {0}} kind reading (Ok tt) (with_rows txn table schema (take i rows) s) s mid held a b
    → CarriesOut {T = Unit {0}} kind reading (Ok tt) (with_rows txn table schema rows s) (with_rows txn table schema (take 0 rows) s) mid held a b
rows_end txn table schema rows i kind reading s mid held a b le first =
    subst (λ (xs : List (List Value)). CarriesOut {T = Unit {0}} kind reading (Ok tt) (with_rows txn table schema xs s) s mid held a b) (take_all i rows le) first
