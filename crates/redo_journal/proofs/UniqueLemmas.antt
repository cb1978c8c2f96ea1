-- An event is that of one record at most, of those that have their form and those that are allowed.
use Rattle.std.proofs.Common.{◌≡◌, ℕ, ◌<◌, ◌^◌, List, [], ◌++◌, Option, Some, None, refl, sym, ◌∙◌, ap, arith}
use Rattle.std.proofs.lemmas.List.{append-nil}
use Rattle.sql_value.specs.declared.value.Value.{Value}
use Rattle.frame_codec.specs.Bytes.{le64}
use Rattle.frame_codec.specs.Frame.{Event}
use Rattle.frame_codec.proofs.FrameLemmas.{le64_same}
use Rattle.row_format.specs.declared.schema.Schema.{Schema}
use Rattle.row_format.specs.declared.change.Change.{Change}
use Rattle.row_format.specs.Schemas.{IsSchema}
use Rattle.row_format.specs.Spelling.{counted, schema_spelling, row_image}
use Rattle.binlog_events.specs.Items.{list_spelling, AreListed}
use Rattle.row_format.proofs.LawLemmas.{one_name, one_schema, one_row}
use Rattle.binlog_events.proofs.LawLemmas.{one_list}
use Rattle.log_tables.specs.declared.table.Definition.{Definition}
use Rattle.log_tables.specs.declared.table.Table.{Table}
use Rattle.log_tables.specs.declared.gist.Prepared.{Prepared}
use Rattle.log_tables.specs.Tables.{table_named}
use Rattle.redo_journal.specs.declared.record.Record.{Record}
use Rattle.redo_journal.specs.declared.record.Record.TheVariants.{SnapTable, SnapRow, SnapLast, Prepare, Commit, Rollback}
use Rattle.redo_journal.specs.Records.{record_event}
use Rattle.redo_journal.specs.Replays.{Replay, IsDefinition, IsRowFor, CanCommit, Allows}
use Rattle.redo_journal.specs.Index.{IsFitting, HasForm}
use Rattle.redo_journal.proofs.SoundLemmas.{IsSound, found_schema}
use Rattle.redo_journal.proofs.TakeLemmas.{kind_of, one_number}

-- the bodies of events that are one
bodies : (a b : Event) → a ≡ b → a.body ≡ b.body
bodies a b is = ap (λ (e : Event). e.body) is

one_definition : (a b : Definition) → IsDefinition a → IsDefinition b
    → counted a.table ++ (counted a.engine ++ schema_spelling a.schema) ≡ counted b.table ++ (counted b.engine ++ schema_spelling b.schema) → a ≡ b
one_definition a b is_a is_b is =
    let first = one_name a.table b.table (counted a.engine ++ schema_spelling a.schema) (counted b.engine ++ schema_spelling b.schema) is in
    let second = one_name a.engine b.engine (schema_spelling a.schema) (schema_spelling b.schema) first.1 in
    let third = one_schema a.schema b.schema [] [] is_a.schema is_b.schema (append-nil (schema_spelling a.schema) ∙ second.1 ∙ sym (append-nil (schema_spelling b.schema))) in
    ap (λ (n : List ℕ). record { table = n; engine = a.engine; schema = a.schema }) first.0
    ∙ ap (λ (n : List ℕ). record { table = b.table; engine = n; schema = a.schema }) second.0
    ∙ ap (λ (s : Schema). record { table = b.table; engine = b.engine; schema = s }) third.0

one_prepared : (a b : Prepared) → a.xid < 2 ^ 64 → b.xid < 2 ^ 64 → AreListed a.changes → AreListed b.changes
    → le64 a.xid ++ list_spelling a.changes ≡ le64 b.xid ++ list_spelling b.changes → a ≡ b
one_prepared a b small_a small_b listed_a listed_b is =
    let first = one_number a.xid b.xid (list_spelling a.changes) (list_spelling b.changes) small_a small_b is in
    let second = one_list a.changes b.changes [] [] listed_a listed_b (append-nil (list_spelling a.changes) ∙ first.1 ∙ sym (append-nil (list_spelling b.changes))) in
    ap (λ (n : ℕ). record { xid = n; changes = a.changes }) first.0 ∙ ap (λ (l : List Change). record { xid = b.xid; changes = l }) second.0

-- two rows of the table that was found
row_same : (row other : List Value) (found : Option Table) → ((it : Table) → found ≡ Some it → IsSchema it.definition.schema) → IsFitting row found → IsRowFor other found
    → row_image row ≡ row_image other → row ≡ other
row_same row other None schema form is_row is = absurd is_row
row_same row other (Some it) schema form is_row is =
    (one_row it.definition.schema row other [] [] (schema it refl) form is_row.0 (append-nil (row_image row) ∙ is ∙ sym (append-nil (row_image other)))).0

number_small : (number : ℕ) (replay : Replay) (found : Option Prepared) → CanCommit number replay.gist found → number < 2 ^ 64
number_small number replay None can = absurd can
number_small number replay (Some it) can = can.1

one_commit : (x n y m : ℕ) → x < 2 ^ 64 → n < 2 ^ 64 → y < 2 ^ 64 → m < 2 ^ 64 → le64 x ++ le64 n ≡ le64 y ++ le64 m → Commit x n ≡ Commit y m
one_commit x n y m small_x small_n small_y small_m is =
    let first = one_number x y (le64 n) (le64 m) small_x small_y is in
    ap (λ (k : ℕ). Commit k n) first.0 ∙ ap (λ (k : ℕ). Commit y k) (le64_same n m small_n small_m first.1)

one_snap_row : (replay : Replay) (table other : List ℕ) (row row' : List Value) → IsSound replay → IsFitting row (table_named table replay.gist.tables) → IsRowFor row' (table_named other replay.gist.tables)
    → counted table ++ row_image row ≡ counted other ++ row_image row' → SnapRow table row ≡ SnapRow other row'
one_snap_row replay table other row row' sound form is_row is =
    let first = one_name table other (row_image row) (row_image row') is in
    let of_other : IsFitting row (table_named other replay.gist.tables) = rw (← first.0) form in
    let rows = row_same row row' (table_named other replay.gist.tables) (λ found at. found_schema other replay.gist.tables found sound.tables at) of_other is_row first.1 in
    ap (λ (n : List ℕ). SnapRow n row) first.0 ∙ ap (λ (r : List Value). SnapRow other r) rows

-- a record that has its form and one that is allowed are one where they have one event
pub one_record : (replay : Replay) (it other : Record) → IsSound replay → HasForm replay it → Allows replay other → record_event it ≡ record_event other → it ≡ other
one_record replay (SnapTable a) (SnapTable b) sound form allowed is = ap SnapTable (one_definition a b form allowed.0 (ap (λ (e : Event). e.body) is))
one_record replay (SnapRow table row) (SnapRow other row') sound form allowed is = one_snap_row replay table other row row' sound form.1 allowed.1 (ap (λ (e : Event). e.body) is)
one_record replay (SnapLast n) (SnapLast m) sound form allowed is = ap SnapLast (le64_same n m form allowed.0 (ap (λ (e : Event). e.body) is))
one_record replay (Prepare a) (Prepare b) sound form allowed is = ap Prepare (one_prepared a b form.0 allowed.0 form.1 allowed.1 (ap (λ (e : Event). e.body) is))
one_record replay (Commit x n) (Commit y m) sound form allowed is =
    one_commit x n y m form.0 form.1 allowed.0 (number_small m replay _ allowed.1) (ap (λ (e : Event). e.body) is)
one_record replay (Rollback x) (Rollback y) sound form allowed is = ap Rollback (le64_same x y form allowed.0 (ap (λ (e : Event). e.body) is))
one_record replay it other sound form allowed is = absurd (omega (arith, ap kind_of is))
