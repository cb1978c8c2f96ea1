-- Reading a record from its event: what was found, and where no record has the event.
use Rattle.std.proofs.Common.{◌≡◌, ℕ, ◌<◌, ◌^◌, List, [], ◌++◌, length, take, drop, get_or, Option, Some, None, IfSome, IfNone, refl, sym, ◌∙◌, ap, subst, arith, length-append}
use Rattle.std.specs.Int.{w64, from_le_bytes}
use Rattle.std.proofs.lemmas.List.{append-nil, take_at, take_all, drop_all}
use Rattle.std.proofs.lemmas.Nat.{le_bytes_8}
use Rattle.sql_value.specs.declared.value.Value.{Value}
use Rattle.sql_value.specs.Names.{IsName}
use Rattle.frame_codec.specs.Bytes.{le64}
use Rattle.frame_codec.specs.Frame.{Event}
use Rattle.frame_codec.proofs.FrameLemmas.{length-le64, le64_same, same_pieces}
use Rattle.row_format.specs.declared.schema.Schema.{Schema}
use Rattle.row_format.specs.declared.change.Change.{Change}
use Rattle.row_format.specs.Schemas.{IsSchema}
use Rattle.row_format.specs.Rows.{IsRow}
use Rattle.row_format.specs.Spelling.{Takes, Begins, counted, schema_spelling, row_image}
use Rattle.binlog_events.specs.Items.{list_spelling, AreListed}
use Rattle.row_format.specs.Absence.{NoName, NoSchema, NoRow}
use Rattle.binlog_events.specs.Items.{NoList}
use Rattle.row_format.proofs.LawLemmas.{one_name, one_schema, one_row}
use Rattle.binlog_events.proofs.LawLemmas.{one_list}
use Rattle.log_tables.specs.declared.table.Definition.{Definition}
use Rattle.log_tables.specs.declared.table.Table.{Table}
use Rattle.log_tables.specs.declared.gist.Prepared.{Prepared}
use Rattle.log_tables.specs.Tables.{table_named}
use Rattle.redo_journal.specs.declared.record.Record.{Record}
use Rattle.redo_journal.specs.declared.record.Record.TheVariants.{SnapTable, SnapRow, Prepare, Commit}
use Rattle.redo_journal.specs.Records.{record_event}
use Rattle.redo_journal.specs.Replays.{Replay, IsDefinition, IsRowFor, Allows}
use Rattle.redo_journal.specs.Index.{schema_found, IsFitting}
use Rattle.redo_journal.proofs.SoundLemmas.{IsSound, found_schema}
use Rattle.redo_journal.specs.Reading.{event_with, NoNumber, Tells}

-- ---- what an option's clause says of its value

pub some_is : {A : Type 0} (o : Option A) (v : A) (P : A → Type 0) → o ≡ Some v → IfSome o P → P v
some_is None v P is if_some = cc
some_is (Some w) v P is if_some = let same : w ≡ v = cc in subst P same if_some

pub none_is : {A : Type 0} (o : Option A) (P : Type 0) → o ≡ None → IfNone o P → P
none_is None P is if_none = if_none
none_is (Some w) P is if_none = cc

-- ---- numbers

-- a number's bytes, from the eight that were read
pub number_is : (bytes all : List ℕ) (n : ℕ) → all ≡ take 8 bytes → length bytes ≡ 8 → ((i : ℕ) → get_or bytes i 0 < 256) → n ≡ from_le_bytes w64 all → bytes ≡ le64 n
unfolding le64
number_is bytes all n all_is long small n_is =
    let same : bytes ≡ all = sym (take_all 8 bytes (omega arith)) ∙ sym all_is in
    sym (le_bytes_8 bytes n long small (n_is ∙ ap (λ (l : List ℕ). from_le_bytes w64 l) (sym same)))

-- a number at the front
pub no_front : (bytes : List ℕ) → length bytes < 8 → NoNumber bytes
no_front bytes short n rest is = omega (arith, ap length is, length-append (le64 n) rest, length-le64 n)

pub no_front_number : (bytes front : List ℕ) → front ≡ take 8 bytes → ((n : ℕ) → front ≡ le64 n → ⊥) → NoNumber bytes
no_front_number bytes front front_is none n rest is =
    none n (front_is ∙ ap (λ (l : List ℕ). take 8 l) is ∙ take_at (le64 n) rest 8 (length-le64 n))

-- two spellings of numbers at the front of the same bytes
pub one_number : (m n : ℕ) (x y : List ℕ) → m < 2 ^ 64 → n < 2 ^ 64 → le64 m ++ x ≡ le64 n ++ y → (m ≡ n) × (x ≡ y)
one_number m n x y small_m small_n is =
    let parts = same_pieces (le64 m) (le64 n) x y (length-le64 m ∙ sym (length-le64 n)) is in
    (le64_same m n small_m small_n parts.0, parts.1)

-- ---- a whole spelling

-- what begins with a text of its own length is that text
pub whole : (bytes text : List ℕ) (count : ℕ) → Begins bytes text count → count ≡ length bytes → bytes ≡ text
whole bytes text count begins all = begins.takes ∙ ap (λ (l : List ℕ). text ++ l) (drop_all count bytes (omega (arith, all))) ∙ append-nil text

-- where more follows it is not that text
not_whole : (bytes text : List ℕ) (count : ℕ) → Begins bytes text count → (count ≡ length bytes → ⊥) → bytes ≡ text → ⊥
not_whole bytes text count begins more is = more (begins.len ∙ ap length (sym is))

-- ---- other types

-- the type of an event
abbrev pub kind_of : Event → ℕ
kind_of event = event.kind

-- ---- SnapTable

-- no definition has this body
abbrev pub NoDefinition : List ℕ → Type 0
NoDefinition body = (it : Definition) → IsDefinition it → body ≡ counted it.table ++ (counted it.engine ++ schema_spelling it.schema) → ⊥

pub only_table : (replay : Replay) (body : List ℕ) → NoDefinition body → (it : Record) → Allows replay it → record_event it ≡ event_with 128 body → ⊥
only_table replay body none (SnapTable it) allowed is = none it allowed.0 (sym (ap (λ (e : Event). e.body) is))
only_table replay body none it allowed is = omega (arith, ap kind_of is)

pub table_no_engine : (body table rest : List ℕ) → Takes body (counted table) rest → NoName rest → NoDefinition body
table_no_engine body table rest first none it fits is =
    none it.engine (schema_spelling it.schema) fits.engine (one_name table it.table rest (counted it.engine ++ schema_spelling it.schema) (sym first ∙ is)).1

-- what follows the two names is the schema
behind_names : (body table rest engine rest' : List ℕ) (it : Definition) → Takes body (counted table) rest → Takes rest (counted engine) rest'
    → body ≡ counted it.table ++ (counted it.engine ++ schema_spelling it.schema) → rest' ≡ schema_spelling it.schema
behind_names body table rest engine rest' it first second is =
    let tail = (one_name table it.table rest (counted it.engine ++ schema_spelling it.schema) (sym first ∙ is)).1 in
    (one_name engine it.engine rest' (schema_spelling it.schema) (sym second ∙ tail)).1

pub table_no_schema : (body table rest engine rest' : List ℕ) → Takes body (counted table) rest → Takes rest (counted engine) rest' → NoSchema rest' → NoDefinition body
table_no_schema body table rest engine rest' first second none it fits is =
    none it.schema [] fits.schema (behind_names body table rest engine rest' it first second is ∙ sym (append-nil (schema_spelling it.schema)))

pub table_more : (body table rest engine rest' : List ℕ) (schema : Schema) (count : ℕ) → Takes body (counted table) rest → Takes rest (counted engine) rest' → IsSchema schema
    → Begins rest' (schema_spelling schema) count → (count ≡ length rest' → ⊥) → NoDefinition body
table_more body table rest engine rest' schema count first second is_schema begins more it fits is =
    let tail = behind_names body table rest engine rest' it first second is in
    let same = (one_schema schema it.schema (drop count rest') [] is_schema fits.schema (sym begins.takes ∙ tail ∙ sym (append-nil (schema_spelling it.schema)))).0 in
    not_whole rest' (schema_spelling schema) count begins more (tail ∙ ap schema_spelling (sym same))

-- ---- SnapRow

-- no row for a table of this name has this body
abbrev pub NoSnapRow : Replay → List ℕ → Type 0
NoSnapRow replay body = (table : List ℕ) (row : List Value) → IsName table → IsRowFor row (table_named table replay.gist.tables) → body ≡ counted table ++ row_image row → ⊥

pub only_row : (replay : Replay) (body : List ℕ) → NoSnapRow replay body → (it : Record) → Allows replay it → record_event it ≡ event_with 129 body → ⊥
only_row replay body none (SnapRow table row) allowed is = none table row allowed.0 allowed.1 (sym (ap (λ (e : Event). e.body) is))
only_row replay body none it allowed is = omega (arith, ap kind_of is)

-- there is no row for a table that was not found
no_row_for : (row : List Value) (found : Option Table) → schema_found found ≡ None → IsRowFor row found → ⊥
no_row_for row None none is = is
no_row_for row (Some it) none is = cc

pub row_no_table : (replay : Replay) (body name rest : List ℕ) → Takes body (counted name) rest → schema_found (table_named name replay.gist.tables) ≡ None → NoSnapRow replay body
row_no_table replay body name rest first none table row is_name is_row is =
    let same = (one_name name table rest (row_image row) (sym first ∙ is)).0 in
    no_row_for row (table_named table replay.gist.tables) (ap (λ (l : List ℕ). schema_found (table_named l replay.gist.tables)) (sym same) ∙ none) is_row

-- the schema that was found is one
pub is_schema : (replay : Replay) (name : List ℕ) (schema : Schema) → IsSound replay → schema_found (table_named name replay.gist.tables) ≡ Some schema → IsSchema schema
is_schema replay name schema sound found = of (table_named name replay.gist.tables) refl found
  where
    of : (o : Option Table) → table_named name replay.gist.tables ≡ o → schema_found o ≡ Some schema → IsSchema schema
    of None is found = absurd cc
    of (Some it) is found = let same : it.definition.schema ≡ schema = cc in subst IsSchema same (found_schema name replay.gist.tables it sound.tables is)

-- a row for a table is one of its schema
row_for : (row : List Value) (found : Option Table) (schema : Schema) → schema_found found ≡ Some schema → IsRowFor row found → IsRow schema row
row_for row None schema found is = absurd is
row_for row (Some it) schema found is = let same : it.definition.schema ≡ schema = cc in subst (λ (s : Schema). IsRow s row) same is.0

-- what follows the name is the image of a row of the table's schema
behind_name : (replay : Replay) (body name rest table : List ℕ) (row : List Value) (schema : Schema) → Takes body (counted name) rest → schema_found (table_named name replay.gist.tables) ≡ Some schema
    → IsRowFor row (table_named table replay.gist.tables) → body ≡ counted table ++ row_image row → IsRow schema row × (rest ≡ row_image row)
behind_name replay body name rest table row schema first found is_row is =
    let both = one_name name table rest (row_image row) (sym first ∙ is) in
    (row_for row (table_named table replay.gist.tables) schema (ap (λ (l : List ℕ). schema_found (table_named l replay.gist.tables)) (sym both.0) ∙ found) is_row, both.1)

pub row_no_row : (replay : Replay) (body name rest : List ℕ) (schema : Schema) → Takes body (counted name) rest → schema_found (table_named name replay.gist.tables) ≡ Some schema → NoRow schema rest
    → NoSnapRow replay body
row_no_row replay body name rest schema first found none table row is_name is_row is =
    let both = behind_name replay body name rest table row schema first found is_row is in
    none row [] both.0 (both.1 ∙ sym (append-nil (row_image row)))

pub row_more : (replay : Replay) (body name rest : List ℕ) (schema : Schema) (image : List Value) (count : ℕ) → Takes body (counted name) rest → schema_found (table_named name replay.gist.tables) ≡ Some schema
    → IsSchema schema → IsRow schema image → Begins rest (row_image image) count → (count ≡ length rest → ⊥) → NoSnapRow replay body
row_more replay body name rest schema image count first found is_schema fits begins more table row is_name is_row is =
    let both = behind_name replay body name rest table row schema first found is_row is in
    let same = (one_row schema image row (drop count rest) [] is_schema fits both.0 (sym begins.takes ∙ both.1 ∙ sym (append-nil (row_image row)))).0 in
    not_whole rest (row_image image) count begins more (both.1 ∙ ap row_image (sym same))

row_form : (row : List Value) (found : Option Table) (schema : Schema) → schema_found found ≡ Some schema → IsRow schema row → IsFitting row found
row_form row None schema found is = tt
row_form row (Some it) schema found is = let same : it.definition.schema ≡ schema = cc in subst (λ (s : Schema). IsRow s row) (sym same) is

pub row_told : (replay : Replay) (body name rest : List ℕ) (schema : Schema) (row : List Value) (count : ℕ) → IsName name → Takes body (counted name) rest
    → schema_found (table_named name replay.gist.tables) ≡ Some schema → IsRow schema row → Begins rest (row_image row) count → count ≡ length rest
    → Tells replay (event_with 129 body) (SnapRow name row)
row_told replay body name rest schema row count is_name first found is_row begins all = record {
  spelt = ap (λ (l : List ℕ). event_with 129 l) (sym (first ∙ ap (λ (l : List ℕ). counted name ++ l) (whole rest (row_image row) count begins all)));
  form = (is_name, row_form row (table_named name replay.gist.tables) schema found is_row);
}

-- ---- Prepare

-- no changes with an xid have this body
abbrev pub NoPrepare : List ℕ → Type 0
NoPrepare body = (it : Prepared) → it.xid < 2 ^ 64 → AreListed it.changes → body ≡ le64 it.xid ++ list_spelling it.changes → ⊥

pub only_prepare : (replay : Replay) (body : List ℕ) → NoPrepare body → (it : Record) → Allows replay it → record_event it ≡ event_with 131 body → ⊥
only_prepare replay body none (Prepare it) allowed is = none it allowed.0 allowed.1 (sym (ap (λ (e : Event). e.body) is))
only_prepare replay body none it allowed is = omega (arith, ap kind_of is)

pub prepare_no_list : (body rest : List ℕ) (xid : ℕ) → Takes body (le64 xid) rest → xid < 2 ^ 64 → NoList rest → NoPrepare body
prepare_no_list body rest xid first small_xid none it small listed is =
    none it.changes [] listed ((one_number xid it.xid rest (list_spelling it.changes) small_xid small (sym first ∙ is)).1 ∙ sym (append-nil (list_spelling it.changes)))

pub prepare_more : (body rest : List ℕ) (xid : ℕ) (changes : List Change) (count : ℕ) → Takes body (le64 xid) rest → xid < 2 ^ 64 → AreListed changes
    → Begins rest (list_spelling changes) count → (count ≡ length rest → ⊥) → NoPrepare body
prepare_more body rest xid changes count first small_xid are begins more it small listed is =
    let tail = (one_number xid it.xid rest (list_spelling it.changes) small_xid small (sym first ∙ is)).1 in
    let same = (one_list changes it.changes (drop count rest) [] are listed (sym begins.takes ∙ tail ∙ sym (append-nil (list_spelling it.changes)))).0 in
    not_whole rest (list_spelling changes) count begins more (tail ∙ ap list_spelling (sym same))

-- ---- Commit

-- no two numbers have this body
abbrev pub NoCommit : List ℕ → Type 0
NoCommit body = (xid number : ℕ) → xid < 2 ^ 64 → body ≡ le64 xid ++ le64 number → ⊥

pub only_commit : (replay : Replay) (body : List ℕ) → NoCommit body → (it : Record) → Allows replay it → record_event it ≡ event_with 132 body → ⊥
only_commit replay body none (Commit xid number) allowed is = none xid number allowed.0 (sym (ap (λ (e : Event). e.body) is))
only_commit replay body none it allowed is = omega (arith, ap kind_of is)

pub commit_no_number : (body rest : List ℕ) (xid : ℕ) → Takes body (le64 xid) rest → xid < 2 ^ 64 → ((n : ℕ) → rest ≡ le64 n → ⊥) → NoCommit body
commit_no_number body rest xid first small_xid none xid' number small is = none number (one_number xid xid' rest (le64 number) small_xid small (sym first ∙ is)).1
