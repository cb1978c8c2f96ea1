-- What records that fit stand for: schemas that can be spelt, and changes that fit.
use Rattle.std.proofs.Common.{◌≡◌, ℕ, Bool, true, false, cond, List, [], ◌∷◌, ◌++◌, Option, Some, None, refl, subst}
use Rattle.std.specs.Prelude.{is_some}
use Rattle.sql_value.specs.declared.value.Value.{Value}
use Rattle.row_format.specs.declared.change.Change.{Change}
use Rattle.row_format.specs.declared.change.Change.TheVariants.{Install, Uninstall, Create, Drop, Insert, Update, Delete}
use Rattle.row_format.specs.Schemas.{IsSchema}
use Rattle.row_format.specs.Spelling.{HasImage}
use Rattle.row_format.specs.Changes.{AreFitChanges, IsFitChange}
use Rattle.row_format.proofs.ImageLemmas.{has_image}
use Rattle.log_tables.specs.declared.table.Table.{Table}
use Rattle.log_tables.specs.declared.gist.Prepared.{Prepared}
use Rattle.log_tables.specs.declared.gist.Gist.{Gist}
use Rattle.log_tables.specs.Tables.{table_named, is_named, at_table, new_table}
use Rattle.log_tables.specs.Changes.{with_rows, rows_after, changed, after_change, after_changes}
use Rattle.log_tables.specs.Keys.{inserted}
use Rattle.log_tables.specs.Gists.{has_xid, prepared_with, without_xid}
use Rattle.redo_journal.specs.declared.record.Record.{Record}
use Rattle.redo_journal.specs.declared.record.Record.TheVariants.{SnapTable, SnapRow, SnapLast, Prepare, Commit, Rollback}
use Rattle.redo_journal.specs.Replays.{Replay, start, after_record, after_records, end_behind, with_row, committed, IsRowFor, Allows, Fits, AllFit}
use Rattle.redo_journal.specs.Reading.{told, IsSpellable}

-- each table has a schema
abbrev pub AreSchemas : List Table → Type 0
AreSchemas [] = Unit {0}
AreSchemas (it ∷ rest) = IsSchema it.definition.schema × AreSchemas rest

-- the changes of each of these fit
abbrev pub AreFitPrepared : List Prepared → Type 0
AreFitPrepared [] = Unit {0}
AreFitPrepared (it ∷ rest) = AreFitChanges it.changes × AreFitPrepared rest

-- each table has a schema, and all that is prepared fits
pub record IsSound (replay : Replay) : Type 0 where
  pub tables : AreSchemas replay.gist.tables
  pub prepared : AreFitPrepared replay.gist.prepared

AreSchemas-append : (xs ys : List Table) → AreSchemas xs → AreSchemas ys → AreSchemas (xs ++ ys)
AreSchemas-append [] ys of_xs of_ys = of_ys
AreSchemas-append (x ∷ xs) ys of_xs of_ys = (of_xs.0, AreSchemas-append xs ys of_xs.1 of_ys)

AreFitPrepared-append : (xs ys : List Prepared) → AreFitPrepared xs → AreFitPrepared ys → AreFitPrepared (xs ++ ys)
AreFitPrepared-append [] ys of_xs of_ys = of_ys
AreFitPrepared-append (x ∷ xs) ys of_xs of_ys = (of_xs.0, AreFitPrepared-append xs ys of_xs.1 of_ys)

-- a choice between two lists of tables
schemas_of_two : (b : Bool) (xs ys : List Table) → AreSchemas xs → AreSchemas ys → AreSchemas (cond b xs ys)
schemas_of_two true xs ys of_xs of_ys = of_xs
schemas_of_two false xs ys of_xs of_ys = of_ys

-- rows do not change a schema
with_rows-schema : (table : Table) (rows : Option (List (List Value))) → IsSchema table.definition.schema → IsSchema (with_rows table rows).definition.schema
with_rows-schema table None is = is
with_rows-schema table (Some rows) is = is

-- a table that is replaced by one with a schema
at_table-schemas : (name : List ℕ) (make : Table → List Table) (tables : List Table) → ((it : Table) → IsSchema it.definition.schema → AreSchemas (make it)) → AreSchemas tables
    → AreSchemas (at_table name make tables)
at_table-schemas name make [] makes of = tt
at_table-schemas name make (it ∷ rest) makes of =
    schemas_of_two (is_named name it) (make it ++ rest) (it ∷ at_table name make rest) (AreSchemas-append (make it) rest (makes it of.0) of.1) (of.0, at_table-schemas name make rest makes of.1)

after_change-schemas : (change : Change) (tables : List Table) → IsFitChange change → AreSchemas tables → AreSchemas (after_change change tables)
after_change-schemas (Install name) tables fit of = of
after_change-schemas (Uninstall name) tables fit of = of
after_change-schemas (Drop table) tables fit of = at_table-schemas table (λ _. []) tables (λ it is. tt) of
after_change-schemas (Create table engine schema) tables fit of =
    schemas_of_two (is_some (table_named table tables)) tables (tables ++ new_table table engine schema ∷ []) of (AreSchemas-append tables (new_table table engine schema ∷ []) of (fit.2, tt))
after_change-schemas (Insert map row) tables fit of =
    at_table-schemas map.table (changed (Insert map row)) tables (λ it is. (with_rows-schema it (rows_after (Insert map row) it) is, tt)) of
after_change-schemas (Update map place before after) tables fit of =
    at_table-schemas map.table (changed (Update map place before after)) tables (λ it is. (with_rows-schema it (rows_after (Update map place before after) it) is, tt)) of
after_change-schemas (Delete map place before) tables fit of =
    at_table-schemas map.table (changed (Delete map place before)) tables (λ it is. (with_rows-schema it (rows_after (Delete map place before) it) is, tt)) of

after_changes-schemas : (changes : List Change) (tables : List Table) → AreFitChanges changes → AreSchemas tables → AreSchemas (after_changes changes tables)
after_changes-schemas [] tables fit of = of
after_changes-schemas (it ∷ rest) tables fit of = after_changes-schemas rest (after_change it tables) fit.1 (after_change-schemas it tables fit.0 of)

fit_of_two : (b : Bool) (x : Prepared) (xs : List Prepared) → AreFitChanges x.changes → AreFitPrepared xs → AreFitPrepared (cond b (x ∷ xs) xs)
fit_of_two true x xs of_x of_xs = (of_x, of_xs)
fit_of_two false x xs of_x of_xs = of_xs

without_xid-fit : (xid : ℕ) (prepared : List Prepared) → AreFitPrepared prepared → AreFitPrepared (without_xid xid prepared)
without_xid-fit xid [] of = tt
without_xid-fit xid (it ∷ rest) of = fit_of_two _ it (without_xid xid rest) of.0 (without_xid-fit xid rest of.1)

-- one of two, by a test
one_of_two : {A : Type 0} (P : A → Type 0) (b : Bool) (first it : A) (rest : Option A) → cond b (Some first) rest ≡ Some it → P first → (rest ≡ Some it → P it) → P it
one_of_two P true first it rest is here there = let same : first ≡ it = cc in subst P same here
one_of_two P false first it rest is here there = there is

-- what was found among prepared transactions fits
found_fit : (xid : ℕ) (prepared : List Prepared) (it : Prepared) → AreFitPrepared prepared → prepared_with xid prepared ≡ Some it → AreFitChanges it.changes
found_fit xid [] it of is = absurd cc
found_fit xid (first ∷ rest) it of is =
    one_of_two (λ (p : Prepared). AreFitChanges p.changes) (has_xid xid first) first it (prepared_with xid rest) is of.0 (λ at. found_fit xid rest it of.1 at)

-- the table that was found has a schema
pub found_schema : (name : List ℕ) (tables : List Table) (it : Table) → AreSchemas tables → table_named name tables ≡ Some it → IsSchema it.definition.schema
found_schema name [] it of is = absurd cc
found_schema name (first ∷ rest) it of is =
    one_of_two (λ (t : Table). IsSchema t.definition.schema) (is_named name first) first it (table_named name rest) is of.0 (λ at. found_schema name rest it of.1 at)

committed-sound : (xid number : ℕ) (gist : Gist) (found : Option Prepared) → prepared_with xid gist.prepared ≡ found → AreSchemas gist.tables → AreFitPrepared gist.prepared
    → AreSchemas (committed found number gist).tables × AreFitPrepared (committed found number gist).prepared
committed-sound xid number gist None is tables prepared = (tables, prepared)
committed-sound xid number gist (Some it) is tables prepared =
    (after_changes-schemas it.changes gist.tables (found_fit xid gist.prepared it prepared is) tables, without_xid-fit it.xid gist.prepared prepared)

pub record-sound : (replay : Replay) (it : Record) → Allows replay it → IsSound replay → IsSound (after_record it replay)
record-sound replay (SnapTable it) allowed is =
    record { tables = AreSchemas-append replay.gist.tables (new_table it.table it.engine it.schema ∷ []) is.tables ((allowed.0).schema, tt); prepared = is.prepared }
record-sound replay (SnapRow table row) allowed is = record {
  tables = at_table-schemas table (with_row row) replay.gist.tables (λ it schema. (with_rows-schema it (inserted it.definition.schema.key row it.rows) schema, tt)) is.tables;
  prepared = is.prepared;
}
record-sound replay (SnapLast number) allowed is = record { tables = is.tables; prepared = is.prepared }
record-sound replay (Prepare it) allowed is = record { tables = is.tables; prepared = AreFitPrepared-append replay.gist.prepared (it ∷ []) is.prepared ((allowed.1).fit, tt) }
record-sound replay (Commit xid number) allowed is =
    let both = committed-sound xid number replay.gist (prepared_with xid replay.gist.prepared) refl is.tables is.prepared in
    record { tables = both.0; prepared = both.1 }
record-sound replay (Rollback xid) allowed is = record { tables = is.tables; prepared = without_xid-fit xid replay.gist.prepared is.prepared }

records-sound : (at : ℕ) (records : List Record) (replay : Replay) → AllFit at replay records → IsSound replay → IsSound (after_records records replay)
records-sound at [] replay fit is = is
records-sound at (it ∷ rest) replay fit is = records-sound (end_behind at it) rest (after_record it replay) fit.1 (record-sound replay it (fit.0).allowed is)

pub told-sound : (at : ℕ) (records : List Record) → AllFit at start records → IsSound (told records)
told-sound at records fit = records-sound at records start fit (record { tables = tt; prepared = tt })

row_image_of : (row : List Value) (found : Option Table) → ((it : Table) → found ≡ Some it → IsSchema it.definition.schema) → IsRowFor row found → HasImage row
row_image_of row None schema is = absurd is
row_image_of row (Some it) schema is = has_image it.definition.schema row (schema it refl) is.0

-- a record that fits behind others has a body of bytes
pub spellable : (at : ℕ) (records : List Record) (end : ℕ) (it : Record) → AllFit at start records → Fits end (told records) it → IsSpellable it
spellable at records end it fit fits = of it fits.allowed
  where
    sound : IsSound (told records)
    sound = told-sound at records fit

    of : (it : Record) → Allows (told records) it → IsSpellable it
    of (SnapTable it) allowed = (allowed.0).schema
    of (SnapRow table row) allowed =
        row_image_of row (table_named table (told records).gist.tables) (λ found is. found_schema table (told records).gist.tables found sound.tables is) allowed.1
    of (SnapLast number) allowed = tt
    of (Prepare it) allowed = allowed.1
    of (Commit xid number) allowed = tt
    of (Rollback xid) allowed = tt
