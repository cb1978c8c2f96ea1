-- A record fits where its form is known, what the records before decide holds, and there is room.
use Rattle.std.proofs.Common.{◌≡◌, ℕ, zero, suc, ◌+◌, ◌-◌, ◌*◌, ◌≤◌, ◌<◌, ◌^◌, List, [], ◌∷◌, ◌++◌, length, length-append, Some, None, Bool, true, false, refl, sym, ap, ◌∙◌, arith, subst, leb}
use Rattle.std.specs.Prelude.{Option, not, nat_lt, slice_get}
use Rattle.std.specs.List.{AllZip}
use Rattle.std.proofs.lemmas.Bool.{not-true, and_parts, and_from, ltb-true, lt-ltb, leb-true, leb-false}
use Rattle.sql_value.specs.declared.value.Value.{Value}
use Rattle.frame_codec.specs.Frame.{limit}
use Rattle.log_tables.specs.declared.table.Table.{Table}
use Rattle.log_tables.specs.declared.gist.Prepared.{Prepared}
use Rattle.log_tables.specs.declared.gist.Gist.{Gist}
use Rattle.log_tables.specs.Changes.{all_apply}
use Rattle.log_tables.specs.Tables.{table_named}
use Rattle.log_tables.specs.Gists.{prepared_with}
use Rattle.redo_journal.specs.declared.record.Record.{Record}
use Rattle.redo_journal.specs.declared.record.Record.TheVariants.{SnapTable, SnapRow, SnapLast, Prepare, Commit, Rollback}
use Rattle.redo_journal.specs.declared.index.Indexed.{Indexed}
use Rattle.redo_journal.specs.declared.replay.Replay.{Replay as ReplayIndex}
use Rattle.redo_journal.specs.Replays.{Replay, after_record, IsRowFor, CanCommit, Allows, commit_size, end_behind, Fits}
use Rattle.redo_journal.specs.Index.{definition_of, row_of, prepared_of, IsRowAt, IsTableAt, IsPreparedAt, IsReplay, IsFitting, HasForm, adding, can_edit, can_commit, is_possible, Becomes}
use Rattle.redo_journal.proofs.IndexLemmas.{zip_length}

row_for : (row : List Value) (o : Option Table) → IsFitting row o → can_edit None (adding row) o ≡ true → IsRowFor row o
row_for row None fits can = cc
row_for row (Some table) fits can = (fits, can)

commit_for : (number : ℕ) (gist : Gist) (o : Option Prepared) → number < 2 ^ 64 → can_commit number gist o ≡ true → CanCommit number gist o
commit_for number gist None small can = cc
commit_for number gist (Some it) small can =
    let both = and_parts (nat_lt gist.last number) (all_apply it.changes gist.tables) can in
    (ltb-true gist.last number both.0, small, both.1)

allows : (replay : Replay) (it : Record) → HasForm replay it → is_possible replay it ≡ true → Allows replay it
allows replay (SnapTable it) form possible = (form, possible)
allows replay (SnapRow table row) form possible = (form.0, row_for row (table_named table replay.gist.tables) form.1 possible)
allows replay (SnapLast number) form possible = (form, not-true replay.numbered possible)
allows replay (Prepare it) form possible = (form.0, form.1, not-true _ possible)
allows replay (Commit xid number) form possible = (form.0, commit_for number replay.gist (prepared_with xid replay.gist.prepared) form.1 possible)
allows replay (Rollback xid) form possible = (form, possible)

for_row : (row : List Value) (o : Option Table) → IsRowFor row o → can_edit None (adding row) o ≡ true
for_row row None is = absurd is
for_row row (Some table) is = is.1

for_commit : (number : ℕ) (gist : Gist) (o : Option Prepared) → CanCommit number gist o → can_commit number gist o ≡ true
for_commit number gist None can = absurd can
for_commit number gist (Some it) can = and_from (nat_lt gist.last number) (all_apply it.changes gist.tables) (lt-ltb gist.last number can.0) can.2

possible_where : (replay : Replay) (it : Record) → Allows replay it → is_possible replay it ≡ true
possible_where replay (SnapTable it) allowed = allowed.1
possible_where replay (SnapRow table row) allowed = for_row row (table_named table replay.gist.tables) allowed.1
possible_where replay (SnapLast number) allowed = ap not allowed.1
possible_where replay (Prepare it) allowed = ap not allowed.2
possible_where replay (Commit xid number) allowed = for_commit number replay.gist (prepared_with xid replay.gist.prepared) allowed.1
possible_where replay (Rollback xid) allowed = allowed.1

get_more : (xs ys : List Record) (i : ℕ) (x : Record) → slice_get xs i ≡ Some x → slice_get (xs ++ ys) i ≡ Some x
get_more [] ys i x is = cc
get_more (z ∷ zs) ys zero x is = is
get_more (z ∷ zs) ys (suc i) x is = get_more zs ys i x is

-- what a record tells it tells behind more records too
stays : {A : Type 0} (tells : Option Record → Option A) (records more : List Record) (number : ℕ) (x : A) → tells None ≡ None → tells (slice_get records number) ≡ Some x → tells (slice_get (records ++ more) number) ≡ Some x
stays tells records more number x nothing is = go (slice_get records number) refl is
  where
    go : (o : Option Record) → slice_get records number ≡ o → tells o ≡ Some x → tells (slice_get (records ++ more) number) ≡ Some x
    go None same said = cc (nothing, said)
    go (Some it) same said = ap tells (get_more records more number it same) ∙ said

zip_weaker : {X Y : Type 0} (R S : X → Y → Type 0) (xs : List X) (ys : List Y) → ((x : X) (y : Y) → R x y → S x y) → AllZip R xs ys → AllZip S xs ys
zip_weaker R S [] [] weaker all = tt
zip_weaker R S [] (y ∷ ys) weaker all = absurd all
zip_weaker R S (x ∷ xs) [] weaker all = absurd all
zip_weaker R S (x ∷ xs) (y ∷ ys) weaker all = (weaker x y all.0, zip_weaker R S xs ys weaker all.1)

table_stays : (records more : List Record) (it : Indexed) (table : Table) → IsTableAt records it table → IsTableAt (records ++ more) it table
table_stays records more it table is = record {
  definition = stays (λ o. definition_of o it.definition.change) records more it.definition.number table.definition refl is.definition;
  rows = zip_weaker (IsRowAt records) (IsRowAt (records ++ more)) it.rows.items table.rows (λ place row at. stays (λ o. row_of o place.change) records more place.number row refl at) is.rows;
  ordered = is.ordered;
}

-- An index over records stands for the same where more records are behind them.
replay_stays : (index : ReplayIndex) (records more : List Record) (replay : Replay) → IsReplay index records replay → IsReplay index (records ++ more) replay
replay_stays index records more replay is = record {
  tables = zip_weaker (IsTableAt records) (IsTableAt (records ++ more)) index.tables.tables.items replay.gist.tables (table_stays records more) is.tables;
  prepared = zip_weaker (IsPreparedAt records) (IsPreparedAt (records ++ more)) index.prepared.numbers.items replay.gist.prepared (λ number it at. stays prepared_of records more number it refl at) is.prepared;
  last = is.last;
  numbered = is.numbered;
}

get_last : (before : List Record) (it : Record) → slice_get (before ++ it ∷ []) (length before) ≡ Some it
get_last [] it = refl
get_last (x ∷ xs) it = get_last xs it

-- the record that is taken is the last
pub last_is : (records before : List Record) (it : Record) (number : ℕ) → records ≡ before ++ it ∷ [] → number ≡ length records - 1 → slice_get records number ≡ Some it
last_is records before it number same at =
    let len : number ≡ length before = omega (arith, at, ap length same, length-append before (it ∷ [])) in
    ap (λ (n : ℕ). slice_get records n) len ∙ ap (λ (l : List Record). slice_get l (length before)) same ∙ get_last before it

-- the index stands for the same once the record is there
pub stands_now : (index : ReplayIndex) (records before : List Record) (it : Record) (replay : Replay) → records ≡ before ++ it ∷ [] → IsReplay index before replay → IsReplay index records replay
stands_now index records before it replay same is = subst (λ (l : List Record). IsReplay index l replay) (sym same) (replay_stays index before (it ∷ []) replay is)

pub none_there : (records before : List Record) (it : Record) → records ≡ before ++ it ∷ [] → 1 ≤ length records
none_there records before it same = omega (arith, ap length same, length-append before (it ∷ []))

pub impossible : false ≡ true → ⊥
impossible h = cc

-- A record whose rule does not hold does not fit.
pub not_allowed : (P : Type 0) (at : ℕ) (replay : Replay) (it : Record) (b : Bool) → Becomes (is_possible replay it) P b → b ≡ false → Fits at replay it → ⊥
not_allowed P at replay it b taken no_rule fits = impossible (sym no_rule ∙ taken.0 ∙ possible_where replay it fits.allowed)

-- A record whose rule holds fits where there is room.
pub taken_fits : (index : ReplayIndex) (records : List Record) (at end : ℕ) (replay : Replay) (it : Record) (b room : Bool) → HasForm replay it → Becomes (is_possible replay it) (IsReplay index records (after_record it replay)) b → b ≡ true
    → end ≡ end_behind at it → room ≡ leb (end + commit_size * length index.prepared.numbers.items) limit → room ≡ true → Fits at replay it × IsReplay index records (after_record it replay)
taken_fits index records at end replay it b room form taken did ends is has =
    let new = taken.1 did in
    let count = zip_length (IsPreparedAt records) index.prepared.numbers.items (after_record it replay).gist.prepared new.prepared in
    let within = leb-true (end + commit_size * length index.prepared.numbers.items) limit (sym is ∙ has) in
    (record { allowed = allows replay it form (sym taken.0 ∙ did); room = omega (arith, within, count, ends) }, new)

-- And where there is none it does not.
pub taken_no_room : (index : ReplayIndex) (records : List Record) (at end : ℕ) (replay : Replay) (it : Record) (b room : Bool) → Becomes (is_possible replay it) (IsReplay index records (after_record it replay)) b → b ≡ true
    → end ≡ end_behind at it → room ≡ leb (end + commit_size * length index.prepared.numbers.items) limit → room ≡ false → Fits at replay it → ⊥
taken_no_room index records at end replay it b room taken did ends is has fits =
    let new = taken.1 did in
    let count = zip_length (IsPreparedAt records) index.prepared.numbers.items (after_record it replay).gist.prepared new.prepared in
    let past = leb-false (end + commit_size * length index.prepared.numbers.items) limit (sym is ∙ has) in
    omega (arith, past, count, ends, fits.room)

fitting_where : (row : List Value) (o : Option Table) → IsRowFor row o → IsFitting row o
fitting_where row None is = tt
fitting_where row (Some table) is = is.0

number_where : (number : ℕ) (gist : Gist) (o : Option Prepared) → CanCommit number gist o → number < 2 ^ 64
number_where number gist None can = absurd can
number_where number gist (Some it) can = can.1

-- A record whose rule holds has the form: where the form is missing it does not fit.
pub form_where : (replay : Replay) (it : Record) → Allows replay it → HasForm replay it
form_where replay (SnapTable it) allowed = allowed.0
form_where replay (SnapRow table row) allowed = (allowed.0, fitting_where row (table_named table replay.gist.tables) allowed.1)
form_where replay (SnapLast number) allowed = allowed.0
form_where replay (Prepare it) allowed = (allowed.0, allowed.1)
form_where replay (Commit xid number) allowed = (allowed.0, number_where number replay.gist (prepared_with xid replay.gist.prepared) allowed.1)
form_where replay (Rollback xid) allowed = allowed.0
