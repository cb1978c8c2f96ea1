-- A row that is walked back through changes, one after the other.
use Rattle.std.proofs.Common.{◌≡◌, ℕ, ◌+◌, ◌<◌, ◌≤◌, List, [], ◌∷◌, ◌++◌, length, get_or, take, drop, Option, Some, None, true, false, append_assoc, append-nil, length-append, refl, sym, ap, subst, ◌∙◌, arith}
use Rattle.std.specs.Prelude.{slice_get, Result, Ok, Err, IfOk, IfErr}
use Rattle.std.specs.Str.{bytes_eq}
use Rattle.std.specs.Option.{option_or}
use Rattle.std.proofs.lemmas.Bool.{and_parts}
use Rattle.std.proofs.lemmas.List.{take_more, take-append-drop}
use Rattle.sql_value.specs.declared.value.Value.{Value}
use Rattle.row_format.specs.declared.schema.Schema.{Schema}
use Rattle.row_format.specs.declared.change.Change.{Change}
use Rattle.row_format.specs.declared.change.Change.TheVariants.{Install, Uninstall, Create, Drop, Insert, Update, Delete}
use Rattle.log_tables.specs.declared.table.Table.{Table}
use Rattle.log_tables.specs.Keys.{IsOrdered}
use Rattle.log_tables.specs.Tables.{table_named, new_table}
use Rattle.log_tables.specs.Changes.{after_changes, all_apply, with_rows, rows_after, takes, applies, names_table}
use Rattle.log_tables.proofs.FoldLemmas.{after_changes-append}
use Rattle.log_tables.proofs.PartLemmas.{cond_true}
use Rattle.engine_api.specs.States.{Pending, changes_in}
use Rattle.engine_api.specs.Live.{rows_found}
use Rattle.live_tables.specs.Folds.{Applied, found_after, rows_changed, row_in, key_found, through}
use Rattle.live_tables.specs.Places.{found_behind, new_row, edited, AreWithin, Makes, Tells, WalksBack}
use Rattle.live_tables.specs.declared.moves.Moves.{Moves}
use Rattle.live_tables.proofs.NameLemmas.{no, none_is, found_stays, named_after}
use Rattle.live_tables.proofs.EditLemmas.{some_of, IsEdit, insert_edit, update_edit, delete_edit}
use Rattle.live_tables.proofs.FoldLemmas.{all_apply_append, through_append, fits_named}
use Rattle.live_tables.proofs.MadeLemmas.{IsInOrder, all_made, found_in_order}
use Rattle.live_tables.proofs.BackLemmas.{nothing_there}

-- what a step makes of a number, through three lists
pub three : {X : Type 0} (step : Change → X → X) (done opened own : List Change) (x : X)
    → through step own (through step opened (through step done x)) ≡ through step ((done ++ opened) ++ own) x
three step done opened own x =
    ap (through step own) (sym (through_append step done opened x)) ∙ sym (through_append step (done ++ opened) own x)

-- the front of changes that apply
pub front_applied : (ts : List Table) (cs ds : List Change) → Applied ts (cs ++ ds) → Applied ts cs
front_applied ts cs ds applied =
    let both = and_parts (all_apply cs ts) (all_apply ds (after_changes cs ts)) (sym (all_apply_append cs ds ts) ∙ applied.fit) in
    record { made = applied.made; fit = both.0 }

-- what the last change does
record LastIs (n : List ℕ) (ts : List Table) (cs : List Change) (c : Change) : Type 0 where
  before : Applied ts cs
  fit : applies c (after_changes cs ts) ≡ true
  found : found_behind n ts (cs ++ c ∷ []) ≡ found_after n c (found_behind n ts cs)

last_is : (n : List ℕ) (ts : List Table) (cs : List Change) (c : Change) → Applied ts (cs ++ c ∷ []) → LastIs n ts cs c
last_is n ts cs c applied =
    let both = and_parts (all_apply cs ts) (all_apply (c ∷ []) (after_changes cs ts)) (sym (all_apply_append cs (c ∷ []) ts) ∙ applied.fit) in
    record {
      before = record { made = applied.made; fit = both.0 };
      fit = (and_parts (applies c (after_changes cs ts)) true both.1).0;
      found = ap (table_named n) (after_changes-append cs (c ∷ []) ts) ∙ named_after n c (after_changes cs ts) (all_made cs ts applied.made).names;
    }

-- A change of another table leaves all as it is.
pub back_beside : (n : List ℕ) (ts : List Table) (cs : List Change) (c : Change) (key : Option ℕ) (place : ℕ) → names_table n c ≡ false → WalksBack n ts (cs ++ c ∷ []) cs key place place
back_beside n ts cs c key place other = λ applied keyed.
    let last = last_is n ts cs c applied in
    let same = last.found ∙ found_stays n c (found_behind n ts cs) other in
    (ap (row_in place) same, sym (ap key_found same) ∙ keyed)

-- Behind a Create or a Drop the table has no row.
pub told_created : (n : List ℕ) (ts : List Table) (cs : List Change) (m e : List ℕ) (s : Schema) (key : Option ℕ) (place : ℕ) → names_table n (Create m e s) ≡ true → Tells n ts (cs ++ Create m e s ∷ []) key place None
told_created n ts cs m e s key place own = λ applied keyed.
    let last = last_is n ts cs (Create m e s) applied in
    let none : found_behind n ts cs ≡ None = none_is (found_behind n ts cs) (fits_named n (Create m e s) (after_changes cs ts) last.fit own) in
    ap (row_in place)
    (last.found
    ∙ cond_true (bytes_eq m n) (option_or (found_behind n ts cs) (Some (new_table m e s))) (found_behind n ts cs) own
    ∙ ap (λ o. option_or o (Some (new_table m e s))) none)
    ∙ nothing_there place

pub told_dropped : (n : List ℕ) (ts : List Table) (cs : List Change) (m : List ℕ) (key : Option ℕ) (place : ℕ) → names_table n (Drop m) ≡ true → Tells n ts (cs ++ Drop m ∷ []) key place None
told_dropped n ts cs m key place own = λ applied keyed.
    let last = last_is n ts cs (Drop m) applied in
    ap (row_in place) (last.found ∙ cond_true (bytes_eq m n) None (found_behind n ts cs) own) ∙ nothing_there place

-- the table that a row change found, and what it made of it
record RowsChange (n : List ℕ) (ts : List Table) (cs : List Change) (c : Change) (key : Option ℕ) (moves : Moves) : Type 0 where
  table : Table
  is : found_behind n ts cs ≡ Some table
  keyed : table.definition.schema.key ≡ key
  makes : Makes moves c table
  rows : rows_found (found_behind n ts (cs ++ c ∷ [])) ≡ edited moves (new_row c) table.rows

-- how the moves of a row change are known
abbrev pub MovesOf : List ℕ → List Table → List Change → Option ℕ → Change → Moves → Type 0
MovesOf n ts cs key c moves = (t : Table) → Applied ts cs → found_behind n ts cs ≡ Some t → t.definition.schema.key ≡ key → takes c (Some t) ≡ true → Makes moves c t

rows_change : (n : List ℕ) (ts : List Table) (cs : List Change) (c : Change) (key : Option ℕ) (moves : Moves)
    → ((o : Option Table) → found_after n c o ≡ rows_changed c o) → (applies c (after_changes cs ts) ≡ true → takes c (found_behind n ts cs) ≡ true)
    → MovesOf n ts cs key c moves → Applied ts (cs ++ c ∷ []) → key_found (found_behind n ts (cs ++ c ∷ [])) ≡ key → RowsChange n ts cs c key moves
rows_change n ts cs c key moves changes fits_own of applied keyed =
    let last = last_is n ts cs c applied in
    go (found_behind n ts cs) refl (fits_own last.fit) (last.found ∙ changes (found_behind n ts cs)) last.before
  where
    go : (o : Option Table) → found_behind n ts cs ≡ o → takes c o ≡ true → found_behind n ts (cs ++ c ∷ []) ≡ rows_changed c (found_behind n ts cs) → Applied ts cs → RowsChange n ts cs c key moves
    go None is fit after before = absurd (no fit)
    go (Some t) is fit after before =
        let whole : found_behind n ts (cs ++ c ∷ []) ≡ Some (with_rows t (rows_after c t)) = after ∙ ap (rows_changed c) is in
        let rows = some_of (rows_after c t) fit in
        let same_key : t.definition.schema.key ≡ key = sym (ap key_found (whole ∙ ap (λ x. Some (with_rows t x)) rows.1)) ∙ keyed in
        let makes = of t before is same_key fit in
        record {
          table = t;
          is = is;
          keyed = same_key;
          makes = makes;
          rows = ap rows_found (whole ∙ ap (λ x. Some (with_rows t x)) makes.rows);
        }

-- A row change puts this row there.
pub told_changed : (n : List ℕ) (ts : List Table) (cs : List Change) (c : Change) (key : Option ℕ) (moves : Moves) (place : ℕ) (row : Option (List Value))
    → ((o : Option Table) → found_after n c o ≡ rows_changed c o) → (applies c (after_changes cs ts) ≡ true → takes c (found_behind n ts cs) ≡ true) → MovesOf n ts cs key c moves
    → ((t : Table) → Makes moves c t → slice_get (edited moves (new_row c) t.rows) place ≡ row) → Tells n ts (cs ++ c ∷ []) key place row
told_changed n ts cs c key moves place row changes fits_own of tells = λ applied keyed.
    let it = rows_change n ts cs c key moves changes fits_own of applied keyed in
    ap (λ l. slice_get l place) it.rows ∙ tells it.table it.makes

-- It leaves the one that stood there.
pub back_changed : (n : List ℕ) (ts : List Table) (cs : List Change) (c : Change) (key : Option ℕ) (moves : Moves) (place before : ℕ)
    → ((o : Option Table) → found_after n c o ≡ rows_changed c o) → (applies c (after_changes cs ts) ≡ true → takes c (found_behind n ts cs) ≡ true) → MovesOf n ts cs key c moves
    → ((t : Table) → Makes moves c t → slice_get (edited moves (new_row c) t.rows) place ≡ slice_get t.rows before) → WalksBack n ts (cs ++ c ∷ []) cs key place before
back_changed n ts cs c key moves place before changes fits_own of stood = λ applied keyed.
    let it = rows_change n ts cs c key moves changes fits_own of applied keyed in (
      ap (λ l. slice_get l place) it.rows ∙ stood it.table it.makes ∙ sym (ap (row_in before) it.is),
      ap key_found it.is ∙ it.keyed,
    )

-- one walk behind another

pub back_itself : (n : List ℕ) (ts : List Table) (cs ds : List Change) (key : Option ℕ) (place : ℕ) → cs ≡ ds → WalksBack n ts cs ds key place place
back_itself n ts cs ds key place same = λ applied keyed. (ap (λ l. row_in place (found_behind n ts l)) same, sym (ap (λ l. key_found (found_behind n ts l)) same) ∙ keyed)

pub back_on : (n : List ℕ) (ts : List Table) (whole mid part more : List Change) (key : Option ℕ) (a b c : ℕ) → whole ≡ mid ++ more → WalksBack n ts whole mid key a b → WalksBack n ts mid part key b c
    → WalksBack n ts whole part key a c
back_on n ts whole mid part more key a b c parts first second = λ applied keyed.
    let one = first applied keyed in
    let two = second (front_applied ts mid more (subst (Applied ts) parts applied)) one.1 in
    (one.0 ∙ two.0, two.1)

pub told_on : (n : List ℕ) (ts : List Table) (whole mid more : List Change) (key : Option ℕ) (a b : ℕ) (row : Option (List Value)) → whole ≡ mid ++ more → WalksBack n ts whole mid key a b
    → Tells n ts mid key b row → Tells n ts whole key a row
told_on n ts whole mid more key a b row parts first second = λ applied keyed.
    let one = first applied keyed in
    one.0 ∙ second (front_applied ts mid more (subst (Applied ts) parts applied)) one.1

-- changes up to a place, and one more
pub own_parts : (cs own : List Change) (i : ℕ) (c : Change) → i < length own → c ≡ get_or own i c → cs ++ take (i + 1) own ≡ cs ++ take i own ++ c ∷ []
own_parts cs own i c within at = ap (λ l. cs ++ l) (take_more own i c within ∙ ap (λ x. take i own ++ x ∷ []) (sym at)) ∙ sym (append_assoc cs (take i own) (c ∷ []))

pub own_whole : (cs own : List Change) (i : ℕ) → cs ++ own ≡ (cs ++ take i own) ++ drop i own
own_whole cs own i = ap (λ l. cs ++ l) (sym (take-append-drop i own)) ∙ sym (append_assoc cs (take i own) (drop i own))

-- the rows of what changes made are in order
pub table_in_order : (n : List ℕ) (ts : List Table) (cs : List Change) (t : Table) → Applied ts cs → found_behind n ts cs ≡ Some t → IsOrdered t.definition.schema.key t.rows
table_in_order n ts cs t applied is = subst IsInOrder is (found_in_order n (after_changes cs ts) (all_made cs ts applied.made).rows)

-- what is told of an answer, whatever the rows

pub told_by : {X E A : Type 0} (result : Result X E) (Given : A → Type 0) (Told : X → A → Type 0) (Is : X → Type 0) → ((a : A) → Given a → IfOk result (λ r. Told r a))
    → ((r : X) → ((a : A) → Given a → Told r a) → Is r) → IfOk result Is
told_by (Ok r) Given Told Is h k = k r h
told_by (Err e) Given Told Is h k = tt

pub stood_by : {X E A : Type 0} (result : Result X E) (Given : A → Type 0) (Told : E → A → Type 0) (Is : E → Type 0) → ((a : A) → Given a → IfErr result (λ p. Told p a))
    → ((p : E) → ((a : A) → Given a → Told p a) → Is p) → IfErr result Is
stood_by (Ok r) Given Told Is h k = tt
stood_by (Err e) Given Told Is h k = k e h

-- a change that neither makes nor drops anything is a row change
pub edit_when : (c : Change) → ((m e : List ℕ) (s : Schema) → c ≡ Create m e s → ⊥) → ((m : List ℕ) → c ≡ Drop m → ⊥) → ((e : List ℕ) → c ≡ Install e → ⊥) → ((e : List ℕ) → c ≡ Uninstall e → ⊥) → IsEdit c
edit_when (Create m e s) a b d f = absurd (a m e s refl)
edit_when (Drop m) a b d f = absurd (b m refl)
edit_when (Insert map row) a b d f = insert_edit map row
edit_when (Update map place before after) a b d f = update_edit map place before after
edit_when (Delete map place before) a b d f = delete_edit map place before
edit_when (Install e) a b d f = absurd (d e refl)
edit_when (Uninstall e) a b d f = absurd (f e refl)

edit_changes : (n : List ℕ) (c : Change) → IsEdit c → names_table n c ≡ true → (o : Option Table) → found_after n c o ≡ rows_changed c o
edit_changes n c e own o = e.found n o ∙ cond_true (bytes_eq e.map.table n) (rows_changed c o) o (sym (e.named n) ∙ own)

edit_fits : (n : List ℕ) (ts : List Table) (cs : List Change) (c : Change) → IsEdit c → names_table n c ≡ true → applies c (after_changes cs ts) ≡ true → takes c (found_behind n ts cs) ≡ true
edit_fits n ts cs c e own fit = sym (e.fit (found_behind n ts cs)) ∙ fits_named n c (after_changes cs ts) fit own

pub told_row : (n : List ℕ) (ts : List Table) (cs : List Change) (c : Change) (key : Option ℕ) (moves : Moves) (place : ℕ) (row new : Option (List Value)) → IsEdit c → names_table n c ≡ true
    → MovesOf n ts cs key c moves → new ≡ new_row c → ((rows : List (List Value)) → AreWithin moves new rows → slice_get (edited moves new rows) place ≡ row) → Tells n ts (cs ++ c ∷ []) key place row
told_row n ts cs c key moves place row new e own of is tells =
    told_changed n ts cs c key moves place row (edit_changes n c e own) (edit_fits n ts cs c e own) of
    (λ t makes. ap (λ x. slice_get (edited moves x t.rows) place) (sym is) ∙ tells t.rows (subst (λ x. AreWithin moves x t.rows) (sym is) makes.within))

pub back_row : (n : List ℕ) (ts : List Table) (cs : List Change) (c : Change) (key : Option ℕ) (moves : Moves) (place before : ℕ) (new : Option (List Value)) → IsEdit c → names_table n c ≡ true
    → MovesOf n ts cs key c moves → new ≡ new_row c → ((rows : List (List Value)) → AreWithin moves new rows → slice_get (edited moves new rows) place ≡ slice_get rows before)
    → WalksBack n ts (cs ++ c ∷ []) cs key place before
back_row n ts cs c key moves place before new e own of is stood =
    back_changed n ts cs c key moves place before (edit_changes n c e own) (edit_fits n ts cs c e own) of
    (λ t makes. ap (λ x. slice_get (edited moves x t.rows) place) (sym is) ∙ stood t.rows (subst (λ x. AreWithin moves x t.rows) (sym is) makes.within))

-- what is pending up to a place, and one transaction more

in_parts : (ps qs : List Pending) → changes_in (ps ++ qs) ≡ changes_in ps ++ changes_in qs
in_parts [] qs = refl
in_parts (p ∷ ps) qs = ap (λ l. p.changes ++ l) (in_parts ps qs) ∙ sym (append_assoc p.changes (changes_in ps) (changes_in qs))

one_more : (ps : List Pending) (i : ℕ) (it : Pending) (own : List Change) → i < length ps → it ≡ get_or ps i it → own ≡ it.changes → changes_in (take (i + 1) ps) ≡ changes_in (take i ps) ++ own
one_more ps i it own within at is =
    ap changes_in (take_more ps i it within ∙ ap (λ x. take i ps ++ x ∷ []) (sym at))
    ∙ in_parts (take i ps) (it ∷ [])
    ∙ ap (λ l. changes_in (take i ps) ++ l) (append-nil it.changes ∙ sym is)

pub opens_parts : (cs : List Change) (ps : List Pending) (i : ℕ) (it : Pending) (own : List Change) → i < length ps → it ≡ get_or ps i it → own ≡ it.changes
    → cs ++ changes_in (take (i + 1) ps) ≡ cs ++ changes_in (take i ps) ++ own
opens_parts cs ps i it own within at is = ap (λ l. cs ++ l) (one_more ps i it own within at is) ∙ sym (append_assoc cs (changes_in (take i ps)) own)

pub opens_length : (ps : List Pending) (i : ℕ) (it : Pending) (own : List Change) → i < length ps → it ≡ get_or ps i it → own ≡ it.changes
    → length (changes_in (take (i + 1) ps)) ≡ length (changes_in (take i ps)) + length own
opens_length ps i it own within at is = ap length (one_more ps i it own within at is) ∙ length-append (changes_in (take i ps)) own

pub opens_whole : (cs : List Change) (ps : List Pending) (i : ℕ) → cs ++ changes_in ps ≡ (cs ++ changes_in (take i ps)) ++ changes_in (drop i ps)
opens_whole cs ps i =
    ap (λ l. cs ++ l) (ap changes_in (sym (take-append-drop i ps)) ∙ in_parts (take i ps) (drop i ps)) ∙ sym (append_assoc cs (changes_in (take i ps)) (changes_in (drop i ps)))

-- not more are pending up to a place than in all
pub opens_within : (ps : List Pending) (i : ℕ) → length (changes_in (take i ps)) ≤ length (changes_in ps)
opens_within ps i =
    let whole = ap length (ap changes_in (sym (take-append-drop i ps)) ∙ in_parts (take i ps) (drop i ps)) in
    omega (arith, whole, length-append (changes_in (take i ps)) (changes_in (drop i ps)))
