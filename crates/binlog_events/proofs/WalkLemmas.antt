-- Changes read item by item: what was read is what was written, and what was written is read again.
use Rattle.std.proofs.Common.{◌≡◌, ℕ, Bool, true, false, cond, List, [], ◌∷◌, ◌++◌, Option, Some, None, refl, sym, ap, subst, ◌∙◌, append_assoc, inl, inr, ◌⊎◌, ◌<◌, ◌^◌, arith}
use Rattle.std.specs.Prelude.{◌==◌, not, is_some}
use Rattle.std.specs.Int.{w32, from_le_bytes}
use Rattle.frame_codec.specs.Bytes.{le32}
use Rattle.frame_codec.proofs.FrameLemmas.{length-le32}
use Rattle.std.proofs.lemmas.Bool.{false≢true, eqb-true, cases_Bool, not-false}
use Rattle.frame_codec.specs.Frame.{Event}
use Rattle.sql_value.specs.declared.value.Value.{Value}
use Rattle.row_format.specs.declared.schema.Schema.{Schema}
use Rattle.row_format.specs.declared.change.TableMap.{TableMap}
use Rattle.row_format.specs.declared.change.Change.{Change}
use Rattle.row_format.specs.declared.change.Change.TheVariants.{Install, Uninstall, Create, Drop, Insert, Update, Delete}
use Rattle.sql_value.specs.Names.{IsName}
use Rattle.row_format.specs.Schemas.{same_map, IsSchema}
use Rattle.row_format.specs.Spelling.{counted, schema_spelling, map_spelling, row_image}
use Rattle.row_format.specs.Changes.{IsMap, IsPlace, IsFitChange, AreFitChanges}
use Rattle.binlog_events.specs.Changes.{map_event, change_event, map_of, map_for, needs_map, change_events}
use Rattle.row_format.specs.Reading.{◌>>=◌, where_so, byte_at, piece_at, name_at, schema_at, map_at, row_at}
use Rattle.binlog_events.specs.Walking.{Before, Other, RowOf, MapOf, behind, before_of, Item, create_at, named_at, query_of, query_at, query_item, may_follow, map_item, is_place, place_at, insert_at, update_at, delete_at, row_change_at, map_before, row_item, item_at, may_end}
use Rattle.row_format.proofs.PieceLemmas.{IsBytes, bind_some, some_is, where_some, where_true, Took, Took-then, byte_takes, piece_takes, piece_again, name_takes, name_again, le32_back, le32_again, le32_below}
use Rattle.row_format.proofs.SchemaLemmas.{schema_takes, schema_again, map_takes, map_again}
use Rattle.row_format.proofs.RowLemmas.{row_takes, row_again}
use Rattle.row_format.proofs.SameLemmas.{same_map-true, same_map_refl}

-- A QUERY.

-- a change that has no row
pub record IsQuery (change : Change) : Type 0 where
  pub fit : IsFitChange change
  pub no_map : map_of change ≡ None
  pub kind : (change_event change).kind ≡ 2

create_takes : (bytes rest : List ℕ) (it : Change × List ℕ) → Took bytes (2 ∷ []) rest → create_at rest ≡ Some it → Took bytes (change_event it.0).body it.1 × IsQuery it.0
unfolding create_at
create_takes bytes rest it first is =
    let b = bind_some (name_at rest) (λ table. name_at table.1 >>= λ engine. schema_at engine.1 >>= λ schema. Some (Create table.0 engine.0 schema.0, schema.1)) it is in
    let d = bind_some (name_at b.0.1) (λ engine. schema_at engine.1 >>= λ schema. Some (Create b.0.0 engine.0 schema.0, schema.1)) it b.2 in
    let e = bind_some (schema_at d.0.1) (λ schema. Some (Create b.0.0 d.0.0 schema.0, schema.1)) it d.2 in
    let table = name_takes rest b.0 first.rest_bytes b.1 in
    let engine = name_takes b.0.1 d.0 table.0.rest_bytes d.1 in
    let schema = schema_takes d.0.1 e.0 engine.0.rest_bytes e.1 in
    let behind = Took-then b.0.1 (counted d.0.0) d.0.1 (schema_spelling e.0.0) e.0.1 engine.0 schema.0 in
    let all = Took-then bytes (2 ∷ []) rest (counted b.0.0 ++ (counted d.0.0 ++ schema_spelling e.0.0)) e.0.1 first
    (Took-then rest (counted b.0.0) b.0.1 (counted d.0.0 ++ schema_spelling e.0.0) e.0.1 table.0 behind) in
    subst (λ (x : Change × List ℕ). Took bytes (change_event x.0).body x.1 × IsQuery x.0) {x = (Create b.0.0 d.0.0 e.0.0, e.0.1)} (some_is (Create b.0.0 d.0.0 e.0.0, e.0.1) it e.2)
    (all, record { fit = (table.1, engine.1, schema.1); no_map = refl; kind = refl })

named_takes : (code : ℕ) (make : List ℕ → Change) → ((name : List ℕ) → (change_event (make name)).body ≡ code ∷ counted name) → ((name : List ℕ) → IsName name → IsQuery (make name))
    → (bytes rest : List ℕ) (it : Change × List ℕ) → Took bytes (code ∷ []) rest → named_at make rest ≡ Some it → Took bytes (change_event it.0).body it.1 × IsQuery it.0
unfolding named_at
named_takes code make body query bytes rest it first is =
    let b = bind_some (name_at rest) (λ name. Some (make name.0, name.1)) it is in
    let name = name_takes rest b.0 first.rest_bytes b.1 in
    let all = Took-then bytes (code ∷ []) rest (counted b.0.0) b.0.1 first name.0 in
    subst (λ (x : Change × List ℕ). Took bytes (change_event x.0).body x.1 × IsQuery x.0) {x = (make b.0.0, b.0.1)} (some_is (make b.0.0, b.0.1) it b.2)
    (subst (λ (t : List ℕ). Took bytes t b.0.1) (sym (body b.0.0)) all, query b.0.0 name.1)

-- something was read under a test, or behind it
chosen : {A : Type 0} (b : Bool) (x y : Option A) (it : A) → cond b x y ≡ Some it → ((b ≡ true) × (x ≡ Some it)) ⊎ ((b ≡ false) × (y ≡ Some it))
chosen true x y it is = inl (refl, is)
chosen false x y it is = inr (refl, is)

none_is : {A : Type 0} (it : A) → None ≡ Some it → ⊥
none_is it e = cc

query_of_takes : (bytes rest : List ℕ) (byte : ℕ) (it : Change × List ℕ) → Took bytes (byte ∷ []) rest → query_of byte rest ≡ Some it → Took bytes (change_event it.0).body it.1 × IsQuery it.0
query_of_takes bytes rest byte it first is =
    let code : (n : ℕ) → (byte == n) ≡ true → Took bytes (n ∷ []) rest = λ n same. subst (λ (b : ℕ). Took bytes (b ∷ []) rest) (eqb-true byte n same) first in
    elim (chosen (byte == 2) (create_at rest) (cond (byte == 3) (named_at Drop rest) (cond (byte == 4) (named_at Install rest) (cond (byte == 5) (named_at Uninstall rest) None))) it is) [
      | inl create ↦ create_takes bytes rest it (code 2 create.0) create.1
      | inr more ↦ elim (chosen (byte == 3) (named_at Drop rest) (cond (byte == 4) (named_at Install rest) (cond (byte == 5) (named_at Uninstall rest) None)) it more.1) [
        | inl drop ↦ named_takes 3 Drop (λ name. refl) (λ name named. record { fit = named; no_map = refl; kind = refl }) bytes rest it (code 3 drop.0) drop.1
        | inr more ↦ elim (chosen (byte == 4) (named_at Install rest) (cond (byte == 5) (named_at Uninstall rest) None) it more.1) [
          | inl install ↦ named_takes 4 Install (λ name. refl) (λ name named. record { fit = named; no_map = refl; kind = refl }) bytes rest it (code 4 install.0) install.1
          | inr more ↦ elim (chosen (byte == 5) (named_at Uninstall rest) None it more.1) [
            | inl uninstall ↦ named_takes 5 Uninstall (λ name. refl) (λ name named. record { fit = named; no_map = refl; kind = refl }) bytes rest it (code 5 uninstall.0) uninstall.1
            | inr more ↦ absurd (none_is it more.1)
          ]
        ]
      ]
    ]

pub query_takes : (bytes : List ℕ) (it : Change × List ℕ) → IsBytes bytes → query_at bytes ≡ Some it → Took bytes (change_event it.0).body it.1 × IsQuery it.0
unfolding query_at
query_takes bytes it fits is =
    let b = bind_some (byte_at bytes) (λ byte. query_of byte.0 byte.1) it is in
    query_of_takes bytes b.0.1 b.0.0 it (byte_takes bytes b.0 fits b.1).0 b.2

create_again : (table engine : List ℕ) (schema : Schema) (rest : List ℕ) → IsName table → IsName engine → IsSchema schema
    → create_at ((counted table ++ (counted engine ++ schema_spelling schema)) ++ rest) ≡ Some (Create table engine schema, rest)
unfolding create_at
create_again table engine schema rest named_table named_engine is =
    let regrouped : (counted table ++ (counted engine ++ schema_spelling schema)) ++ rest ≡ counted table ++ (counted engine ++ (schema_spelling schema ++ rest)) =
    append_assoc (counted table) (counted engine ++ schema_spelling schema) rest ∙ ap (λ (l : List ℕ). counted table ++ l) (append_assoc (counted engine) (schema_spelling schema) rest) in
    ap create_at regrouped
    ∙ rw (name_again table (counted engine ++ (schema_spelling schema ++ rest)) named_table, name_again engine (schema_spelling schema ++ rest) named_engine, schema_again schema rest is) refl

named_again : (make : List ℕ → Change) (name rest : List ℕ) → IsName name → named_at make (counted name ++ rest) ≡ Some (make name, rest)
unfolding named_at
named_again make name rest named = rw (name_again name rest named) refl

pub query_again : (change : Change) (rest : List ℕ) → IsFitChange change → map_of change ≡ None → query_at ((change_event change).body ++ rest) ≡ Some (change, rest)
unfolding query_at
query_again (Install name) rest fit no_map = named_again Install name rest fit
query_again (Uninstall name) rest fit no_map = named_again Uninstall name rest fit
query_again (Drop table) rest fit no_map = named_again Drop table rest fit
query_again (Create table engine schema) rest fit no_map = create_again table engine schema rest fit.0 fit.1 fit.2
query_again (Insert map row) rest fit no_map = absurd cc
query_again (Update map place before after) rest fit no_map = absurd cc
query_again (Delete map place before) rest fit no_map = absurd cc

-- Row changes.

-- a row change of the table of this map, whose event has this type
pub record IsRowChange (map : TableMap) (kind : ℕ) (change : Change) : Type 0 where
  pub fit : IsFitChange change
  pub mapped : map_of change ≡ Some map
  pub typed : (change_event change).kind ≡ kind

place_takes : (key : Option ℕ) (bytes : List ℕ) (it : ℕ × List ℕ) → IsBytes bytes → place_at key bytes ≡ Some it → Took bytes (le32 it.0) it.1 × IsPlace key it.0
unfolding place_at
place_takes key bytes it fits is =
    let b = bind_some (piece_at 4 bytes) (λ x. where_so (is_place key (from_le_bytes w32 x.0)) (from_le_bytes w32 x.0, x.1)) it is in
    let piece = piece_takes 4 bytes b.0 fits b.1 in
    let found = where_some (is_place key (from_le_bytes w32 b.0.0)) (from_le_bytes w32 b.0.0, b.0.1) it b.2 in
    let back = le32_back b.0.0 piece.1 piece.2 in
    subst (λ (x : ℕ × List ℕ). Took bytes (le32 x.0) x.1 × IsPlace key x.0) found.1
    (subst (λ (t : List ℕ). Took bytes t b.0.1) (sym back) piece.0, placed key (from_le_bytes w32 b.0.0) found.0 (le32_below b.0.0 piece.2))
  where
    placed : (key : Option ℕ) (place : ℕ) → is_place key place ≡ true → place < 2 ^ 32 → IsPlace key place
    placed None place so below = below
    placed (Some column) place so below = eqb-true place 0 so

insert_takes : (map : TableMap) (bytes : List ℕ) (it : Change × List ℕ) → IsMap map → IsBytes bytes → insert_at map bytes ≡ Some it
    → Took bytes (change_event it.0).body it.1 × IsRowChange map 30 it.0
unfolding insert_at
insert_takes map bytes it is fits read =
    let b = bind_some (row_at map.schema bytes) (λ row. Some (Insert map row.0, row.1)) it read in
    let row = row_takes map.schema bytes b.0 fits b.1 in
    subst (λ (x : Change × List ℕ). Took bytes (change_event x.0).body x.1 × IsRowChange map 30 x.0) {x = (Insert map b.0.0, b.0.1)} (some_is (Insert map b.0.0, b.0.1) it b.2)
    (row.0, record { fit = (is, row.1); mapped = refl; typed = refl })

update_takes : (map : TableMap) (bytes : List ℕ) (it : Change × List ℕ) → IsMap map → IsBytes bytes → update_at map bytes ≡ Some it
    → Took bytes (change_event it.0).body it.1 × IsRowChange map 31 it.0
unfolding update_at
update_takes map bytes it is fits read =
    let b = bind_some (place_at map.schema.key bytes) (λ place. row_at map.schema place.1 >>= λ before. row_at map.schema before.1 >>= λ after. Some (Update map place.0 before.0 after.0, after.1)) it read in
    let d = bind_some (row_at map.schema b.0.1) (λ before. row_at map.schema before.1 >>= λ after. Some (Update map b.0.0 before.0 after.0, after.1)) it b.2 in
    let e = bind_some (row_at map.schema d.0.1) (λ after. Some (Update map b.0.0 d.0.0 after.0, after.1)) it d.2 in
    let place = place_takes map.schema.key bytes b.0 fits b.1 in
    let before = row_takes map.schema b.0.1 d.0 place.0.rest_bytes d.1 in
    let after = row_takes map.schema d.0.1 e.0 before.0.rest_bytes e.1 in
    let rows = Took-then b.0.1 (row_image d.0.0) d.0.1 (row_image e.0.0) e.0.1 before.0 after.0 in
    let all = Took-then bytes (le32 b.0.0) b.0.1 (row_image d.0.0 ++ row_image e.0.0) e.0.1 place.0 rows in
    subst (λ (x : Change × List ℕ). Took bytes (change_event x.0).body x.1 × IsRowChange map 31 x.0) {x = (Update map b.0.0 d.0.0 e.0.0, e.0.1)} (some_is (Update map b.0.0 d.0.0 e.0.0, e.0.1) it e.2)
    (all, record { fit = (record { mapped = is; placed = place.1; suits = before.1 }, after.1); mapped = refl; typed = refl })

delete_takes : (map : TableMap) (bytes : List ℕ) (it : Change × List ℕ) → IsMap map → IsBytes bytes → delete_at map bytes ≡ Some it
    → Took bytes (change_event it.0).body it.1 × IsRowChange map 32 it.0
unfolding delete_at
delete_takes map bytes it is fits read =
    let b = bind_some (place_at map.schema.key bytes) (λ place. row_at map.schema place.1 >>= λ before. Some (Delete map place.0 before.0, before.1)) it read in
    let d = bind_some (row_at map.schema b.0.1) (λ before. Some (Delete map b.0.0 before.0, before.1)) it b.2 in
    let place = place_takes map.schema.key bytes b.0 fits b.1 in
    let before = row_takes map.schema b.0.1 d.0 place.0.rest_bytes d.1 in
    let all = Took-then bytes (le32 b.0.0) b.0.1 (row_image d.0.0) d.0.1 place.0 before.0 in
    subst (λ (x : Change × List ℕ). Took bytes (change_event x.0).body x.1 × IsRowChange map 32 x.0) {x = (Delete map b.0.0 d.0.0, d.0.1)} (some_is (Delete map b.0.0 d.0.0, d.0.1) it d.2)
    (all, record { fit = record { mapped = is; placed = place.1; suits = before.1 }; mapped = refl; typed = refl })

row_change_takes : (kind : ℕ) (map : TableMap) (bytes : List ℕ) (it : Change × List ℕ) → IsMap map → IsBytes bytes → row_change_at kind map bytes ≡ Some it
    → Took bytes (change_event it.0).body it.1 × IsRowChange map kind it.0
row_change_takes kind map bytes it is fits read =
    let P : ℕ → Type 0 = λ k. Took bytes (change_event it.0).body it.1 × IsRowChange map k it.0 in
    elim (chosen (kind == 30) (insert_at map bytes) (cond (kind == 31) (update_at map bytes) (cond (kind == 32) (delete_at map bytes) None)) it read) [
      | inl insert ↦ subst P (sym (eqb-true kind 30 insert.0)) (insert_takes map bytes it is fits insert.1)
      | inr more ↦ elim (chosen (kind == 31) (update_at map bytes) (cond (kind == 32) (delete_at map bytes) None) it more.1) [
        | inl update ↦ subst P (sym (eqb-true kind 31 update.0)) (update_takes map bytes it is fits update.1)
        | inr more ↦ elim (chosen (kind == 32) (delete_at map bytes) None it more.1) [
          | inl delete ↦ subst P (sym (eqb-true kind 32 delete.0)) (delete_takes map bytes it is fits delete.1)
          | inr more ↦ absurd (none_is it more.1)
        ]
      ]
    ]

place_again : (key : Option ℕ) (place : ℕ) (rest : List ℕ) → IsPlace key place → place_at key (le32 place ++ rest) ≡ Some (place, rest)
unfolding place_at
place_again key place rest is =
    let small : place < 2 ^ 32 = below key place is in
    let so : is_place key (from_le_bytes w32 (le32 place)) ≡ true = ap (is_place key) (le32_again place small) ∙ allowed key place is in
    ap (λ (o : Option (List ℕ × List ℕ)). o >>= λ x. where_so (is_place key (from_le_bytes w32 x.0)) (from_le_bytes w32 x.0, x.1)) (piece_again 4 (le32 place) rest (length-le32 place))
    ∙ where_true (is_place key (from_le_bytes w32 (le32 place))) (from_le_bytes w32 (le32 place), rest) so
    ∙ ap (λ (n : ℕ). Some (n, rest)) (le32_again place small)
  where
    below : (key : Option ℕ) (place : ℕ) → IsPlace key place → place < 2 ^ 32
    below None place is = is
    below (Some column) place is = subst (λ (n : ℕ). n < 2 ^ 32) (sym is) (omega arith)

    allowed : (key : Option ℕ) (place : ℕ) → IsPlace key place → is_place key place ≡ true
    allowed None place is = refl
    allowed (Some column) place is = ap (λ (n : ℕ). n == 0) is

insert_again : (map : TableMap) (row : List Value) (rest : List ℕ) → IsFitChange (Insert map row) → insert_at map (row_image row ++ rest) ≡ Some (Insert map row, rest)
unfolding insert_at
insert_again map row rest fit = rw (row_again map.schema row rest fit.0.schema fit.1) refl

update_again : (map : TableMap) (place : ℕ) (before after : List Value) (rest : List ℕ) → IsFitChange (Update map place before after)
    → update_at map ((le32 place ++ (row_image before ++ row_image after)) ++ rest) ≡ Some (Update map place before after, rest)
unfolding update_at
update_again map place before after rest fit =
    let schema = fit.0.mapped.schema in
    let regrouped : (le32 place ++ (row_image before ++ row_image after)) ++ rest ≡ le32 place ++ (row_image before ++ (row_image after ++ rest)) =
    append_assoc (le32 place) (row_image before ++ row_image after) rest ∙ ap (λ (l : List ℕ). le32 place ++ l) (append_assoc (row_image before) (row_image after) rest) in
    ap (update_at map) regrouped
    ∙ rw (place_again map.schema.key place (row_image before ++ (row_image after ++ rest)) fit.0.placed, row_again map.schema before (row_image after ++ rest) schema fit.0.suits, row_again map.schema after rest schema fit.1) refl

delete_again : (map : TableMap) (place : ℕ) (before : List Value) (rest : List ℕ) → IsFitChange (Delete map place before)
    → delete_at map ((le32 place ++ row_image before) ++ rest) ≡ Some (Delete map place before, rest)
unfolding delete_at
delete_again map place before rest fit =
    ap (delete_at map) (append_assoc (le32 place) (row_image before) rest)
    ∙ rw (place_again map.schema.key place (row_image before ++ rest) fit.placed, row_again map.schema before rest fit.mapped.schema fit.suits) refl

-- a row change is read again
row_change_again : (map : TableMap) (change : Change) (rest : List ℕ) → IsFitChange change → map_of change ≡ Some map
    → row_change_at (change_event change).kind map ((change_event change).body ++ rest) ≡ Some (change, rest)
row_change_again map (Insert m row) rest fit at = subst (λ (x : TableMap). insert_at x (row_image row ++ rest) ≡ Some (Insert m row, rest)) (some_is m map at) (insert_again m row rest fit)
row_change_again map (Update m place before after) rest fit at =
    subst (λ (x : TableMap). update_at x ((le32 place ++ (row_image before ++ row_image after)) ++ rest) ≡ Some (Update m place before after, rest)) (some_is m map at) (update_again m place before after rest fit)
row_change_again map (Delete m place before) rest fit at =
    subst (λ (x : TableMap). delete_at x ((le32 place ++ row_image before) ++ rest) ≡ Some (Delete m place before, rest)) (some_is m map at) (delete_again m place before rest fit)
row_change_again map (Install name) rest fit at = absurd (none_is map at)
row_change_again map (Uninstall name) rest fit at = absurd (none_is map at)
row_change_again map (Create table engine schema) rest fit at = absurd (none_is map at)
row_change_again map (Drop table) rest fit at = absurd (none_is map at)

-- Items.

-- what stands before an item has a map that can be spelt, if it has one
abbrev pub IsKnown : Before → Type 0
IsKnown Other = Unit {0}
IsKnown (RowOf map) = IsMap map
IsKnown (MapOf map) = IsMap map

-- the first of these changes is a row change with this table map
pub record BeginsWith (map : TableMap) (changes : List Change) : Type 0 where
  pub first : Change
  pub rest : List Change
  pub is : changes ≡ first ∷ rest
  pub mapped : map_of first ≡ Some map

-- behind a table map the first change is a row change with it
abbrev pub Follows : Before → List Change → Type 0
Follows (MapOf map) changes = BeginsWith map changes
Follows _ changes = Unit {0}

-- The item with this type and body, and the events of the changes behind it, are the events of them all.
pub record Leads (before : Before) (kind : ℕ) (body : List ℕ) (it : Item) : Type 0 where
  pub known : IsKnown it.before
  pub events : (more : List Change) → Follows it.before more → change_events (map_before before) (it.changes ++ more) ≡ record { kind = kind; body = body } ∷ change_events (map_before it.before) more
  pub fit : (more : List Change) → AreFitChanges more → AreFitChanges (it.changes ++ more)
  pub follows : (more : List Change) → Follows it.before more → Follows before (it.changes ++ more)

-- an item was read from the front of these bytes
pub record ItemTook (before : Before) (kind : ℕ) (bytes : List ℕ) (it : Item × List ℕ) : Type 0 where
  pub body : List ℕ
  pub took : Took bytes body it.1
  pub leads : Leads before kind body it.0

query_events : (before : Option TableMap) (change : Change) (more : List Change) → IsQuery change
    → change_events before (change ∷ more) ≡ record { kind = 2; body = (change_event change).body } ∷ change_events None more
query_events before change more is =
    ap (λ (o : Option TableMap). map_for before o ++ change_event change ∷ change_events o more) is.no_map
    ∙ ap (λ (k : ℕ). record { kind = k; body = (change_event change).body } ∷ change_events None more) is.kind

query_leads : (before : Before) (change : Change) → IsQuery change → ((changes : List Change) → Follows before changes)
    → Leads before 2 (change_event change).body (record { changes = change ∷ []; before = Other })
query_leads before change is free = record {
  known = tt;
  events = λ more follows. query_events (map_before before) change more is;
  fit = λ more fits. (is.fit, fits);
  follows = λ more follows. free (change ∷ more);
}

query_read : (before : Before) (bytes : List ℕ) (it : Item × List ℕ) → ((changes : List Change) → Follows before changes) → IsBytes bytes
    → (query_at bytes >>= λ x. Some (record { changes = x.0 ∷ []; before = Other }, x.1)) ≡ Some it → ItemTook before 2 bytes it
query_read before bytes it free fits is =
    let b = bind_some (query_at bytes) (λ x. Some (record { changes = x.0 ∷ []; before = Other }, x.1)) it is in
    let query = query_takes bytes b.0 fits b.1 in
    subst (ItemTook before 2 bytes) {x = (record { changes = b.0.0 ∷ []; before = Other }, b.0.1)} (some_is (record { changes = b.0.0 ∷ []; before = Other }, b.0.1) it b.2)
    (record { body = (change_event b.0.0).body; took = query.0; leads = query_leads before b.0.0 query.1 free })

query_item_takes : (before : Before) (bytes : List ℕ) (it : Item × List ℕ) → IsBytes bytes → query_item before bytes ≡ Some it → ItemTook before 2 bytes it
query_item_takes Other bytes it fits is = query_read Other bytes it (λ changes. tt) fits is
query_item_takes (RowOf map) bytes it fits is = query_read (RowOf map) bytes it (λ changes. tt) fits is
query_item_takes (MapOf map) bytes it fits is = absurd cc

needs_true : (before : Before) (map : TableMap) → may_follow before map ≡ true → needs_map (map_before before) map ≡ true
needs_true Other map is = refl
needs_true (RowOf it) map is = is
needs_true (MapOf it) map is = absurd cc

may_not_wait : (before : Before) (map : TableMap) → may_follow before map ≡ true → (changes : List Change) → Follows before changes
may_not_wait Other map is changes = tt
may_not_wait (RowOf it) map is changes = tt
may_not_wait (MapOf it) map is changes = absurd cc

-- behind its own map a row change has none before it
own_map : (map : TableMap) → needs_map (Some map) map ≡ false
own_map map = ap not (same_map_refl map)

row_events : (map : TableMap) (change : Change) (more : List Change) → map_of change ≡ Some map
    → change_events (Some map) (change ∷ more) ≡ change_event change ∷ change_events (Some map) more
row_events map change more at =
    ap (λ (o : Option TableMap). map_for (Some map) o ++ change_event change ∷ change_events o more) at
    ∙ ap (λ (b : Bool). cond b (map_event map ∷ []) [] ++ change_event change ∷ change_events (Some map) more) (own_map map)

map_leads : (before : Before) (map : TableMap) → may_follow before map ≡ true → IsMap map → Leads before 19 (map_spelling map) (record { changes = []; before = MapOf map })
map_leads before map may is = record {
  known = is;
  events = λ more follows.
      ap (change_events (map_before before)) follows.is
      ∙ ap (λ (o : Option TableMap). map_for (map_before before) o ++ change_event follows.first ∷ change_events o follows.rest) follows.mapped
      ∙ ap (λ (b : Bool). cond b (map_event map ∷ []) [] ++ change_event follows.first ∷ change_events (Some map) follows.rest) (needs_true before map may)
      ∙ ap (λ (l : List Event). map_event map ∷ l) (sym (row_events map follows.first follows.rest follows.mapped))
      ∙ ap (λ (l : List Change). map_event map ∷ change_events (Some map) l) (sym follows.is);
  fit = λ more fits. fits;
  follows = λ more follows. may_not_wait before map may more;
}

map_item_takes : (before : Before) (bytes : List ℕ) (it : Item × List ℕ) → IsBytes bytes → map_item before bytes ≡ Some it → ItemTook before 19 bytes it
map_item_takes before bytes it fits is =
    let b = bind_some (map_at bytes) (λ x. where_so (may_follow before x.0) (record { changes = []; before = MapOf x.0 }, x.1)) it is in
    let map = map_takes bytes b.0 fits b.1 in
    let found = where_some (may_follow before b.0.0) (record { changes = []; before = MapOf b.0.0 }, b.0.1) it b.2 in
    subst (ItemTook before 19 bytes) {x = (record { changes = []; before = MapOf b.0.0 }, b.0.1)} found.1
    (record { body = map_spelling b.0.0; took = map.0; leads = map_leads before b.0.0 found.0 map.1 })

row_leads : (before : Before) (map : TableMap) (kind : ℕ) (change : Change) → map_before before ≡ Some map → IsMap map → IsRowChange map kind change
    → ((rest : List Change) → Follows before (change ∷ rest)) → Leads before kind (change_event change).body (record { changes = change ∷ []; before = RowOf map })
row_leads before map kind change at is it follows = record {
  known = is;
  events = λ more free.
      ap (λ (o : Option TableMap). change_events o (change ∷ more)) at
      ∙ row_events map change more it.mapped
      ∙ ap (λ (k : ℕ). record { kind = k; body = (change_event change).body } ∷ change_events (Some map) more) it.typed;
  fit = λ more fit. (it.fit, fit);
  follows = λ more free. follows more;
}

row_read : (before : Before) (map : TableMap) (kind : ℕ) (bytes : List ℕ) (it : Item × List ℕ) → map_before before ≡ Some map → IsMap map
    → ((change : Change) (rest : List Change) → map_of change ≡ Some map → Follows before (change ∷ rest)) → IsBytes bytes
    → (row_change_at kind map bytes >>= λ x. Some (record { changes = x.0 ∷ []; before = RowOf map }, x.1)) ≡ Some it → ItemTook before kind bytes it
row_read before map kind bytes it at is follows fits read =
    let b = bind_some (row_change_at kind map bytes) (λ x. Some (record { changes = x.0 ∷ []; before = RowOf map }, x.1)) it read in
    let change = row_change_takes kind map bytes b.0 is fits b.1 in
    subst (ItemTook before kind bytes) {x = (record { changes = b.0.0 ∷ []; before = RowOf map }, b.0.1)} (some_is (record { changes = b.0.0 ∷ []; before = RowOf map }, b.0.1) it b.2)
    (record { body = (change_event b.0.0).body; took = change.0; leads = row_leads before map kind b.0.0 at is change.1 (λ rest. follows b.0.0 rest change.1.mapped) })

row_item_takes : (before : Before) (kind : ℕ) (bytes : List ℕ) (it : Item × List ℕ) → IsKnown before → IsBytes bytes → row_item before kind bytes ≡ Some it → ItemTook before kind bytes it
row_item_takes Other kind bytes it known fits is = absurd cc
row_item_takes (RowOf map) kind bytes it known fits is = row_read (RowOf map) map kind bytes it refl known (λ change rest mapped. tt) fits is
row_item_takes (MapOf map) kind bytes it known fits is =
    row_read (MapOf map) map kind bytes it refl known (λ change rest mapped. record { first = change; rest = rest; is = refl; mapped = mapped }) fits is

pub item_takes : (before : Before) (kind : ℕ) (bytes : List ℕ) (it : Item × List ℕ) → IsKnown before → IsBytes bytes → item_at before kind bytes ≡ Some it → ItemTook before kind bytes it
unfolding item_at
item_takes before kind bytes it known fits is = elim (chosen (kind == 2) (query_item before bytes) (cond (kind == 19) (map_item before bytes) (row_item before kind bytes)) it is) [
  | inl query ↦ subst (λ (k : ℕ). ItemTook before k bytes it) (sym (eqb-true kind 2 query.0)) (query_item_takes before bytes it fits query.1)
  | inr more ↦ elim (chosen (kind == 19) (map_item before bytes) (row_item before kind bytes) it more.1) [
    | inl map ↦ subst (λ (k : ℕ). ItemTook before k bytes it) (sym (eqb-true kind 19 map.0)) (map_item_takes before bytes it fits map.1)
    | inr row ↦ row_item_takes before kind bytes it known fits row.1
  ]
]

-- The other way round.

-- Events are read one by one, whatever follows each of them: from what stands before, changes, and what then stands before the next.
abbrev pub Reads : Before → List Event → List Change → Before → Type 0
Reads before [] changes end = (changes ≡ []) × (end ≡ before)
Reads before (event ∷ events) changes end =
    (it : Item) × (more : List Change) × ((rest : List ℕ) → item_at before event.kind (event.body ++ rest) ≡ Some (it, rest)) × Reads it.before events more end × (changes ≡ it.changes ++ more)

query_item_again : (before : Before) (change : Change) (rest : List ℕ) → may_end before ≡ true → IsFitChange change → map_of change ≡ None
    → query_item before ((change_event change).body ++ rest) ≡ Some (record { changes = change ∷ []; before = Other }, rest)
query_item_again Other change rest ends fit no_map = rw (query_again change rest fit no_map) refl
query_item_again (RowOf map) change rest ends fit no_map = rw (query_again change rest fit no_map) refl
query_item_again (MapOf map) change rest ends fit no_map = absurd cc

-- a QUERY that was read, where no table map waits
pub query_item_is : (waiting last : Option TableMap) (bytes : List ℕ) (change : Change) (rest : List ℕ) → is_some waiting ≡ false → query_at bytes ≡ Some (change, rest)
    → map_of change ≡ None → query_item (before_of waiting last) bytes ≡ Some (record { changes = change ∷ []; before = behind (map_of change) }, rest)
query_item_is (Some map) last bytes change rest free is no_map = absurd (false≢true (sym free))
query_item_is None None bytes change rest free is no_map = rw is (rw no_map refl)
query_item_is None (Some map) bytes change rest free is no_map = rw is (rw no_map refl)

query_item_at : (before : Before) (bytes : List ℕ) → item_at before 2 bytes ≡ query_item before bytes
unfolding item_at
query_item_at before bytes = refl

map_item_at : (before : Before) (bytes : List ℕ) → item_at before 19 bytes ≡ map_item before bytes
unfolding item_at
map_item_at before bytes = refl

row_item_at : (before : Before) (change : Change) (map : TableMap) (bytes : List ℕ) → map_of change ≡ Some map
    → item_at before (change_event change).kind bytes ≡ row_item before (change_event change).kind bytes
unfolding item_at
row_item_at before (Insert m row) map bytes at = refl
row_item_at before (Update m place old new) map bytes at = refl
row_item_at before (Delete m place old) map bytes at = refl
row_item_at before (Install name) map bytes at = absurd (none_is map at)
row_item_at before (Uninstall name) map bytes at = absurd (none_is map at)
row_item_at before (Create table engine schema) map bytes at = absurd (none_is map at)
row_item_at before (Drop table) map bytes at = absurd (none_is map at)

map_item_again : (before : Before) (map : TableMap) (rest : List ℕ) → may_follow before map ≡ true → IsMap map
    → map_item before (map_spelling map ++ rest) ≡ Some (record { changes = []; before = MapOf map }, rest)
map_item_again before map rest may is = rw (map_again map rest is) (where_true (may_follow before map) (record { changes = []; before = MapOf map }, rest) may)

row_item_again : (before : Before) (map : TableMap) (change : Change) (rest : List ℕ) → map_before before ≡ Some map → IsFitChange change → map_of change ≡ Some map
    → item_at before (change_event change).kind ((change_event change).body ++ rest) ≡ Some (record { changes = change ∷ []; before = RowOf map }, rest)
row_item_again before map change rest at fit mapped =
    let kind = (change_event change).kind in
    let bytes = (change_event change).body ++ rest in
    row_item_at before change map bytes mapped
    ∙ ap (λ (o : Option TableMap). o >>= λ m. row_change_at kind m bytes >>= λ x. Some (record { changes = x.0 ∷ []; before = RowOf m }, x.1)) at
    ∙ ap (λ (o : Option (Change × List ℕ)). o >>= λ x. Some (record { changes = x.0 ∷ []; before = RowOf map }, x.1)) (row_change_again map change rest fit mapped)

may_from_needs : (before : Before) (map : TableMap) → may_end before ≡ true → needs_map (map_before before) map ≡ true → may_follow before map ≡ true
may_from_needs Other map ends needs = refl
may_from_needs (RowOf it) map ends needs = needs
may_from_needs (MapOf it) map ends needs = absurd cc

map_from_same : (before : Before) (map : TableMap) → needs_map (map_before before) map ≡ false → map_before before ≡ Some map
map_from_same Other map needs = absurd cc
map_from_same (RowOf it) map needs = ap Some (same_map-true it map (not-false (same_map it map) needs))
map_from_same (MapOf it) map needs = ap Some (same_map-true it map (not-false (same_map it map) needs))

-- the map of a row change that fits can be spelt
map_of_fit : (change : Change) (map : TableMap) → IsFitChange change → map_of change ≡ Some map → IsMap map
map_of_fit (Insert m row) map fit at = subst IsMap (some_is m map at) fit.0
map_of_fit (Update m place before after) map fit at = subst IsMap (some_is m map at) fit.0.mapped
map_of_fit (Delete m place before) map fit at = subst IsMap (some_is m map at) fit.mapped
map_of_fit (Install name) map fit at = absurd (none_is map at)
map_of_fit (Uninstall name) map fit at = absurd (none_is map at)
map_of_fit (Create table engine schema) map fit at = absurd (none_is map at)
map_of_fit (Drop table) map fit at = absurd (none_is map at)

-- what is read from the events of a list that stands behind a change with this table map
abbrev pub ReadsAll : Before → List Event → List Change → Type 0
ReadsAll before events changes = (end : Before) × (may_end end ≡ true) × Reads before events changes end

-- a change without a map, and those behind it
query_first : (before : Before) (change : Change) (changes : List Change) → may_end before ≡ true → IsFitChange change → map_of change ≡ None → (change_event change).kind ≡ 2
    → ReadsAll Other (change_events None changes) changes → ReadsAll before (change_event change ∷ change_events None changes) (change ∷ changes)
query_first before change changes ends fit no_map typed more = (
  more.0,
  more.1,
  (
    record { changes = change ∷ []; before = Other },
    changes,
    λ rest. ap (λ (k : ℕ). item_at before k ((change_event change).body ++ rest)) typed ∙ query_item_at before _ ∙ query_item_again before change rest ends fit no_map,
    more.2,
    refl,
  ),
)

-- a row change, and those behind it
row_first : (before : Before) (change : Change) (map : TableMap) (changes : List Change) → may_end before ≡ true → IsFitChange change → map_of change ≡ Some map
    → ReadsAll (RowOf map) (change_events (Some map) changes) changes
    → ReadsAll before (cond (needs_map (map_before before) map) (map_event map ∷ []) [] ++ change_event change ∷ change_events (Some map) changes) (change ∷ changes)
row_first before change map changes ends fit mapped more = elim (cases_Bool (needs_map (map_before before) map)) [
  | inl needs ↦ (
    more.0,
    more.1,
    subst (λ (l : List Event). Reads before l (change ∷ changes) more.0) (ap (λ (b : Bool). cond b (map_event map ∷ []) [] ++ change_event change ∷ change_events (Some map) changes) (sym needs)) (
      record { changes = []; before = MapOf map },
      change ∷ changes,
      λ rest. map_item_at before _ ∙ map_item_again before map rest (may_from_needs before map ends needs) (map_of_fit change map fit mapped),
      (record { changes = change ∷ []; before = RowOf map }, changes, λ rest. row_item_again (MapOf map) map change rest refl fit mapped, more.2, refl),
      refl,
    ),
  )
  | inr not_needed ↦ (
    more.0,
    more.1,
    subst (λ (l : List Event). Reads before l (change ∷ changes) more.0) (ap (λ (b : Bool). cond b (map_event map ∷ []) [] ++ change_event change ∷ change_events (Some map) changes) (sym not_needed)) (
      record { changes = change ∷ []; before = RowOf map },
      changes,
      λ rest. row_item_again before map change rest (map_from_same before map not_needed) fit mapped,
      more.2,
      refl,
    ),
  )
]

-- fit changes are read back from their events
pub changes_again : (before : Before) (changes : List Change) → may_end before ≡ true → AreFitChanges changes
    → (end : Before) × (may_end end ≡ true) × Reads before (change_events (map_before before) changes) changes end
changes_again before [] ends fit = (before, ends, (refl, refl))
changes_again before (Install name ∷ changes) ends fit = query_first before (Install name) changes ends fit.0 refl refl (changes_again Other changes refl fit.1)
changes_again before (Uninstall name ∷ changes) ends fit = query_first before (Uninstall name) changes ends fit.0 refl refl (changes_again Other changes refl fit.1)
changes_again before (Create table engine schema ∷ changes) ends fit = query_first before (Create table engine schema) changes ends fit.0 refl refl (changes_again Other changes refl fit.1)
changes_again before (Drop table ∷ changes) ends fit = query_first before (Drop table) changes ends fit.0 refl refl (changes_again Other changes refl fit.1)
changes_again before (Insert map row ∷ changes) ends fit = row_first before (Insert map row) map changes ends fit.0 refl (changes_again (RowOf map) changes refl fit.1)
changes_again before (Update map place old new ∷ changes) ends fit = row_first before (Update map place old new) map changes ends fit.0 refl (changes_again (RowOf map) changes refl fit.1)
changes_again before (Delete map place old ∷ changes) ends fit = row_first before (Delete map place old) map changes ends fit.0 refl (changes_again (RowOf map) changes refl fit.1)
