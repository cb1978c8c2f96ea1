-- What is kept of a table of rows while one comes, goes, or gives way to another.
use Rattle.std.proofs.Common.{◌≡◌, ◌⊎◌, ⊎_elim, ℕ, ◌+◌, ◌-◌, ◌<◌, ◌≤◌, List, length, get_or, Option, Some, None, true, Result, Ok, IsTrue, refl, sym, ◌∙◌, ap, subst, arith}
use Rattle.std.specs.Prelude.{is_some, insert, remove, slice_get}
use Rattle.std.proofs.lemmas.Option.{get_or_from_slice_get}
use Rattle.std.proofs.lemmas.List.Edits.{length-insert, length-remove}
use Rattle.sql_value.specs.declared.value.Value.{Value}
use Rattle.log_tables.specs.Keys.{inserted, IsOrdered}
use Rattle.log_tables.proofs.OrderLemmas.{IsOrdered-inserted}
use Rattle.row_store.specs.Slots.{at, row_in, rows_in, AreKept, Fills, Frees, Swaps}
use Rattle.row_store.specs.Rows.{Held, replaced, Takes, Inserts, Replaces}
use Rattle.row_store.specs.Turns.{Turns}
use Rattle.row_store.proofs.KeyLemmas.{Slots, in_order_without, rows_length}
use Rattle.row_store.proofs.SlotLemmas.{apart_taken, stay_taken, stay_vacant, apart_vacant}
use Rattle.row_store.proofs.EditLemmas.{apart_insert, taken_insert, apart_remove, taken_remove, from_removed, taken_at, rows_insert, rows_remove, map_remove, row_at_place}

is_there : (slots : Slots) (s : ℕ) (row : List Value) → at slots s ≡ Some row → IsTrue (is_some (at slots s))
is_there slots s row is = subst (λ (o : Option (List Value)). IsTrue (is_some o)) (sym is) refl

-- a row came
pub kept_fill : (old new : Slots) (order free left : List ℕ) (spare a b d a₂ b₂ d₂ slot i : ℕ) (row : List Value) → AreKept old order free spare a b d → 0 < spare → Fills old free row slot new left → i ≤ length order
    → a ≤ a₂ → b ≤ b₂ → d ≤ d₂ → AreKept new (insert order i slot) left (spare - 1) a₂ b₂ d₂
kept_fill old new order free left spare a b d a₂ b₂ d₂ slot i row k some f within more more₂ more₃ =
    let from = apart_taken old slot order k.taken f.vacant in
    let len = length-insert order i slot within in
    let counts = k.counts in
    let more_counts = f.counts in
    record {
      taken = taken_insert new slot order i (stay_taken old new slot order f.others from k.taken) (is_there new slot row f.here);
      apart = apart_insert slot order i k.apart from;
      free_is = f.free_is;
      counts = omega (arith, len, counts, more_counts);
      within = ⊎_elim (λ same. let low = k.within in omega (arith, same, low, len, some)) (λ none. omega (arith, none, counts, more_counts, len)) f.grows;
      few = let few = k.few in omega (arith, few, len, some);
      slots_room = let room = k.slots_room in omega (arith, room, len, some, more);
      order_room = let room = k.order_room in omega (arith, room, len, some, more₂);
      free_room = let room = k.free_room in omega (arith, room, len, some, more₃);
    }

-- the rows then
pub rows_fill : (old new : Slots) (order free left : List ℕ) (spare a b d slot i : ℕ) (row : List Value) → AreKept old order free spare a b d → Fills old free row slot new left → rows_in new (insert order i slot) ≡ insert (rows_in old order) i row
rows_fill old new order free left spare a b d slot i row k f = rows_insert old new slot order i row f.others (apart_taken old slot order k.taken f.vacant) f.here

-- a row went
pub kept_take : (old new : Slots) (order free more : List ℕ) (spare a b d a₂ b₂ d₂ i : ℕ) (row : List Value) → AreKept old order free spare a b d → i < length order → Frees old free (get_or order i 0) row new more
    → a ≤ a₂ → b ≤ b₂ → d ≤ d₂ → AreKept new (remove order i) more (spare + 1) a₂ b₂ d₂
kept_take old new order free more spare a b d a₂ b₂ d₂ i row k lt f up up₂ up₃ =
    let from = from_removed order i 0 k.apart lt in
    let len = length-remove order i lt in
    let counts = k.counts in
    record {
      taken = stay_taken old new (get_or order i 0) (remove order i) f.others from (taken_remove old order i k.taken);
      apart = apart_remove order i k.apart;
      free_is = f.free_is;
      counts = let one = f.counts in let same = f.same in omega (arith, len, counts, one, same);
      within = let low = k.within in let same = f.same in omega (arith, low, same, len);
      few = let few = k.few in omega (arith, few, len);
      slots_room = let room = k.slots_room in omega (arith, room, len, up);
      order_room = let room = k.order_room in omega (arith, room, len, up₂);
      free_room = let room = k.free_room in omega (arith, room, len, up₃);
    }

-- a row stands where it can
pub placed : (key : Option ℕ) (row : List Value) (rows : List (List Value)) (i : ℕ) (new : List (List Value)) → new ≡ insert rows i row → inserted key row rows ≡ Some (insert rows i row) → IsOrdered key rows → IsOrdered key new
placed key row rows i new is takes ordered = subst (IsOrdered key) (sym is) (IsOrdered-inserted key row rows (insert rows i row) takes ordered)

pub placed_keyless : (key : Option ℕ) (rows new : List (List Value)) → key ≡ None → IsOrdered key rows → IsOrdered key new
placed_keyless key rows new none ordered = subst (λ (k : Option ℕ). IsOrdered k new) (sym none) tt

-- without one row
pub ordered_without : (key : Option ℕ) (rows new : List (List Value)) (i : ℕ) → new ≡ remove rows i → i < length rows → IsOrdered key rows → IsOrdered key new
ordered_without None rows new i is lt ordered = tt
ordered_without (Some column) rows new i is lt ordered = subst (IsOrdered (Some column)) (sym is) (in_order_without column rows i ordered lt)

removed_rows : (slots : Slots) (order : List ℕ) (i : ℕ) → rows_in slots (remove order i) ≡ remove (rows_in slots order) i
removed_rows slots order i = map_remove (row_in slots) order i

-- a row gave way to another
pub kept_swap : (key : Option ℕ) (old new : Slots) (order order₂ free : List ℕ) (spare a b d a₂ b₂ i : ℕ) (row before : List Value) → AreKept old order free spare a b d → i < length order → Turns key old i row order order₂ true
    → Swaps old (get_or order i 0) row before new → a ≤ a₂ → b ≤ b₂ → AreKept new order₂ free spare a₂ b₂ d
kept_swap key old new order order₂ free spare a b d a₂ b₂ i row before k lt t s up up₂ =
    let slot = get_or order i 0 in
    let from = from_removed order i 0 k.apart lt in
    let j = t.0 in
    let less = length-remove order i lt in
    let len = length-insert (remove order i) j slot t.1 in
    subst (λ (l : List ℕ). AreKept new l free spare a₂ b₂ d) (sym t.2) (record {
      taken = taken_insert new slot (remove order i) j (stay_taken old new slot (remove order i) s.others from (taken_remove old order i k.taken)) (is_there new slot row s.here);
      apart = apart_insert slot (remove order i) j (apart_remove order i k.apart) from;
      free_is = record { vacant = stay_vacant old new slot free s.others (apart_vacant old slot free k.free_is.vacant (taken_at old order i 0 k.taken lt)) (let same = s.same in omega (arith, same)) k.free_is.vacant; apart = k.free_is.apart };
      counts = let counts = k.counts in let same = s.same in omega (arith, less, len, counts, same);
      within = let low = k.within in let same = s.same in omega (arith, low, same, less, len);
      few = let few = k.few in omega (arith, few, less, len);
      slots_room = let room = k.slots_room in omega (arith, room, up, less, len);
      order_room = let room = k.order_room in omega (arith, room, up₂, less, len);
      free_room = let room = k.free_room in omega (arith, room, less, len);
    })

-- and the rows then
pub rows_swap : (key : Option ℕ) (old new : Slots) (order order₂ free : List ℕ) (spare a b d i : ℕ) (row before : List Value) → AreKept old order free spare a b d → i < length order → Turns key old i row order order₂ true
    → Swaps old (get_or order i 0) row before new → replaced key i row (rows_in old order) ≡ Some (rows_in new order₂)
rows_swap key old new order order₂ free spare a b d i row before k lt t s =
    let slot = get_or order i 0 in
    let from = from_removed order i 0 k.apart lt in
    t.3 ∙ ap (λ (l : List (List Value)). Some l) (sym (ap (rows_in new) t.2 ∙ rows_insert old new slot (remove order i) t.0 row s.others from s.here
    ∙ ap (λ (l : List (List Value)). insert l t.0 row) (removed_rows old order i)))

-- in order
pub ordered_swap : (key : Option ℕ) (rows new : List (List Value)) (i : ℕ) (row : List Value) → i < length rows → replaced key i row rows ≡ Some new → IsOrdered key rows → IsOrdered key new
ordered_swap None rows new i row lt is ordered = tt
ordered_swap (Some column) rows new i row lt is ordered = IsOrdered-inserted (Some column) row (remove rows i) new is (in_order_without column rows i ordered lt)

-- one row more, as calls tell it
pub inserts_ok : (row : List Value) (old new : Held) (place : ℕ) → inserted old.schema.key row old.rows ≡ Some (insert old.rows place row) → new.rows ≡ insert old.rows place row → place ≤ length old.rows → new.spare + 1 ≡ old.spare → new.schema ≡ old.schema
    → Inserts row old new (Ok place)
inserts_ok row old new place takes is within spare schema = record {
  ok = λ told done.
      let same : place ≡ told = cc in
      subst (λ (i : ℕ). (inserted old.schema.key row old.rows ≡ Some new.rows) × (new.rows ≡ insert old.rows i row) × (i ≤ length old.rows) × (new.spare + 1 ≡ old.spare)) same
      (takes ∙ ap (λ (l : List (List Value)). Some l) (sym is), is, within, spare);
  taken = λ it done. cc;
  schema = schema;
}

-- one in place of another
pub replaces_ok : (place : ℕ) (row before : List Value) (old new : Held) → slice_get old.rows place ≡ Some before → replaced old.schema.key place row old.rows ≡ Some new.rows → new.schema ≡ old.schema → new.spare ≡ old.spare
    → Replaces place row old new (Ok before)
replaces_ok place row before old new was is schema spare = record {
  ok = λ it done.
      let same : before ≡ it = cc in
      (was ∙ ap (λ (r : List Value). Some r) same, is);
  taken = λ it done. cc;
  schema = schema;
  spare = spare;
}

-- What came of a row that came.
pub record Came (key : Option ℕ) (old new : Slots) (order order₂ left : List ℕ) (spare a b d i : ℕ) (row : List Value) : Type 0 where
  pub kept : AreKept new order₂ left (spare - 1) a b d
  pub ordered : IsOrdered key (rows_in new order₂)
  pub takes : inserted key row (rows_in old order) ≡ Some (insert (rows_in old order) i row)
  pub rows : rows_in new order₂ ≡ insert (rows_in old order) i row
  pub within : i ≤ length (rows_in old order)
  pub less : (spare - 1) + 1 ≡ spare

pub came : (key : Option ℕ) (old new : Slots) (order order₂ free left : List ℕ) (spare a b d a₂ b₂ d₂ slot i : ℕ) (row : List Value) (seen : Slots) → AreKept old order free spare a b d → 0 < spare
    → Fills old free row slot new left → seen ≡ old → i ≤ length order → (IsOrdered key (rows_in seen order) → Takes key row (rows_in seen order) (Some i)) → order₂ ≡ insert order i slot → a ≤ a₂ → b ≤ b₂ → d ≤ d₂
    → IsOrdered key (rows_in old order) → Came key old new order order₂ left spare a₂ b₂ d₂ i row
came key old new order order₂ free left spare a b d a₂ b₂ d₂ slot i row seen k some f same within takes is up up₂ up₃ ordered =
    let size = rows_length old order in
    let fits = subst (λ (s : Slots). IsOrdered key (rows_in s order) → Takes key row (rows_in s order) (Some i)) same takes ordered in
    let rows : rows_in new order₂ ≡ insert (rows_in old order) i row = ap (rows_in new) is ∙ rows_fill old new order free left spare a b d slot i row k f in
    record {
      kept = subst (λ (l : List ℕ). AreKept new l left (spare - 1) a₂ b₂ d₂) (sym is) (kept_fill old new order free left spare a b d a₂ b₂ d₂ slot i row k some f within up up₂ up₃);
      ordered = placed key row (rows_in old order) i (rows_in new order₂) rows fits ordered;
      takes = fits;
      rows = rows;
      within = omega (arith, within, size);
      less = omega (arith, some);
    }

-- What came of a row that went.
pub record Went (key : Option ℕ) (old new : Slots) (order order₂ more : List ℕ) (spare a b d i : ℕ) (row : List Value) : Type 0 where
  pub kept : AreKept new order₂ more (spare + 1) a b d
  pub ordered : IsOrdered key (rows_in new order₂)
  pub rows : rows_in new order₂ ≡ remove (rows_in old order) i
  pub was : slice_get (rows_in old order) i ≡ Some row

pub went : (key : Option ℕ) (old new : Slots) (order order₂ free more : List ℕ) (spare a b d a₂ b₂ d₂ i slot : ℕ) (row : List Value) → AreKept old order free spare a b d → i < length (rows_in old order) → slice_get order i ≡ Some slot → order₂ ≡ remove order i
    → Frees old free slot row new more → a ≤ a₂ → b ≤ b₂ → d ≤ d₂ → IsOrdered key (rows_in old order) → Went key old new order order₂ more spare a₂ b₂ d₂ i row
went key old new order order₂ free more spare a b d a₂ b₂ d₂ i slot row k within there is f up up₂ up₃ ordered =
    let size = rows_length old order in
    let lt : i < length order = omega (arith, within, size) in
    let here : slot ≡ get_or order i 0 = sym (get_or_from_slice_get order i slot 0 there) in
    let frees = subst (λ (s : ℕ). Frees old free s row new more) here f in
    let rows : rows_in new order₂ ≡ remove (rows_in old order) i = ap (rows_in new) is ∙ rows_remove old new order i 0 k.apart lt frees.others in
    record {
      kept = subst (λ (l : List ℕ). AreKept new l more (spare + 1) a₂ b₂ d₂) (sym is) (kept_take old new order free more spare a b d a₂ b₂ d₂ i row k lt frees up up₂ up₃);
      ordered = ordered_without key (rows_in old order) (rows_in new order₂) i rows within ordered;
      rows = rows;
      was = row_at_place old order i (get_or order i 0) k.taken lt refl ∙ frees.row_is;
    }

-- What came of a row that gave way to another.
pub record Gave (key : Option ℕ) (old new : Slots) (order order₂ free : List ℕ) (spare a b d i : ℕ) (row before : List Value) : Type 0 where
  pub kept : AreKept new order₂ free spare a b d
  pub ordered : IsOrdered key (rows_in new order₂)
  pub rows : replaced key i row (rows_in old order) ≡ Some (rows_in new order₂)
  pub was : slice_get (rows_in old order) i ≡ Some before

pub gave : (key : Option ℕ) (old new : Slots) (order order₂ free : List ℕ) (spare a b d a₂ b₂ i slot : ℕ) (row before : List Value) (seen : Slots) → AreKept old order free spare a b d → i < length (rows_in old order) → slice_get order i ≡ Some slot → seen ≡ old
    → (IsOrdered key (rows_in seen order) → Turns key seen i row order order₂ true) → Swaps old slot row before new → a ≤ a₂ → b ≤ b₂ → IsOrdered key (rows_in old order) → Gave key old new order order₂ free spare a₂ b₂ d i row before
gave key old new order order₂ free spare a b d a₂ b₂ i slot row before seen k within there same turns s up up₂ ordered =
    let size = rows_length old order in
    let lt : i < length order = omega (arith, within, size) in
    let here : slot ≡ get_or order i 0 = sym (get_or_from_slice_get order i slot 0 there) in
    let swaps = subst (λ (n : ℕ). Swaps old n row before new) here s in
    let t = subst (λ (l : Slots). IsOrdered key (rows_in l order) → Turns key l i row order order₂ true) same turns ordered in
    let rows = rows_swap key old new order order₂ free spare a b d i row before k lt t swaps in
    record {
      kept = kept_swap key old new order order₂ free spare a b d a₂ b₂ i row before k lt t swaps up up₂;
      ordered = ordered_swap key (rows_in old order) (rows_in new order₂) i row within rows ordered;
      rows = rows;
      was = row_at_place old order i (get_or order i 0) k.taken lt refl ∙ swaps.before_is;
    }

-- the slot at a place has a row
pub taken_there : (old : Slots) (order free : List ℕ) (spare a b d i slot : ℕ) → AreKept old order free spare a b d → i < length (rows_in old order) → slice_get order i ≡ Some slot → IsTrue (is_some (at old slot))
taken_there old order free spare a b d i slot k within there =
    let size = rows_length old order in
    let lt : i < length order = omega (arith, within, size) in
    subst (λ (s : ℕ). IsTrue (is_some (at old s))) (get_or_from_slice_get order i slot 0 there) (taken_at old order i 0 k.taken lt)

-- a row that came at a place, where there is no key
pub came_at : (key : Option ℕ) (old new : Slots) (order order₂ free left : List ℕ) (spare a b d a₂ b₂ d₂ slot i : ℕ) (row : List Value) → AreKept old order free spare a b d → key ≡ None → 0 < spare
    → Fills old free row slot new left → i ≤ length (rows_in old order) → order₂ ≡ insert order i slot → a ≤ a₂ → b ≤ b₂ → d ≤ d₂ → IsOrdered key (rows_in old order)
    → AreKept new order₂ left (spare - 1) a₂ b₂ d₂ × IsOrdered key (rows_in new order₂) × (rows_in new order₂ ≡ insert (rows_in old order) i row)
came_at key old new order order₂ free left spare a b d a₂ b₂ d₂ slot i row k keyless some f within is up up₂ up₃ ordered =
    let size = rows_length old order in (
      subst (λ (l : List ℕ). AreKept new l left (spare - 1) a₂ b₂ d₂) (sym is) (kept_fill old new order free left spare a b d a₂ b₂ d₂ slot i row k some f (omega (arith, within, size)) up up₂ up₃),
      placed_keyless key (rows_in old order) (rows_in new order₂) keyless ordered,
      ap (rows_in new) is ∙ rows_fill old new order free left spare a b d slot i row k f,
    )

-- the table before, under another name
pub inserts_as : (row : List Value) (a b new : Held) (result : Result ℕ (List Value)) → a ≡ b → Inserts row a new result → Inserts row b new result
inserts_as row a b new result same inserts = subst (λ (h : Held). Inserts row h new result) same inserts

pub replaces_as : (place : ℕ) (row : List Value) (a b new : Held) (result : Result (List Value) (List Value)) → a ≡ b → Replaces place row a new result → Replaces place row b new result
replaces_as place row a b new result same replaces = subst (λ (h : Held). Replaces place row h new result) same replaces
