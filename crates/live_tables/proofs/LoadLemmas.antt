-- What is read back: a change behind what is done, a row of a table that is there, and what is prepared.
use Rattle.std.proofs.Common.{◌≡◌, ℕ, ◌+◌, ◌≤◌, List, [], ◌∷◌, ◌++◌, length, Option, Some, None, true, false, ◌&&◌, is_some, refl, sym, ap, subst, ◌∙◌, inl, inr, arith, length-append, sum_by}
use Rattle.std.specs.Prelude.{nat_le}
use Rattle.std.proofs.lemmas.Bool.{leb-true}
use Rattle.std.proofs.lemmas.Grind.{flat_map-append}
use Rattle.std.proofs.lemmas.List.Sums.{sum_by_push, sum_by-append}
use Rattle.std.proofs.lemmas.List.{append-nil}
use Rattle.sql_value.specs.declared.value.Value.{Value}
use Rattle.row_format.specs.declared.change.TableMap.{TableMap}
use Rattle.row_format.specs.declared.change.Change.{Change}
use Rattle.row_format.specs.declared.change.Change.TheVariants.{Insert}
use Rattle.row_format.specs.Schemas.{same_schema}
use Rattle.row_format.proofs.SameLemmas.{same_schema_refl}
use Rattle.log_tables.specs.declared.table.Table.{Table}
use Rattle.log_tables.specs.declared.gist.Prepared.{Prepared}
use Rattle.log_tables.specs.Gists.{is_prepared}
use Rattle.log_tables.specs.Keys.{inserted}
use Rattle.log_tables.specs.Tables.{is_named, table_named, at_table}
use Rattle.log_tables.specs.Changes.{after_change, after_changes, all_apply, applies, takes, changed, with_rows}
use Rattle.log_tables.proofs.PartLemmas.{cases, cond_true, cond_false}
use Rattle.log_tables.proofs.FoldLemmas.{after_changes-append}
use Rattle.engine_api.specs.States.{EngineState, Pending, changes_in, begun_state}
use Rattle.engine_api.specs.Live.{live_schema, schema_found}
use Rattle.live_tables.specs.Bytes.{capped}
use Rattle.live_tables.specs.Folds.{Apart, change_bytes}
use Rattle.live_tables.specs.Opens.{changes_left, shares, HaveOwnXids}
use Rattle.live_tables.specs.Stored.{with_row}
use Rattle.live_tables.specs.Loads.{with_tables, CanTake}
use Rattle.live_tables.specs.Live.{state_with, state_of, most_bytes, AreSound, AreCounted}
use Rattle.live_tables.proofs.FoldLemmas.{all_apply_append}
use Rattle.live_tables.proofs.MeetLemmas.{or_false}
use Rattle.live_tables.proofs.OpenLaws.{prepared_append, xids_last}
use Rattle.live_tables.proofs.LeftLemmas.{own_left}

-- The list with the change at its end applies.
one_fits : (c : Change) (ts : List Table) (done : List Change) → all_apply done ts ≡ true → applies c (after_changes done ts) ≡ true → all_apply (done ++ c ∷ []) ts ≡ true
one_fits c ts done fit one =
    all_apply_append done (c ∷ []) ts ∙ ap (λ b. b && all_apply (c ∷ []) (after_changes done ts)) fit ∙ ap (λ b. b && true) one

-- All is sound behind a change that is read back.
pub load_sound : (c : Change) (ts : List Table) (done behind : List Change) (left : List Prepared) (ps : List Pending) (last : ℕ) (s : EngineState) → AreSound ts done left ps
    → state_of ts done left ps last ≡ s → s.pending ≡ [] → applies c s.gist.tables ≡ true → behind ≡ done ++ c ∷ [] → AreSound ts behind left ps
load_sound c ts done behind left ps last s sound is idle fit appended =
    let none : ps ≡ [] = ap (λ (x : EngineState). x.pending) is ∙ idle in
    let here : applies c (after_changes done ts) ≡ true = ap (λ (x : EngineState). applies c x.gist.tables) is ∙ fit in
    record {
      made = sound.made;
      done_fit = ap (λ l. all_apply l ts) appended ∙ one_fits c ts done sound.done_fit here;
      open_fit = subst (λ (l : List Pending). all_apply (changes_in l) (after_changes behind ts) ≡ true) (sym none) refl;
      apart = sound.apart;
      apart_left = sound.apart_left;
      distinct = sound.distinct;
      xids = sound.xids;
    }

-- The counts follow.
pub load_counted : (c : Change) (ts : List Table) (done behind : List Change) (left : List Prepared) (ps : List Pending) (committed opened waits waiting add : ℕ)
    → AreCounted ts done left ps committed opened waits waiting → add ≡ capped (change_bytes c) → true ≡ nat_le (committed + opened + waits + add) most_bytes → behind ≡ done ++ c ∷ []
    → AreCounted ts behind left ps committed opened (waits + add) waiting
load_counted c ts done behind left ps committed opened waits waiting add counted own countable appended =
    let all = ap (sum_by change_bytes) appended ∙ sum_by_push change_bytes done c in
    let le : committed + opened + waits + add ≤ most_bytes = leb-true (committed + opened + waits + add) most_bytes (sym countable) in
    record {
      committed_is = counted.committed_is;
      opened_is = counted.opened_is;
      waits_is = omega (arith, all, counted.waits_is, own, le);
      small = omega (arith, le);
      waiting_is = counted.waiting_is;
    }

-- The state is the one with the change among the committed.
pub load_state : (c : Change) (ts : List Table) (done behind : List Change) (left : List Prepared) (ps : List Pending) (last : ℕ) (s : EngineState)
    → state_of ts done left ps last ≡ s → s.pending ≡ [] → behind ≡ done ++ c ∷ [] → state_of ts behind left ps last ≡ begun_state (with_tables (after_change c s.gist.tables) s.gist)
load_state c ts done behind left ps last s is idle appended =
    let none : ps ≡ [] = ap (λ (x : EngineState). x.pending) is ∙ idle in
    let tables : after_changes behind ts ≡ after_change c (after_changes done ts) = ap (λ l. after_changes l ts) appended ∙ after_changes-append done (c ∷ []) ts in
    ap (λ l. state_with (record { tables = l; prepared = left ++ shares ps; last = last }) ps) tables
    ∙ ap (λ (l : List Pending). state_with (record { tables = after_change c (after_changes done ts); prepared = left ++ shares ps; last = last }) l) none
    ∙ ap (λ (x : EngineState). begun_state (with_tables (after_change c x.gist.tables) x.gist)) is

inner : {X : Type 0} {x y : X} → Some x ≡ Some y → x ≡ y
inner q = cc

-- a change made for the schema of a table is made for the table
suits : (map : TableMap) (t : Table) → Some map.schema ≡ Some t.definition.schema → same_schema map.schema t.definition.schema ≡ true
suits map t is = subst (λ x. same_schema x t.definition.schema ≡ true) (sym (inner is)) (same_schema_refl t.definition.schema)

found_takes : (map : TableMap) (row : List Value) (o : Option Table) → Some map.schema ≡ schema_found o → CanTake row o → takes (Insert map row) o ≡ true
found_takes map row None is can = absurd can
found_takes map row (Some t) is can =
    ap is_some (cond_true (same_schema map.schema t.definition.schema) (inserted t.definition.schema.key row t.rows) None (suits map t is)) ∙ can

-- the schema of a live table is that of the committed one, where nothing is pending
schema_there : (map : TableMap) (n : List ℕ) (s : EngineState) → s.pending ≡ [] → Some map.schema ≡ live_schema n s → Some map.schema ≡ schema_found (table_named n s.gist.tables)
schema_there map n s idle is = is ∙ ap (λ (ps : List Pending). schema_found (table_named n (after_changes (changes_in ps) s.gist.tables))) idle

-- The insert of a row that a committed table can take applies.
pub row_applies : (map : TableMap) (n : List ℕ) (row : List Value) (s : EngineState) → s.pending ≡ [] → map.table ≡ n → Some map.schema ≡ live_schema n s
    → CanTake row (table_named n s.gist.tables) → takes (Insert map row) (table_named map.table s.gist.tables) ≡ true
row_applies map n row s idle named is can =
    ap (λ m. takes (Insert map row) (table_named m s.gist.tables)) named ∙ found_takes map row (table_named n s.gist.tables) (schema_there map n s idle is) can

row_at_table : (map : TableMap) (n : List ℕ) (row : List Value) (ts : List Table) → Some map.schema ≡ schema_found (table_named n ts)
    → at_table n (changed (Insert map row)) ts ≡ at_table n (λ it. with_row row it ∷ []) ts
row_at_table map n row [] is = refl
row_at_table map n row (t ∷ ts) is = elim (cases (is_named n t)) [
  | inl here ↦
      let own = is ∙ ap schema_found (cond_true (is_named n t) (Some t) (table_named n ts) here) in
      let rows = cond_true (same_schema map.schema t.definition.schema) (inserted t.definition.schema.key row t.rows) None (suits map t own) in
      cond_true (is_named n t) (changed (Insert map row) t ++ ts) (t ∷ at_table n (changed (Insert map row)) ts) here
      ∙ ap (λ o. with_rows t o ∷ ts) rows
      ∙ sym (cond_true (is_named n t) (with_row row t ∷ ts) (t ∷ at_table n (λ it. with_row row it ∷ []) ts) here)
  | inr past ↦
      let rest = row_at_table map n row ts (is ∙ ap schema_found (cond_false (is_named n t) (Some t) (table_named n ts) past)) in
      cond_false (is_named n t) (changed (Insert map row) t ++ ts) (t ∷ at_table n (changed (Insert map row)) ts) past
      ∙ ap (λ l. t ∷ l) rest
      ∙ sym (cond_false (is_named n t) (with_row row t ∷ ts) (t ∷ at_table n (λ it. with_row row it ∷ []) ts) past)
]

-- It adds the row to the table.
pub row_added_there : (map : TableMap) (n : List ℕ) (row : List Value) (s : EngineState) → s.pending ≡ [] → map.table ≡ n → Some map.schema ≡ live_schema n s
    → after_change (Insert map row) s.gist.tables ≡ at_table n (λ it. with_row row it ∷ []) s.gist.tables
row_added_there map n row s idle named is =
    ap (λ m. at_table m (changed (Insert map row)) s.gist.tables) named ∙ row_at_table map n row s.gist.tables (schema_there map n s idle is)

-- All is sound with one more that is prepared under an xid of its own.
pub left_sound : (p : Prepared) (ts : List Table) (done : List Change) (left : List Prepared) (ps : List Pending) (last : ℕ) (s : EngineState) → AreSound ts done left ps
    → state_of ts done left ps last ≡ s → s.pending ≡ [] → is_prepared p.xid s.gist.prepared ≡ false → AreSound ts done (left ++ p ∷ []) ps
left_sound p ts done left ps last s sound is idle fresh =
    let none : ps ≡ [] = ap (λ (x : EngineState). x.pending) is ∙ idle in
    let here : is_prepared p.xid (left ++ shares ps) ≡ false = ap (λ (x : EngineState). is_prepared p.xid x.gist.prepared) is ∙ fresh in
    let free = (or_false (is_prepared p.xid left) (is_prepared p.xid (shares ps)) (sym (prepared_append p.xid left (shares ps)) ∙ here)).0 in
    let own = xids_last p left (own_left left (shares ps) sound.xids) free in
    record {
      made = sound.made;
      done_fit = sound.done_fit;
      open_fit = sound.open_fit;
      apart = sound.apart;
      apart_left = subst (λ (l : List Pending). Apart (changes_in l) (changes_left (left ++ p ∷ []))) (sym none) tt;
      distinct = sound.distinct;
      xids = subst (λ (l : List Pending). HaveOwnXids ((left ++ p ∷ []) ++ shares l)) (sym none) (subst HaveOwnXids (sym (append-nil (left ++ p ∷ []))) own);
    }

-- So many changes more may be committed.
pub left_counted : (p : Prepared) (ts : List Table) (done : List Change) (left : List Prepared) (ps : List Pending) (committed opened waits waiting now len : ℕ)
    → AreCounted ts done left ps committed opened waits waiting → now ≡ waiting + length p.changes → len ≡ capped (sum_by change_bytes p.changes)
    → true ≡ nat_le (committed + opened + waits + len) most_bytes → AreCounted ts done (left ++ p ∷ []) ps committed opened (waits + len) now
left_counted p ts done left ps committed opened waits waiting now len counted more own countable =
    let split = flat_map-append (λ (it : Prepared). it.changes) left (p ∷ []) in
    let last : changes_left (p ∷ []) ≡ p.changes = append-nil p.changes in
    let all = ap length split in
    let parts = length-append (changes_left left) (changes_left (p ∷ [])) in
    let one : length (changes_left (p ∷ [])) ≡ length p.changes = ap length last in
    let bytes = ap (sum_by change_bytes) split ∙ sum_by-append change_bytes (changes_left left) (changes_left (p ∷ [])) in
    let one_bytes = ap (sum_by change_bytes) last in
    let le : committed + opened + waits + len ≤ most_bytes = leb-true (committed + opened + waits + len) most_bytes (sym countable) in
    record {
      committed_is = counted.committed_is;
      opened_is = counted.opened_is;
      waits_is = omega (arith, counted.waits_is, bytes, one_bytes, own, le);
      small = omega (arith, le);
      waiting_is = omega (arith, counted.waiting_is, all, parts, one, more);
    }
