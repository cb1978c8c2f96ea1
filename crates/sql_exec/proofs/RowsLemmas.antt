-- Rows that are put into a live table, one after the other.
use Rattle.std.proofs.Common.{◌≡◌, ◌<◌, ◌+◌, ℕ, suc, List, [], ◌∷◌, ◌++◌, length, take, drop, get_or, All, Option, Some, None, true, false, refl, sym, ap, subst, ◌∙◌, arith, add-one, drop-cons, take-suc}
use Rattle.std.specs.Prelude.{map, is_some, unwrap_or}
use Rattle.std.proofs.lemmas.List.{map-append}
use Rattle.sql_value.specs.declared.refusal.Refusal.TheVariants.{DuplicateEntry}
use Rattle.sql_value.specs.declared.value.Value.{Value}
use Rattle.row_format.specs.declared.schema.Schema.{Schema}
use Rattle.row_format.specs.declared.change.Change.{Change}
use Rattle.row_format.specs.Rows.{row_refusal}
use Rattle.log_tables.specs.Keys.{inserted}
use Rattle.engine_api.specs.States.{EngineState, live_tables, with_change, changes_in, xid_by, xid_of}
use Rattle.engine_api.specs.Live.{live_bytes, live_rows, is_key_taken, is_under, meets_any, IsApart}
use Rattle.sql_effect.specs.Insert.{inserts_refusal, place_refusal}
use Rattle.sql_effect.specs.Sizes.{row_bytes, room_refusal}
use Rattle.sql_effect.proofs.OrderLemmas.{free_if, insert_goes_on, refused_first, refused_none}
use Rattle.sql_exec.specs.Changes.{with_changes}
use Rattle.sql_exec.specs.Inserts.{CanInsert, CanPut, CanPutAll, insert_of, inserts_of, put_refusal, puts_refusal}
use Rattle.sql_exec.proofs.StateLemmas.{as_before, changes_last, idle_last, last_still, others_still, still_unprepared}
use Rattle.sql_exec.proofs.WrittenLemmas.{written_more}

-- a row that is not refused has a key of its own
pub granted_free : (table : List ℕ) (schema : Schema) (row : List Value) (s : EngineState) → put_refusal table schema row s ≡ None → is_key_taken schema.key (live_rows table s) row ≡ false
granted_free table schema row s granted =
    free_if (is_key_taken schema.key (live_rows table s) row) DuplicateEntry (refused_first _ (room_refusal (live_bytes (live_tables s) + row_bytes row))
    (refused_none (row_refusal schema row) (place_refusal schema.key (live_rows table s) row (live_bytes (live_tables s) + row_bytes row)) granted))

-- the row that is next, and those behind it
rest_is : (rows : List (List Value)) (i : ℕ) (row : List Value) → i < length rows → row ≡ get_or rows i row → drop i rows ≡ row ∷ drop (i + 1) rows
rest_is rows i row within at =
    drop-cons rows i row within ∙ ap (λ (it : List Value). it ∷ drop (suc i) rows) (sym at) ∙ ap (λ (n : ℕ). row ∷ drop n rows) (sym (add-one i))

-- A transaction that may insert rows may put them in one after the other.
pub can_all : (txn : ℕ) (table : List ℕ) (schema : Schema) (xs rows : List (List Value)) (s : EngineState) → xs ≡ rows → CanInsert txn table schema rows s → CanPutAll txn table schema xs s
can_all txn table schema xs rows s lent can = subst (λ (ys : List (List Value)). CanPutAll txn table schema ys s) (sym lent) (record {
  live = can.live;
  unprepared = ap (λ o. is_some (xid_of o)) can.idle;
  last = idle_last txn s can.idle;
  apart = can.apart;
})

pub can_first : (txn : ℕ) (table : List ℕ) (schema : Schema) (rows : List (List Value)) (i : ℕ) (row : List Value) (s : EngineState) → i < length rows → row ≡ get_or rows i row
    → CanPutAll txn table schema (drop i rows) s → CanPut txn table schema row s
can_first txn table schema rows i row s within at can =
    let all = subst (λ (xs : List (List Value)). All (λ (r : List Value). IsApart txn (insert_of table schema r) s) xs) (rest_is rows i row within at) can.apart in
    record { live = can.live; unprepared = can.unprepared; last = can.last; apart = all 0 row (omega arith) }

-- what is apart from others stays so while the transaction changes more
apart_still : (txn : ℕ) (it c : Change) (s : EngineState) → IsApart txn it s → IsApart txn it (with_change txn c s)
apart_still txn it c s apart = record {
  pending = ap (λ ps. meets_any it (changes_in ps)) (others_still txn c s) ∙ apart.pending;
  prepared = apart.prepared;
}

-- behind a row that went in, the others may be put in
pub can_rest : (txn : ℕ) (table : List ℕ) (schema : Schema) (rows : List (List Value)) (i : ℕ) (row : List Value) (s : EngineState) → i < length rows → row ≡ get_or rows i row
    → CanPutAll txn table schema (drop i rows) s → put_refusal table schema row s ≡ None → CanPutAll txn table schema (drop (i + 1) rows) (with_change txn (insert_of table schema row) s)
can_rest txn table schema rows i row s within at can granted =
    let all = subst (λ (xs : List (List Value)). All (λ (r : List Value). IsApart txn (insert_of table schema r) s) xs) (rest_is rows i row within at) can.apart in
    let one = written_more txn table schema row s can.last can.live (granted_free table schema row s granted) in
    record {
      live = one.schema;
      unprepared = still_unprepared txn (insert_of table schema row) s;
      last = last_still txn (insert_of table schema row) s;
      apart = λ k d lt. apart_still txn _ (insert_of table schema row) s (all (suc k) d (omega (arith, lt)));
    }

-- and what refuses the others is what refuses all of them
pub refusal_rest : (txn : ℕ) (table : List ℕ) (schema : Schema) (rows : List (List Value)) (i : ℕ) (row : List Value) (s : EngineState) → i < length rows → row ≡ get_or rows i row
    → CanPutAll txn table schema (drop i rows) s → put_refusal table schema row s ≡ None
    → puts_refusal table schema (drop i rows) s ≡ puts_refusal table schema (drop (i + 1) rows) (with_change txn (insert_of table schema row) s)
refusal_rest txn table schema rows i row s within at can granted =
    let one = written_more txn table schema row s can.last can.live (granted_free table schema row s granted) in
    let new = with_change txn (insert_of table schema row) s in
    ap (λ (xs : List (List Value)). puts_refusal table schema xs s) (rest_is rows i row within at)
    ∙ insert_goes_on schema (live_bytes (live_tables s)) (live_rows table s) row (drop (i + 1) rows) granted
    ∙ ap (λ (n : ℕ). inserts_refusal true schema n (unwrap_or (inserted schema.key row (live_rows table s)) (live_rows table s)) (drop (i + 1) rows)) (sym one.bytes)
    ∙ ap (λ (xs : List (List Value)). inserts_refusal true schema (live_bytes (live_tables new)) xs (drop (i + 1) rows)) (sym one.rows)

-- one row more was put in
pub state_next : (txn : ℕ) (table : List ℕ) (schema : Schema) (rows : List (List Value)) (i : ℕ) (row : List Value) (s : EngineState) → i < length rows → row ≡ get_or rows i row
    → with_change txn (insert_of table schema row) (with_changes txn (inserts_of table schema (take i rows)) s) ≡ with_changes txn (inserts_of table schema (take (i + 1) rows)) s
state_next txn table schema rows i row s within at =
    sym (changes_last txn (inserts_of table schema (take i rows)) (insert_of table schema row) s)
    ∙ ap (λ (cs : List Change). with_changes txn cs s)
    (sym (map-append (insert_of table schema) (take i rows) (row ∷ []))
    ∙ ap (map (insert_of table schema))
    (ap (λ (it : List Value). take i rows ++ it ∷ []) at ∙ sym (take-suc rows i row within) ∙ ap (λ (n : ℕ). take n rows) (sym (add-one i))))

none_if : {X : Type 0} (o : Option X) → is_some o ≡ false → o ≡ None
none_if None is = refl
none_if (Some x) is = cc

-- the gists that images may read as stay
pub kept_still : (txn : ℕ) (cs : List Change) (s : EngineState) → is_under txn s ≡ false → (with_changes txn cs s).kept ≡ s.kept
kept_still txn cs s free = (as_before txn cs s (none_if (xid_by txn s.pending) free)).kept
