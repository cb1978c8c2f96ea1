-- Whether a Prepare leaves its room.
use Rattle.std.proofs.Common.{◌≡◌, ◌⊎◌, ℕ, ◌+◌, ◌*◌, ◌≤◌, ◌<◌, ◌^◌, List, [], ◌∷◌, ◌++◌, length, length-append, Option, Some, None, Bool, true, false, is_some, IsTrue, refl, sym, ap, subst, ◌∙◌, inl, inr, arith, max, min}
use Rattle.std.specs.Prelude.{cond, nat_lt}
use Rattle.std.specs.List.{flat_map}
use Rattle.std.proofs.lemmas.Bool.{lt-ltb, le-ltb, ltb-true, ltb-false}
use Rattle.frame_codec.specs.Bytes.{le32, le64}
use Rattle.frame_codec.specs.Frame.{Event, limit}
use Rattle.frame_codec.proofs.FrameLemmas.{length-le32, length-le64}
use Rattle.framed_file.specs.Framed.{header_len}
use Rattle.row_format.specs.declared.change.TableMap.{TableMap}
use Rattle.row_format.specs.declared.change.Change.{Change}
use Rattle.row_format.specs.declared.change.Change.TheVariants.{Install, Uninstall, Create, Drop, Insert, Update, Delete}
use Rattle.binlog_events.specs.Changes.{map_event, change_event, map_of, needs_map, map_events, change_events}
use Rattle.binlog_events.specs.Items.{item_spelling, items_of_changes, list_spelling, AreListed}
use Rattle.log_tables.specs.declared.gist.Prepared.{Prepared}
use Rattle.redo_journal.specs.declared.record.Record.{Record}
use Rattle.redo_journal.specs.declared.record.Record.TheVariants.{Prepare}
use Rattle.redo_journal.specs.declared.journal.Area.{Area}
use Rattle.redo_journal.specs.declared.journal.Journal.{Journal}
use Rattle.redo_journal.specs.Replays.{end_behind, end_of_records, commit_size}
use Rattle.redo_journal.specs.Journals.{IsJournalOn, IsJournal}
use Rattle.redo_journal.specs.Appending.{has_area}
use Rattle.log_tables.proofs.PartLemmas.{cases}
use Rattle.log_tables.specs.declared.gist.Gist.{Gist}
use Rattle.log_tables.specs.Gists.{is_prepared}
use Rattle.redo_journal.specs.Appending.{FitsBehind}
use Rattle.engine_api.specs.States.{EngineState, share_of}
use Rattle.journal_engine.specs.Engine.{AreWritable, gist_of, is_spent}
use Rattle.journal_engine.proofs.RecordLemmas.{ends_on}

a_map : (map : TableMap) (b : Bool) → length (cond b (map_event map ∷ []) []) ≤ 1
a_map map true = omega arith
a_map map false = omega arith

-- one map stands before a change at most
one_map : (before : Option TableMap) (it : Change) → length (map_events before it) ≤ 1
one_map before (Install name) = omega arith
one_map before (Create table engine schema) = omega arith
one_map before (Insert map row) = a_map map (needs_map before map)
one_map before (Update map place old new) = a_map map (needs_map before map)
one_map before (Delete map place old) = a_map map (needs_map before map)
one_map before (Uninstall name) = omega arith
one_map before (Drop table) = omega arith

-- Changes have at least as many items, and at most twice as many.
pub items_least : (before : Option TableMap) (changes : List Change) → length changes ≤ length (change_events before changes)
items_least before [] = omega arith
items_least before (it ∷ rest) =
    let split = length-append (map_events before it) (change_event it ∷ change_events (map_of it) rest) in
    omega (arith, split, items_least (map_of it) rest)

pub items_most : (before : Option TableMap) (changes : List Change) → length (change_events before changes) ≤ 2 * length changes
items_most before [] = omega arith
items_most before (it ∷ rest) =
    let split = length-append (map_events before it) (change_event it ∷ change_events (map_of it) rest) in
    omega (arith, split, one_map before it, items_most (map_of it) rest)

-- an item has a byte at least
bytes_least : (items : List Event) → length items ≤ length (flat_map item_spelling items)
bytes_least [] = omega arith
bytes_least (it ∷ rest) = omega (arith, length-append (item_spelling it) (flat_map item_spelling rest), bytes_least rest)

pub spelling_least : (changes : List Change) → length changes + 4 ≤ length (list_spelling changes)
spelling_least changes =
    let items = items_of_changes changes in
    omega (arith, items_least None changes, bytes_least items, length-append (le32 (length items)) (flat_map item_spelling items), length-le32 (length items))

-- so few changes are listed
pub few_listed : (changes : List Change) → AreWritable changes → length changes ≤ limit → AreListed changes
few_listed changes written few = record { fit = written.0; on_tables = written.1; few = omega (arith, few, items_most None changes) }

-- how many bytes a Prepare has
pub prepare_len : (at : ℕ) (share : Prepared) → end_behind at (Prepare share) ≡ at + (31 + length (list_spelling share.changes))
prepare_len at share = omega (arith, length-append (le64 share.xid) (list_spelling share.changes), length-le64 share.xid)

-- so many changes leave no room
pub many_past : (at others : ℕ) (share : Prepared) → limit < length share.changes → true ≡ nat_lt limit (end_behind at (Prepare share) + commit_size * (others + 1))
many_past at others share many = sym (lt-ltb limit (end_behind at (Prepare share) + commit_size * (others + 1)) (omega (arith, many, spelling_least share.changes, prepare_len at share)))

-- Records end behind their header.
ends_behind : (at : ℕ) (records : List Record) → at ≤ end_of_records at records
ends_behind at [] = omega arith
ends_behind at (it ∷ rest) = let more = ends_behind (end_behind at it) rest in omega (arith, more)

-- where the next record goes, of the length that a journal tells
pub end_told : (journal : Journal) (len : ℕ) (records : List Record) → (IsTrue (has_area journal) → IsJournal journal records → len ≡ end_of_records header_len records) → (has_area journal ≡ false → len ≡ 0) → IsJournal journal records
    → max len 32 ≡ end_of_records header_len records
end_told journal len records there none is = of journal.area refl
  where
    of : (area : Option Area) → journal.area ≡ area → max len 32 ≡ end_of_records header_len records
    of None e =
        let zero_is = none (ap is_some e) in
        let empty : records ≡ [] = subst (λ (o : Option Area). IsJournalOn o records) e is in
        let end : end_of_records header_len records ≡ 32 = ap (λ (l : List Record). end_of_records header_len l) empty in
        omega (arith, zero_is, end)
    of (Some area) e = omega (arith, there (ap is_some e) is, ends_behind 32 records)

-- A Prepare that leaves its room fits.
pub fits_prepare : (area : Option Area) (records : List Record) (gist : Gist) (share : Prepared) (others : ℕ) → IsJournalOn area records → gist_of records ≡ gist → AreWritable share.changes → share.xid < 2 ^ 64
    → is_prepared share.xid gist.prepared ≡ false → others ≡ length gist.prepared → nat_lt limit (end_behind (end_of_records header_len records) (Prepare share) + commit_size * (others + 1)) ≡ false
    → FitsBehind records (Prepare share)
fits_prepare area records gist share others on is written small free count not_past =
    let at = end_of_records header_len records in
    let within : end_behind at (Prepare share) + commit_size * (others + 1) ≤ limit = ltb-false limit (end_behind at (Prepare share) + commit_size * (others + 1)) not_past in
    let few : length share.changes ≤ limit = omega (arith, within, spelling_least share.changes, prepare_len at share) in
    let prepared = ap (λ (g : Gist). length g.prepared) is in
    let more = length-append (gist_of records).prepared (share ∷ []) in
    record {
      allowed = (small, few_listed share.changes written few, subst (λ (g : Gist). is_prepared share.xid g.prepared ≡ false) (sym is) free);
      room = omega (arith, within, count, prepared, more);
    }

-- the journal is spent where the Prepare leaves no room
pub spent_is : (journal : Journal) (records : List Record) (txn xid : ℕ) (state : EngineState) (others : ℕ) (past : Bool) → IsJournal journal records → others ≡ length state.gist.prepared
    → past ≡ nat_lt limit (end_behind (end_of_records header_len records) (Prepare (share_of txn xid state)) + commit_size * (others + 1)) → is_spent (Some journal) txn xid state ≡ past
spent_is journal records txn xid state others past is count told =
    let more : length (state.gist.prepared ++ share_of txn xid state ∷ []) ≡ others + 1 = omega (arith, count, length-append state.gist.prepared (share_of txn xid state ∷ [])) in
    ap (λ (n : ℕ). nat_lt limit (end_behind n (Prepare (share_of txn xid state)) + commit_size * length (state.gist.prepared ++ share_of txn xid state ∷ []))) (ends_on journal.area records is)
    ∙ ap (λ (n : ℕ). nat_lt limit (end_behind (end_of_records header_len records) (Prepare (share_of txn xid state)) + commit_size * n)) more
    ∙ sym told

le_or_lt : (c n : ℕ) → (c ≤ n) ⊎ (n < c)
le_or_lt c n = grind arith

-- a number is below two others alike
same_ltb : (n a b : ℕ) → (n < a → n < b) → (n < b → n < a) → nat_lt n a ≡ nat_lt n b
same_ltb n a b there back = elim (cases (nat_lt n a)) [
  | inl below ↦ below ∙ sym (lt-ltb n b (there (ltb-true n a below)))
  | inr above ↦ above ∙ elim (le_or_lt b n) [
    | inl le ↦ sym (le-ltb n b le)
    | inr lt ↦ absurd (let less = back lt in omega (arith, less, ltb-false n a above))
  ]
]

-- Sums that stop at the greatest number pass the limit where the sums do.
pub past_same : (at len others one commits a b : ℕ) → one ≡ min (others + 1) 18446744073709551615 → commits ≡ min (one * 39) 18446744073709551615 → a ≡ min (at + (31 + len)) 18446744073709551615 → b ≡ min (a + commits) 18446744073709551615
    → nat_lt limit b ≡ nat_lt limit (at + (31 + len) + commit_size * (others + 1))
past_same at len others one commits a b one_is commits_is a_is b_is =
    same_ltb limit b (at + (31 + len) + commit_size * (others + 1)) (λ lt. omega (arith, lt, one_is, commits_is, a_is, b_is)) (λ lt. omega (arith, lt, one_is, commits_is, a_is, b_is))
