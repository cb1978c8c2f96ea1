-- The list form of changes: what was read is what was written, and what was written is read again.
use Rattle.std.proofs.Common.{◌≡◌, ℕ, ◌<◌, ◌^◌, true, List, [], ◌∷◌, ◌++◌, length, Some, zero, suc, refl, sym, ap, subst, ◌∙◌, append_assoc, arith}
use Rattle.std.specs.Int.{w32, from_le_bytes}
use Rattle.std.specs.List.{flat_map, list_all}
use Rattle.frame_codec.specs.Bytes.{le32}
use Rattle.frame_codec.specs.Frame.{Event}
use Rattle.frame_codec.proofs.FrameLemmas.{length-le32}
use Rattle.row_format.specs.declared.change.Change.{Change}
use Rattle.row_format.specs.Changes.{AreFitChanges}
use Rattle.binlog_events.specs.Changes.{change_events}
use Rattle.binlog_events.specs.Items.{item_spelling, items_of_changes, list_spelling, is_on_table, AreListed}
use Rattle.row_format.specs.Reading.{◌>>=◌, where_so, byte_at, piece_at}
use Rattle.binlog_events.specs.Walking.{Before, Other, RowOf, MapOf, map_before, item_at, may_end, items_at, list_at}
use Rattle.row_format.proofs.PieceLemmas.{IsBytes, bind_some, some_is, where_some, where_true, Took, Took-then, byte_takes, piece_takes, piece_again, le32_back, le32_again, le32_below}
use Rattle.binlog_events.proofs.WalkLemmas.{IsKnown, Follows, item_takes, Reads, changes_again}

free_at_end : (before : Before) → may_end before ≡ true → Follows before []
free_at_end Other ends = tt
free_at_end (RowOf map) ends = tt
free_at_end (MapOf map) ends = absurd cc

-- what items that were read say
pub record ItemsTook (n : ℕ) (before : Before) (bytes : List ℕ) (it : List Change × List ℕ) : Type 0 where
  pub took : Took bytes (flat_map item_spelling (change_events (map_before before) it.0)) it.1
  pub number : length (change_events (map_before before) it.0) ≡ n
  pub fit : AreFitChanges it.0
  pub follows : Follows before it.0

pub items_takes : (n : ℕ) (before : Before) (bytes : List ℕ) (it : List Change × List ℕ) → IsKnown before → IsBytes bytes → items_at n before bytes ≡ Some it → ItemsTook n before bytes it
unfolding items_at
items_takes zero before bytes it known fits is =
    let found = where_some (may_end before) ([], bytes) it is in
    subst (ItemsTook 0 before bytes) {x = ([], bytes)} found.1
    (record { took = record { takes = refl; rest_bytes = fits }; number = refl; fit = tt; follows = free_at_end before found.0 })
items_takes (suc n) before bytes it known fits is =
    let a = bind_some (byte_at bytes) (λ kind. item_at before kind.0 kind.1 >>= λ x. items_at n x.0.before x.1 >>= λ more. Some (x.0.changes ++ more.0, more.1)) it is in
    let b = bind_some (item_at before a.0.0 a.0.1) (λ x. items_at n x.0.before x.1 >>= λ more. Some (x.0.changes ++ more.0, more.1)) it a.2 in
    let d = bind_some (items_at n b.0.0.before b.0.1) (λ more. Some (b.0.0.changes ++ more.0, more.1)) it b.2 in
    let kind = byte_takes bytes a.0 fits a.1 in
    let item = item_takes before a.0.0 a.0.1 b.0 known kind.0.rest_bytes b.1 in
    let more = items_takes n b.0.0.before b.0.1 d.0 item.leads.known item.took.rest_bytes d.1 in
    let rest = flat_map item_spelling (change_events (map_before b.0.0.before) d.0.0) in
    let events = item.leads.events d.0.0 more.follows in
    let first = Took-then bytes (a.0.0 ∷ []) a.0.1 item.body b.0.1 kind.0 item.took in
    let all : Took bytes ((a.0.0 ∷ item.body) ++ rest) d.0.1 = Took-then bytes (a.0.0 ∷ item.body) b.0.1 rest d.0.1 first more.took in
    subst (ItemsTook (suc n) before bytes) {x = (b.0.0.changes ++ d.0.0, d.0.1)} (some_is (b.0.0.changes ++ d.0.0, d.0.1) it d.2) (record {
      took = subst (λ (l : List Event). Took bytes (flat_map item_spelling l) d.0.1) (sym events) all;
      number = ap (λ (l : List Event). length l) events ∙ ap suc more.number;
      fit = item.leads.fit d.0.0 more.fit;
      follows = item.leads.follows d.0.0 more.follows;
    })

pub items_again : (events : List Event) (before end : Before) (changes : List Change) (rest : List ℕ) → may_end end ≡ true → Reads before events changes end
    → items_at (length events) before (flat_map item_spelling events ++ rest) ≡ Some (changes, rest)
unfolding items_at
items_again [] before end changes rest ends reads =
    where_true (may_end before) ([], rest) (ap may_end (sym reads.1) ∙ ends) ∙ ap (λ (l : List Change). Some (l, rest)) (sym reads.0)
items_again (event ∷ events) before end changes rest ends reads =
    ap (λ (l : List ℕ). items_at (suc (length events)) before (event.kind ∷ l)) (append_assoc event.body (flat_map item_spelling events) rest)
    ∙ rw (reads.2 (flat_map item_spelling events ++ rest), items_again events reads.0.before end reads.1 rest ends reads.3)
    (ap (λ (l : List Change). Some (l, rest)) (sym reads.4))

pub list_takes : (bytes : List ℕ) (it : List Change × List ℕ) → IsBytes bytes → list_at bytes ≡ Some it → Took bytes (list_spelling it.0) it.1 × AreListed it.0
unfolding list_at
list_takes bytes it fits is =
    let a = bind_some (piece_at 4 bytes) (λ count. items_at (from_le_bytes w32 count.0) Other count.1 >>= λ x. where_so (list_all is_on_table x.0) x) it is in
    let b = bind_some (items_at (from_le_bytes w32 a.0.0) Other a.0.1) (λ x. where_so (list_all is_on_table x.0) x) it a.2 in
    let count = piece_takes 4 bytes a.0 fits a.1 in
    let items = items_takes (from_le_bytes w32 a.0.0) Other a.0.1 b.0 tt count.0.rest_bytes b.1 in
    let found = where_some (list_all is_on_table b.0.0) b.0 it b.2 in
    let number : le32 (length (items_of_changes b.0.0)) ≡ a.0.0 = ap le32 items.number ∙ le32_back a.0.0 count.1 count.2 in
    let small : length (items_of_changes b.0.0) < 2 ^ 32 = omega (arith, items.number, le32_below a.0.0 count.2) in
    let all : Took bytes (a.0.0 ++ flat_map item_spelling (items_of_changes b.0.0)) b.0.1 = Took-then bytes a.0.0 a.0.1 (flat_map item_spelling (items_of_changes b.0.0)) b.0.1 count.0 items.took in
    subst (λ (x : List Change × List ℕ). Took bytes (list_spelling x.0) x.1 × AreListed x.0) found.1 (
      subst (λ (l : List ℕ). Took bytes (l ++ flat_map item_spelling (items_of_changes b.0.0)) b.0.1) (sym number) all,
      record { fit = items.fit; on_tables = found.0; few = small },
    )

pub list_again : (changes : List Change) (rest : List ℕ) → AreListed changes → list_at (list_spelling changes ++ rest) ≡ Some (changes, rest)
unfolding list_at
list_again changes rest listed =
    let read = changes_again Other changes refl listed.fit in
    ap list_at (append_assoc (le32 (length (items_of_changes changes))) (flat_map item_spelling (items_of_changes changes)) rest)
    ∙ rw (piece_again 4 (le32 (length (items_of_changes changes))) (flat_map item_spelling (items_of_changes changes) ++ rest) (length-le32 _), le32_again (length (items_of_changes changes)) listed.few, items_again (items_of_changes changes) Other read.0 changes rest read.1 read.2)
    (where_true (list_all is_on_table changes) (changes, rest) listed.on_tables)
