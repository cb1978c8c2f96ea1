-- The steps of counting what changes take, from the first change on.
use Rattle.std.proofs.Common.{◌≡◌, ◌≤◌, ◌<◌, ℕ, ◌+◌, ◌-◌, List, [], ◌∷◌, ◌++◌, length, sym, ap, subst, ◌∙◌, arith, sum_by, take, drop, get_or}
use Rattle.std.specs.Prelude.{nat_le}
use Rattle.std.proofs.lemmas.Bool.{and_parts, le-leb}
use Rattle.std.proofs.lemmas.List.{take_more, drop_more, take-append-drop, append-nil, append_assoc}
use Rattle.std.proofs.lemmas.List.Sums.{sum_by-append, sum_by-cons}
use Rattle.row_format.specs.declared.change.Change.{Change}
use Rattle.log_tables.specs.declared.table.Table.{Table}
use Rattle.log_tables.specs.Tables.{table_named}
use Rattle.log_tables.specs.Changes.{after_changes, all_apply}
use Rattle.log_tables.proofs.FoldLemmas.{after_changes-append}
use Rattle.engine_api.specs.States.{Pending, changes_in}
use Rattle.engine_api.specs.Live.{live_bytes, live_limit}
use Rattle.live_tables.specs.Bytes.{capped}
use Rattle.live_tables.specs.Folds.{through, bytes_found, change_bytes, freed}
use Rattle.live_tables.specs.Gone.{gone, bytes_step}
use Rattle.live_tables.specs.Live.{most_bytes, CanMake, CanAdd}
use Rattle.live_tables.proofs.FoldLemmas.{all_apply_append, through_append}
use Rattle.live_tables.proofs.OpenLaws.{changes_in_append, changes_last}
use Rattle.live_tables.proofs.SeekLemmas.{pending_split}
use Rattle.live_tables.proofs.GoneLemmas.{bytes_after, gone_append, bytes_under, bytes_within}

-- The bytes of one change less are left.
pub bytes_left : (cs : List Change) (i : ℕ) (c : Change) (x y most : ℕ) → i < length cs → c ≡ get_or cs i c
    → x + sum_by change_bytes (drop i cs) ≤ most → y ≤ x + change_bytes c → y + sum_by change_bytes (drop (i + 1) cs) ≤ most
bytes_left cs i c x y most within is so_far next =
    let split = ap (sum_by change_bytes) (drop_more cs i c within) in
    let all = sum_by-cons change_bytes (get_or cs i c) (drop (i + 1) cs) in
    let same = ap change_bytes is in
    omega (arith, split, all, same, so_far, next)

-- Those of a change are among them.
pub bytes_here : (cs : List Change) (i : ℕ) (c : Change) (x most : ℕ) → i < length cs → c ≡ get_or cs i c
    → x + sum_by change_bytes (drop i cs) ≤ most → x + change_bytes c ≤ most
bytes_here cs i c x most within is so_far =
    let split = ap (sum_by change_bytes) (drop_more cs i c within) in
    let all = sum_by-cons change_bytes (get_or cs i c) (drop (i + 1) cs) in
    let same = ap change_bytes is in
    omega (arith, split, all, same, so_far)

-- The bytes of one transaction less are left.
pub pending_left : (pending : List Pending) (i : ℕ) (it : Pending) (changes : List Change) (x y most : ℕ) → i < length pending → it ≡ get_or pending i it → changes ≡ it.changes
    → x + sum_by change_bytes (changes_in (drop i pending)) ≤ most → y ≤ x + sum_by change_bytes changes → y + sum_by change_bytes (changes_in (drop (i + 1) pending)) ≤ most
pending_left pending i it changes x y most within is own so_far next =
    let split = ap (sum_by change_bytes) (pending_split pending i it within is) in
    let parts = sum_by-append change_bytes it.changes (changes_in (drop (i + 1) pending)) in
    let same = ap (sum_by change_bytes) own in
    omega (arith, split, parts, same, so_far, next)

-- Those of a transaction are among them.
pub pending_bytes : (pending : List Pending) (i : ℕ) (it : Pending) (changes : List Change) (x most : ℕ) → i < length pending → it ≡ get_or pending i it → changes ≡ it.changes
    → x + sum_by change_bytes (changes_in (drop i pending)) ≤ most → x + sum_by change_bytes changes ≤ most
pending_bytes pending i it changes x most within is own so_far =
    let split = ap (sum_by change_bytes) (pending_split pending i it within is) in
    let parts = sum_by-append change_bytes it.changes (changes_in (drop (i + 1) pending)) in
    let same = ap (sum_by change_bytes) own in
    omega (arith, split, parts, same, so_far)

-- The first of two lists can be made where both can, one behind the other.
pub can_first : (cs ds : List Change) (ts : List Table) (committed : ℕ) → CanMake ts (cs ++ ds) committed → CanMake ts cs committed
can_first cs ds ts committed can =
    let both = and_parts (all_apply cs ts) (all_apply ds (after_changes cs ts)) (sym (all_apply_append cs ds ts) ∙ can.fit) in
    let all = sum_by-append change_bytes cs ds in
    record { made = can.made; fit = both.0; committed_is = can.committed_is; small = omega (arith, all, can.small) }

-- A table's bytes fit, behind changes that can be made.
pub bytes_fit : (n : List ℕ) (cs ds : List Change) (ts : List Table) (stored : ℕ) → CanMake ts (cs ++ ds) (live_bytes ts) → stored ≡ capped (bytes_found (table_named n ts))
    → (stored ≡ bytes_found (table_named n ts)) × (stored + sum_by change_bytes cs + sum_by change_bytes ds ≤ most_bytes)
bytes_fit n cs ds ts stored can is =
    let few = bytes_within n ts in
    let all = sum_by-append change_bytes cs ds in
    (omega (arith, few, is, can.small), omega (arith, few, is, can.small, all))

-- They are those through both lists.
pub bytes_both : (n : List ℕ) (cs ds : List Change) (ts : List Table) (stored before behind : ℕ) → CanMake ts (cs ++ ds) (live_bytes ts) → stored ≡ capped (bytes_found (table_named n ts))
    → before ≡ through (bytes_step n) cs stored → behind ≡ through (bytes_step n) ds before → behind ≡ bytes_found (table_named n (after_changes (cs ++ ds) ts))
bytes_both n cs ds ts stored before behind can is first second =
    second
    ∙ ap (through (bytes_step n) ds) (first ∙ ap (through (bytes_step n) cs) (bytes_fit n cs ds ts stored can is).0)
    ∙ sym (through_append (bytes_step n) cs ds (bytes_found (table_named n ts)))
    ∙ sym (bytes_under n (cs ++ ds) ts can.made can.fit)

-- Changes up to a place can be made where all can.
pub can_take : (before cs : List Change) (i : ℕ) (ts : List Table) (committed : ℕ) → CanMake ts (before ++ cs) committed → CanMake ts (before ++ take i cs) committed
can_take before cs i ts committed can =
    can_first (before ++ take i cs) (drop i cs) ts committed
    (subst (λ l. CanMake ts l committed) (ap (λ l. before ++ l) (sym (take-append-drop i cs)) ∙ sym (append_assoc before (take i cs) (drop i cs))) can)

-- One change more takes its bytes.
pub gone_next : (before cs : List Change) (i : ℕ) (c : Change) (ts : List Table) (sum freed_here next : ℕ) → i < length cs → c ≡ get_or cs i c
    → sum ≡ capped (gone (take i cs) (after_changes before ts)) → freed_here ≡ capped (freed c (after_changes (before ++ take i cs) ts)) → next ≡ capped (sum + freed_here)
    → next ≡ capped (gone (take (i + 1) cs) (after_changes before ts))
gone_next before cs i c ts sum freed_here next within is so_far here added =
    let base = after_changes before ts in
    let all = ap (λ l. gone l base) (take_more cs i c within) ∙ gone_append (take i cs) (get_or cs i c ∷ []) base in
    let last = ap (λ l. freed c l) (after_changes-append before (take i cs) ts) ∙ ap (λ (x : Change). freed x (after_changes (take i cs) base)) is in
    omega (arith, all, last, so_far, here, added)

-- What is pending up to a transaction, with its changes.
pub pending_more : (pending : List Pending) (i : ℕ) (it : Pending) (changes : List Change) → i < length pending → it ≡ get_or pending i it → changes ≡ it.changes
    → changes_in (take (i + 1) pending) ≡ changes_in (take i pending) ++ changes
pending_more pending i it changes within is own =
    ap changes_in (take_more pending i it within)
    ∙ changes_last (take i pending) (get_or pending i it)
    ∙ ap (λ (x : Pending). changes_in (take i pending) ++ x.changes) (sym is)
    ∙ ap (λ l. changes_in (take i pending) ++ l) (sym own)

-- They can be made where all can.
pub can_pending : (pending : List Pending) (i : ℕ) (it : Pending) (changes : List Change) (ts : List Table) (committed : ℕ) → i < length pending → it ≡ get_or pending i it → changes ≡ it.changes
    → CanMake ts (changes_in pending) committed → CanMake ts (changes_in (take i pending) ++ changes) committed
can_pending pending i it changes ts committed within is own can =
    let split = ap changes_in (sym (take-append-drop (i + 1) pending)) ∙ changes_in_append (take (i + 1) pending) (drop (i + 1) pending) in
    subst (λ l. CanMake ts l committed) (pending_more pending i it changes within is own)
    (can_first (changes_in (take (i + 1) pending)) (changes_in (drop (i + 1) pending)) ts committed (subst (λ l. CanMake ts l committed) split can))

-- One transaction more takes its bytes.
pub gone_more : (pending : List Pending) (i : ℕ) (it : Pending) (changes : List Change) (ts : List Table) (sum own_sum next : ℕ) → i < length pending → it ≡ get_or pending i it → changes ≡ it.changes
    → sum ≡ capped (gone (changes_in (take i pending)) ts) → own_sum ≡ capped (gone changes (after_changes (changes_in (take i pending)) ts)) → next ≡ capped (sum + own_sum)
    → next ≡ capped (gone (changes_in (take (i + 1) pending)) ts)
gone_more pending i it changes ts sum own_sum next within is own so_far here added =
    let all = ap (λ l. gone l ts) (pending_more pending i it changes within is own) ∙ gone_append (changes_in (take i pending)) changes ts in
    omega (arith, all, so_far, here, added)

-- What is pending can be made where one change more can.
pub can_less : (ps : List Pending) (c : Change) (ts : List Table) (counted : ℕ) → CanAdd ts ps c counted → CanMake ts (changes_in ps) (live_bytes ts)
can_less ps c ts counted add = can_first (changes_in ps) (c ∷ []) ts (live_bytes ts) add.can

-- What it takes is among the bytes that are counted.
pub taken_within : (ps : List Pending) (c : Change) (ts : List Table) (counted taken : ℕ) → CanAdd ts ps c counted → taken ≡ capped (gone (changes_in ps) ts) → taken ≤ counted
taken_within ps c ts counted taken add taken_is =
    let law = bytes_after (changes_in ps ++ c ∷ []) ts add.can.made add.can.fit in
    let all = gone_append (changes_in ps) (c ∷ []) ts in
    omega (arith, law, all, add.counted_is, taken_is, add.can.small)

-- The bytes behind all these are those that are counted, without those that are taken.
pub next_bytes : (ps : List Pending) (c : Change) (ts : List Table) (counted taken own : ℕ) → CanAdd ts ps c counted → taken ≡ capped (gone (changes_in ps) ts)
    → own ≡ capped (freed c (after_changes (changes_in ps ++ []) ts)) → (own ≤ counted - taken) × ((counted - taken) - own ≡ live_bytes (after_changes (changes_in ps ++ c ∷ []) ts))
next_bytes ps c ts counted taken own add taken_is own_is =
    let law = bytes_after (changes_in ps ++ c ∷ []) ts add.can.made add.can.fit in
    let all = gone_append (changes_in ps) (c ∷ []) ts in
    let here = ap (λ l. freed c (after_changes l ts)) (append-nil (changes_in ps)) in
    (omega (arith, law, all, here, add.counted_is, taken_is, own_is, add.can.small), omega (arith, law, all, here, add.counted_is, taken_is, own_is, add.can.small))

-- Where those that are counted are within the limit, they are.
pub within_counted : (ps : List Pending) (c : Change) (ts : List Table) (counted : ℕ) → CanAdd ts ps c counted → counted ≤ live_limit
    → nat_le counted live_limit ≡ nat_le (live_bytes (after_changes (changes_in ps ++ c ∷ []) ts)) live_limit
within_counted ps c ts counted add within =
    let law = bytes_after (changes_in ps ++ c ∷ []) ts add.can.made add.can.fit in
    le-leb counted live_limit within ∙ sym (le-leb (live_bytes (after_changes (changes_in ps ++ c ∷ []) ts)) live_limit (omega (arith, law, add.counted_is, within)))
