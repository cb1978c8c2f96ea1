-- Where a place of the list stands in the blocks.
use Rattle.std.proofs.Common.{◌≡◌, ℕ, zero, suc, ◌+◌, ◌-◌, ◌*◌, ◌/◌, ◌%◌, ◌<◌, ◌≤◌, List, [], ◌∷◌, ◌++◌, length, get_or, set, take, drop, Some, sym, ◌∙◌, ap, arith}
use Rattle.std.specs.Prelude.{insert, remove, slice_get}
use Rattle.std.specs.List.{concat}
use Rattle.std.proofs.lemmas.List.{get_or_default, take_at, get_or_append_left, get_or-append_right, get_or_past}
use Rattle.std.proofs.lemmas.List.Edits.{insert-append_left, insert-append_right, remove-append_left, remove-append_right, length-insert, length-remove}
use Rattle.std.proofs.lemmas.Option.{slice_get-get_or}
use Rattle.row_store.specs.Blocks.{full, block_at, ArePacked}
use Rattle.row_store.proofs.BlockLemmas.{Lists}

-- the blocks before this one are full
AreFullBefore : Lists → ℕ → Type 0
AreFullBefore blocks k = (j : ℕ) → j < k → length (block_at blocks j) ≡ full

full_rest : (x : List ℕ) (rest : Lists) (k : ℕ) → AreFullBefore (x ∷ rest) (suc k) → AreFullBefore rest k
unfolding AreFullBefore
full_rest x rest k before = λ j lt. before (suc j) (omega (arith, lt))

full_first : (x : List ℕ) (rest : Lists) (k : ℕ) → AreFullBefore (x ∷ rest) (suc k) → length x ≡ full
unfolding AreFullBefore
full_first x rest k before = before zero (omega arith)

full_before : (n k : ℕ) (blocks : Lists) → ArePacked n blocks → k * full ≤ n → AreFullBefore blocks k
unfolding AreFullBefore
full_before n k blocks packed within = λ j lt. let size = packed.sizes j in omega (arith, size, lt, within)

-- a number that is read
read_from : (blocks : Lists) (k r i d : ℕ) → AreFullBefore blocks k → k < length blocks → r < length (block_at blocks k) → i ≡ k * full + r → get_or (concat blocks) i d ≡ get_or (block_at blocks k) r d
read_from [] k r i d before there within is = absurd (omega (arith, there))
read_from (x ∷ rest) zero r i d before there within is =
    let at : i ≡ r = omega (arith, is) in
    ap (λ (j : ℕ). get_or (x ++ concat rest) j d) at ∙ get_or_append_left x (concat rest) d r within
read_from (x ∷ rest) (suc k) r i d before there within is =
    let size = full_first x rest k before in
    get_or-append_right x (concat rest) full i d size (omega (arith, is)) ∙ read_from rest k r (i - full) d (full_rest x rest k before) (omega (arith, there)) within (omega (arith, is))

-- a number that comes
put_from : (blocks : Lists) (k r i y : ℕ) → AreFullBefore blocks k → k < length blocks → r ≤ length (block_at blocks k) → i ≡ k * full + r → concat (set blocks k (insert (block_at blocks k) r y)) ≡ insert (concat blocks) i y
put_from [] k r i y before there within is = absurd (omega (arith, there))
put_from (x ∷ rest) zero r i y before there within is =
    let at : r ≡ i = omega (arith, is) in
    sym (insert-append_left x (concat rest) r y within) ∙ ap (λ (j : ℕ). insert (x ++ concat rest) j y) at
put_from (x ∷ rest) (suc k) r i y before there within is =
    let size = full_first x rest k before in
    ap (λ (l : List ℕ). x ++ l) (put_from rest k r (i - full) y (full_rest x rest k before) (omega (arith, there)) within (omega (arith, is))) ∙ sym (insert-append_right x (concat rest) full i y size (omega (arith, is)))

-- a number that goes
take_from : (blocks : Lists) (k r i : ℕ) → AreFullBefore blocks k → k < length blocks → r < length (block_at blocks k) → i ≡ k * full + r → concat (set blocks k (remove (block_at blocks k) r)) ≡ remove (concat blocks) i
take_from [] k r i before there within is = absurd (omega (arith, there))
take_from (x ∷ rest) zero r i before there within is =
    let at : r ≡ i = omega (arith, is) in
    sym (remove-append_left x (concat rest) r within) ∙ ap (remove (x ++ concat rest)) at
take_from (x ∷ rest) (suc k) r i before there within is =
    let size = full_first x rest k before in
    ap (λ (l : List ℕ). x ++ l) (take_from rest k r (i - full) (full_rest x rest k before) (omega (arith, there)) within (omega (arith, is))) ∙ sym (remove-append_right x (concat rest) full i size (omega (arith, is)))

-- the numbers have room
pub packed_room : (n : ℕ) (blocks : Lists) → ArePacked n blocks → n ≤ full * length blocks
packed_room n blocks packed =
    let size = packed.sizes (length blocks) in
    let none : length (block_at blocks (length blocks)) ≡ 0 = ap (λ (l : List ℕ). length l) (get_or_past blocks (length blocks) [] (omega arith)) in
    omega (arith, size, none)

-- the block of a place is there
pub there : (n i : ℕ) (blocks : Lists) → ArePacked n blocks → i < n → i / full < length blocks
there n i blocks packed lt = let room = packed_room n blocks packed in omega (arith, room, lt)

-- and so is its place in the block
pub within : (n i : ℕ) (blocks : Lists) → ArePacked n blocks → i < n → i % full < length (block_at blocks (i / full))
within n i blocks packed lt = let size = packed.sizes (i / full) in omega (arith, size, lt)

pub got : (n i : ℕ) (blocks : Lists) → ArePacked n blocks → i < n → slice_get (block_at blocks (i / full)) (i % full) ≡ slice_get (concat blocks) i
got n i blocks packed lt =
    let count = packed.count in
    let at = within n i blocks packed lt in
    slice_get-get_or (block_at blocks (i / full)) (i % full) 0 at
    ∙ ap (λ (y : ℕ). Some y) (sym (read_from blocks (i / full) (i % full) i 0 (full_before n (i / full) blocks packed (omega (arith, lt))) (there n i blocks packed lt) at (omega arith)))
    ∙ sym (slice_get-get_or (concat blocks) i 0 (omega (arith, count, lt)))

-- a block that was read
read : (blocks : Lists) (k : ℕ) (block : List ℕ) → k < length blocks → block ≡ get_or blocks k block → block ≡ block_at blocks k
read blocks k block lt is = is ∙ get_or_default blocks k block [] lt

pub number_there : (n i : ℕ) (blocks : Lists) (block : List ℕ) → ArePacked n blocks → i < n → block ≡ get_or blocks (i / full) block → i % full < length block
number_there n i blocks block packed lt is =
    let size = ap (λ (l : List ℕ). length l) (read blocks (i / full) block (there n i blocks packed lt) is) in
    let at = within n i blocks packed lt in
    omega (arith, size, at)

pub number_got : (n i : ℕ) (blocks : Lists) (block : List ℕ) → ArePacked n blocks → i < n → block ≡ get_or blocks (i / full) block → slice_get block (i % full) ≡ slice_get (concat blocks) i
number_got n i blocks block packed lt is = ap (λ (l : List ℕ). slice_get l (i % full)) (read blocks (i / full) block (there n i blocks packed lt) is) ∙ got n i blocks packed lt

-- the list with one number more
pub number_put : (n i y : ℕ) (blocks seen : Lists) (block after : List ℕ) → ArePacked n blocks → i ≤ n → n < full * length blocks → block ≡ get_or blocks (i / full) block → after ≡ insert block (i % full) y → seen ≡ set blocks (i / full) after → concat seen ≡ insert (concat blocks) i y
number_put n i y blocks seen block after packed le room is new all =
    let size = packed.sizes (i / full) in
    let lt : i / full < length blocks = omega (arith, le, room) in
    ap concat (all ∙ ap (set blocks (i / full)) (new ∙ ap (λ (l : List ℕ). insert l (i % full) y) (read blocks (i / full) block lt is)))
    ∙ put_from blocks (i / full) (i % full) i y (full_before n (i / full) blocks packed (omega (arith, le))) lt (omega (arith, size, le)) (omega arith)

pub one_more : (n i y : ℕ) (blocks seen : Lists) → ArePacked n blocks → i ≤ n → concat seen ≡ insert (concat blocks) i y → length (concat seen) ≡ n + 1
one_more n i y blocks seen packed le is =
    let count = packed.count in
    let more = length-insert (concat blocks) i y (omega (arith, count, le)) in
    ap (λ (l : List ℕ). length l) is ∙ omega (arith, count, more)

-- the list with one number less
pub number_taken : (n i : ℕ) (blocks seen : Lists) (block after : List ℕ) → ArePacked n blocks → i < n → block ≡ get_or blocks (i / full) block → after ≡ remove block (i % full) → seen ≡ set blocks (i / full) after → concat seen ≡ remove (concat blocks) i
number_taken n i blocks seen block after packed lt is new all =
    let at = there n i blocks packed lt in
    ap concat (all ∙ ap (set blocks (i / full)) (new ∙ ap (λ (l : List ℕ). remove l (i % full)) (read blocks (i / full) block at is)))
    ∙ take_from blocks (i / full) (i % full) i (full_before n (i / full) blocks packed (omega (arith, lt))) at (within n i blocks packed lt) (omega arith)

pub one_less : (n i : ℕ) (blocks seen : Lists) → ArePacked n blocks → i < n → concat seen ≡ remove (concat blocks) i → length (concat seen) ≡ n - 1
one_less n i blocks seen packed lt is =
    let count = packed.count in
    let less = length-remove (concat blocks) i (omega (arith, count, lt)) in
    ap (λ (l : List ℕ). length l) is ∙ omega (arith, count, less)

-- what is written back is all
pub written_back : (n : ℕ) (new old : Lists) → length new ≡ n → take n (new ++ drop (length new) old) ≡ new
written_back n new old size = take_at new (drop (length new) old) n size
