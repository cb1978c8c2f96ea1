-- Numbers that pass from block to block.
use Rattle.std.proofs.Common.{◌≡◌, ℕ, zero, suc, ◌+◌, ◌<◌, List, [], ◌∷◌, ◌++◌, length, get_or, set, refl, sym, ◌∙◌, ap, arith}
use Rattle.std.specs.List.{concat}
use Rattle.std.proofs.lemmas.List.{get_or_default, get_or-set_same, get_or-set_other, length-append, length-set, append_assoc}
use Rattle.row_store.specs.Blocks.{block_at, Passes, HasMoreBlocks}

abbrev pub Lists : Type 0
Lists = List (List ℕ)

-- what stands in two blocks, of which the second begins one number earlier
same_numbers : (blocks : Lists) (k y : ℕ) (a b : List ℕ) → suc k < length blocks → block_at blocks k ≡ a ++ y ∷ [] → block_at blocks (suc k) ≡ b → concat (set (set blocks k a) (suc k) (y ∷ b)) ≡ concat blocks
same_numbers [] k y a b there here next = absurd (omega (arith, there))
same_numbers (x ∷ []) k y a b there here next = absurd (omega (arith, there))
same_numbers (x ∷ z ∷ rest) zero y a b there here next =
    ap (λ (l : List ℕ). a ++ ((y ∷ l) ++ concat rest)) (sym next) ∙ sym (append_assoc a (y ∷ []) (z ++ concat rest)) ∙ ap (λ (l : List ℕ). l ++ (z ++ concat rest)) (sym here)
same_numbers (x ∷ z ∷ rest) (suc k) y a b there here next = ap (λ (l : List ℕ). x ++ l) (same_numbers (z ∷ rest) k y a b (omega (arith, there)) here next)

-- the same, where the blocks are read
same_list : (blocks new : Lists) (k y : ℕ) (a b : List ℕ) → k + 1 < length blocks → block_at blocks k ≡ a ++ y ∷ [] → block_at blocks (k + 1) ≡ b → new ≡ set (set blocks k a) (k + 1) (y ∷ b) → concat new ≡ concat blocks
same_list blocks new k y a b there here next is =
    let one : k + 1 ≡ suc k = omega arith in
    ap concat (is ∙ ap (λ (j : ℕ). set (set blocks k a) j (y ∷ b)) one) ∙ same_numbers blocks k y a b (omega (arith, there)) here (ap (block_at blocks) (sym one) ∙ next)

-- two blocks have other numbers, as many together
passed : (blocks new : Lists) (k y : ℕ) (a b : List ℕ) → k + 1 < length blocks → block_at blocks k ≡ a ++ y ∷ [] → block_at blocks (k + 1) ≡ b → new ≡ set (set blocks k a) (k + 1) (y ∷ b) → Passes k blocks new
passed blocks new k y a b there here next is =
    let size = length-set blocks k a in
    let first : block_at new k ≡ a = ap (λ (l : Lists). block_at l k) is ∙ get_or-set_other (set blocks k a) (k + 1) k (y ∷ b) [] (λ same. omega (arith, same)) ∙ get_or-set_same blocks k a [] (omega (arith, there)) in
    let second : block_at new (k + 1) ≡ y ∷ b = ap (λ (l : Lists). block_at l (k + 1)) is ∙ get_or-set_same (set blocks k a) (k + 1) (y ∷ b) [] (omega (arith, there, size)) in
    record {
      same = same_list blocks new k y a b there here next is;
      less = let one = ap (λ (l : List ℕ). length l) first in let two = ap (λ (l : List ℕ). length l) here in let three = length-append a (y ∷ []) in omega (arith, one, two, three);
      more = let one = ap (λ (l : List ℕ). length l) second in let two = ap (λ (l : List ℕ). length l) next in omega (arith, one, two);
      others = λ j one two. ap (λ (l : Lists). length (block_at l j)) is ∙ ap (λ (l : List ℕ). length l) (get_or-set_other (set blocks k a) (k + 1) j (y ∷ b) [] two ∙ get_or-set_other blocks k j a [] one);
    }

-- a number goes on
pub passes_on : (blocks : Lists) (k y : ℕ) (a b d e : List ℕ) → k + 1 < length blocks → get_or blocks k d ≡ a ++ y ∷ [] → b ≡ y ∷ get_or (set blocks k a) (k + 1) e → Passes k blocks (set (set blocks k a) (k + 1) b)
passes_on blocks k y a b d e there here next =
    let size = length-set blocks k a in
    let second : get_or (set blocks k a) (k + 1) e ≡ block_at blocks (k + 1) = get_or_default (set blocks k a) (k + 1) e [] (omega (arith, there, size)) ∙ get_or-set_other blocks k (k + 1) a [] (λ same. omega (arith, same)) in
    passed blocks (set (set blocks k a) (k + 1) b) k y a (block_at blocks (k + 1)) there (get_or_default blocks k [] d (omega (arith, there)) ∙ here) refl (ap (set (set blocks k a) (k + 1)) (next ∙ ap (λ (l : List ℕ). y ∷ l) second))

-- what stands in two blocks, of which the second begins one number later
same_numbers_back : (blocks : Lists) (k y : ℕ) (a b : List ℕ) → suc k < length blocks → block_at blocks k ≡ a → block_at blocks (suc k) ≡ y ∷ b → concat (set (set blocks (suc k) b) k (a ++ y ∷ [])) ≡ concat blocks
same_numbers_back [] k y a b there here next = absurd (omega (arith, there))
same_numbers_back (x ∷ []) k y a b there here next = absurd (omega (arith, there))
same_numbers_back (x ∷ z ∷ rest) zero y a b there here next =
    append_assoc a (y ∷ []) (b ++ concat rest) ∙ ap (λ (l : List ℕ). a ++ (l ++ concat rest)) (sym next) ∙ ap (λ (l : List ℕ). l ++ (z ++ concat rest)) (sym here)
same_numbers_back (x ∷ z ∷ rest) (suc k) y a b there here next = ap (λ (l : List ℕ). x ++ l) (same_numbers_back (z ∷ rest) k y a b (omega (arith, there)) here next)

-- a number goes back
pub passes_back : (blocks : Lists) (k y : ℕ) (b c d e : List ℕ) → k + 1 < length blocks → get_or blocks (k + 1) d ≡ y ∷ b → c ≡ get_or (set blocks (k + 1) b) k e ++ y ∷ [] → Passes k (set (set blocks (k + 1) b) k c) blocks
passes_back blocks k y b c d e there next here =
    let size = length-set blocks (k + 1) b in
    let a = block_at blocks k in
    let one : k + 1 ≡ suc k = omega arith in
    let then : block_at blocks (k + 1) ≡ y ∷ b = get_or_default blocks (k + 1) [] d there ∙ next in
    let is : c ≡ a ++ y ∷ [] = here ∙ ap (λ (l : List ℕ). l ++ y ∷ []) (get_or_default (set blocks (k + 1) b) k e [] (omega (arith, there, size)) ∙ get_or-set_other blocks (k + 1) k b [] (λ same. omega (arith, same))) in
    let first : block_at (set (set blocks (k + 1) b) k c) k ≡ c = get_or-set_same (set blocks (k + 1) b) k c [] (omega (arith, there, size)) in
    let second : block_at (set (set blocks (k + 1) b) k c) (k + 1) ≡ b = get_or-set_other (set blocks (k + 1) b) k (k + 1) c [] (λ same. omega (arith, same)) ∙ get_or-set_same blocks (k + 1) b [] there in
    record {
      same = sym (ap (λ (j : ℕ). concat (set (set blocks j b) k c)) one ∙ ap (λ (l : List ℕ). concat (set (set blocks (suc k) b) k l)) is ∙ same_numbers_back blocks k y a b (omega (arith, there)) refl (ap (block_at blocks) (sym one) ∙ then));
      less = let two = ap (λ (l : List ℕ). length l) (first ∙ is) in let three = length-append a (y ∷ []) in omega (arith, two, three);
      more = let two = ap (λ (l : List ℕ). length l) second in let three = ap (λ (l : List ℕ). length l) then in omega (arith, two, three);
      others = λ j here next. ap (λ (l : List ℕ). length l) (sym (get_or-set_other (set blocks (k + 1) b) k j c [] here ∙ get_or-set_other blocks (k + 1) j b [] next));
    }

-- a block more
concat_more : (blocks : Lists) → concat (blocks ++ [] ∷ []) ≡ concat blocks
concat_more [] = refl
concat_more (x ∷ rest) = ap (λ (l : List ℕ). x ++ l) (concat_more rest)

size_more : (blocks : Lists) (k : ℕ) → length (block_at (blocks ++ [] ∷ []) k) ≡ length (block_at blocks k)
size_more [] zero = refl
size_more [] (suc k) = refl
size_more (x ∷ rest) zero = refl
size_more (x ∷ rest) (suc k) = size_more rest k

pub more_none : (blocks : Lists) → HasMoreBlocks blocks blocks
more_none blocks = record { same = refl; sizes = λ k. refl }

pub more_push : (old mid new : Lists) (block : List ℕ) → HasMoreBlocks old mid → block ≡ [] → new ≡ mid ++ block ∷ [] → HasMoreBlocks old new
more_push old mid new block more none is =
    let all : new ≡ mid ++ [] ∷ [] = is ∙ ap (λ (b : List ℕ). mid ++ b ∷ []) none in
    record {
      same = ap concat all ∙ concat_more mid ∙ more.same;
      sizes = λ k. ap (λ (l : Lists). length (block_at l k)) all ∙ size_more mid k ∙ more.sizes k;
    }
