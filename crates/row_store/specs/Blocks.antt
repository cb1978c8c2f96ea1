-- A list of numbers in blocks, all of them full but the last with any. (This project.)
use Rattle.std.specs.Prelude.{◌≡◌, ◌≢◌, ◌+◌, ◌-◌, ◌*◌, ℕ, List, [], length, min, get_or}
use Rattle.std.specs.List.{concat}

-- how many numbers a full block has
abbrev pub full : ℕ
full = 1024

-- the numbers of a block: none where the block is not there
abbrev pub block_at : List (List ℕ) → ℕ → List ℕ
block_at blocks k = get_or blocks k []

-- how many of n numbers stand in a block
abbrev pub size_at : ℕ → ℕ → ℕ
size_at n k = min full (n - k * full)

-- so many numbers stand in these blocks, in each as many as there should
pub record ArePacked (n : ℕ) (blocks : List (List ℕ)) : Type 0 where
  pub count : length (concat blocks) ≡ n
  pub sizes : (k : ℕ) → length (block_at blocks k) ≡ size_at n k

-- the same, but that one block has one number more
pub record HaveExtra (n k : ℕ) (blocks : List (List ℕ)) : Type 0 where
  pub here : length (block_at blocks k) ≡ size_at n k + 1
  pub others : (j : ℕ) → j ≢ k → length (block_at blocks j) ≡ size_at n j

-- the same, but that one block has one number less
pub record HaveGap (n k : ℕ) (blocks : List (List ℕ)) : Type 0 where
  pub here : length (block_at blocks k) + 1 ≡ size_at n k
  pub others : (j : ℕ) → j ≢ k → length (block_at blocks j) ≡ size_at n j

-- a number went from the back of a block to the front of the next, so the list is as it was
pub record Passes (k : ℕ) (old new : List (List ℕ)) : Type 0 where
  pub same : concat new ≡ concat old
  pub less : length (block_at new k) + 1 ≡ length (block_at old k)
  pub more : length (block_at new (k + 1)) ≡ length (block_at old (k + 1)) + 1
  pub others : (j : ℕ) → j ≢ k → j ≢ k + 1 → length (block_at new j) ≡ length (block_at old j)

-- there are blocks more without numbers
pub record HasMoreBlocks (old new : List (List ℕ)) : Type 0 where
  pub same : concat new ≡ concat old
  pub sizes : (k : ℕ) → length (block_at new k) ≡ length (block_at old k)

-- a list of numbers, and for how many there is room
pub record Listed : Type 0 where
  pub items : List ℕ
  pub room : ℕ
