-- The lines of the input. (This project.)
use Rattle.std.specs.Prelude.{◌≡◌, ◌≢◌, ℕ, List, [], ◌∷◌, ◌++◌, take}

-- no line feed stands in these bytes
abbrev pub HasNoFeed : List ℕ → Type 0
HasNoFeed [] = Unit {0}
HasNoFeed (byte ∷ bytes) = (byte ≢ 10) × HasNoFeed bytes

-- none of these lines has a line feed in it
abbrev pub AreLines : List (List ℕ) → Type 0
AreLines [] = Unit {0}
AreLines (line ∷ lines) = HasNoFeed line × AreLines lines

-- each line, and its line feed
abbrev pub joined : List (List ℕ) → List ℕ
joined [] = []
joined (line ∷ lines) = line ++ 10 ∷ joined lines

-- the bytes are these lines, each ended by a line feed, and then one that is not ended
pub record Splits (bytes : List ℕ) (lines : List (List ℕ)) (rest : List ℕ) : Type 0 where
  pub spelt : bytes ≡ joined lines ++ rest
  pub lines_are : AreLines lines
  pub is_open : HasNoFeed rest

-- the first bytes of a line, as many as decide what it asks for
abbrev pub front_of : List ℕ → List ℕ
front_of line = take 65542 line

-- what ends a line that the input's end leaves open: a carriage return and a line feed, so that one that stands there counts
abbrev pub closing : List ℕ → List ℕ
closing [] = []
closing (byte ∷ bytes) = 13 ∷ 10 ∷ []

-- the lines of a whole input: its last line needs no line feed, but is none where it is empty
pub record AreAll (bytes : List ℕ) (lines : List (List ℕ)) : Type 0 where
  pub ended : List (List ℕ)
  pub rest : List ℕ
  pub splits : Splits bytes ended rest
  pub all : Splits (bytes ++ closing rest) lines []

-- first lines of these bytes, each ended by a line feed
pub record AreFirst (bytes : List ℕ) (lines : List (List ℕ)) : Type 0 where
  pub lines_are : AreLines lines
  pub more : List ℕ
  pub spelt : bytes ≡ joined lines ++ more

-- first lines of a whole input, whose last line needs no line feed
pub record AreFirstOfAll (bytes : List ℕ) (lines : List (List ℕ)) : Type 0 where
  pub ended : List (List ℕ)
  pub rest : List ℕ
  pub splits : Splits bytes ended rest
  pub first : AreFirst (bytes ++ closing rest) lines
