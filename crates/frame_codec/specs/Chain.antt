-- Frames one directly after the other, each chained to the one before it.
use Rattle.std.specs.Prelude.{◌≤◌, ◌+◌, ℕ, List, [], ◌∷◌, ◌++◌}
use Rattle.frame_codec.specs.Frame.{Event, size_of, checksum_of, frame_of, limit}

-- their bytes, from a position on, behind a checksum
unfoldable pub chain_of : ℕ → ℕ → List Event → List ℕ
chain_of prev at [] = []
chain_of prev at (event ∷ events) = frame_of prev at event ++ chain_of (checksum_of prev at event) (at + size_of event) events

-- where they end
abbrev pub end_of : ℕ → List Event → ℕ
end_of at [] = at
end_of at (event ∷ events) = end_of (at + size_of event) events

-- the last one's checksum, or prev where there is none
abbrev pub last_checksum : ℕ → ℕ → List Event → ℕ
last_checksum prev at [] = prev
last_checksum prev at (event ∷ events) = last_checksum (checksum_of prev at event) (at + size_of event) events

-- they end within the limit
abbrev pub EndsWithin : ℕ → List Event → Type 0
EndsWithin at events = end_of at events ≤ limit
