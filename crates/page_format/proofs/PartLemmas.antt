-- A list with a part of it written over.
use Rattle.std.proofs.Common.{◌≡◌, ℕ, ◌+◌, ◌-◌, ◌<◌, ◌≤◌, List, length, get_or, arith, length-append, length-take, length-drop}
use Rattle.std.proofs.lemmas.List.{places}
use borrow.Rule.Slice.PartMut.{put_mid}

pub length-put_mid : {X : Type 0} (from k : ℕ) (old part : List X) → from + k ≤ length old → length part ≡ k → length (put_mid from k old part) ≡ length old
length-put_mid from k old part room size = simp (length-append, length-take, length-drop) (omega arith)

pub get_or-put_mid_below : {X : Type 0} (from k at : ℕ) (old part : List X) (d : X) → from + k ≤ length old → at < from → get_or (put_mid from k old part) at d ≡ get_or old at d
get_or-put_mid_below from k at old part d room before = grind (arith, places)

pub get_or-put_mid_in : {X : Type 0} (from k at : ℕ) (old part : List X) (d : X) → from + k ≤ length old → length part ≡ k → from ≤ at → at < from + k
    → get_or (put_mid from k old part) at d ≡ get_or part (at - from) d
get_or-put_mid_in from k at old part d room size begun not_ended = grind (arith, places)

pub get_or-put_mid_above : {X : Type 0} (from k at : ℕ) (old part : List X) (d : X) → from + k ≤ length old → length part ≡ k → from + k ≤ at
    → get_or (put_mid from k old part) at d ≡ get_or old at d
get_or-put_mid_above from k at old part d room size behind = grind (arith, places)
