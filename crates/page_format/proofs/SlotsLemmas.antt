-- The slots that bytes tell of, one by one.
use Rattle.std.proofs.Common.{◌≡◌, ℕ, ◌<◌, List, [], length, get_or, sym, arith}
use Rattle.std.proofs.lemmas.List.FromFn.{fill_by_all, length-map-range_with_len, get_or-map-range_with_len}
use Rattle.page_format.specs.Format.{row_at}
use Rattle.page_format.specs.Kept.{count_in, slots_of}

pub length-slots_of : (bytes : List ℕ) → length (slots_of bytes) ≡ count_in bytes
unfolding slots_of
length-slots_of bytes = length-map-range_with_len (row_at bytes) 0 (count_in bytes)

-- each is the record that its entry tells of
pub get_or-slots_of : (bytes : List ℕ) (slot : ℕ) → slot < count_in bytes → get_or (slots_of bytes) slot [] ≡ row_at bytes slot
unfolding slots_of
get_or-slots_of bytes slot there = get_or-map-range_with_len (row_at bytes) 0 (count_in bytes) slot slot [] there (omega arith)

-- and they are all
pub slots_of_is : (bytes : List ℕ) (slots : List (List ℕ)) → count_in bytes ≡ length slots → ((slot : ℕ) → slot < length slots → row_at bytes slot ≡ get_or slots slot []) → slots_of bytes ≡ slots
unfolding slots_of
slots_of_is bytes slots count rows =
    sym (fill_by_all (row_at bytes) slots (count_in bytes) [] (sym count) (λ k h. sym (rows k (omega (arith, count)))))
