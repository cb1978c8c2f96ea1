-- Bytes by file number: what a write and a cut make of each file, and where a file stands.
use Rattle.std.proofs.Common.{◌≡◌, ◌≢◌, ◌⊎◌, inl, inr, ℕ, zero, suc, ◌+◌, ◌≤◌, Bool, true, false, ◌==◌, List, [], ◌∷◌, ◌++◌, take, drop, length, get_or, set, Option, Some, None, refl, sym, ◌∙◌, ap, arith}
use Rattle.std.proofs.lemmas.Bool.Decides.{nat_tests}
use Rattle.std.proofs.lemmas.List.{drop_all, append-nil}
use Rattle.disk_model.specs.declared.past.FileBytes.{FileBytes}
use Rattle.disk_model.specs.File.{written}
use Rattle.disk_model.specs.Held.{held, bytes_in, put_in, cut_in, place_from}

-- a test is true or false
pub bool_cases : (b : Bool) → (b ≡ true) ⊎ (b ≡ false)
bool_cases true = inl refl
bool_cases false = inr refl

-- a number is itself
pub same_number : (n : ℕ) → (n == n) ≡ true
same_number n = grind (arith, nat_tests)

-- other numbers are not
pub other_number : (m n : ℕ) → n ≢ m → (m == n) ≡ false
other_number m n not = grind (arith, nat_tests)

-- what the test says
pub number_is : (m n : ℕ) → (m == n) ≡ true → m ≡ n
number_is m n is = grind (arith, nat_tests)

-- a file that was written has those bytes
pub bytes_put_here : (file : ℕ) (bytes : List ℕ) (files : List (ℕ × List ℕ)) → bytes_in (put_in file bytes files) file ≡ bytes
bytes_put_here file bytes [] = rw (same_number file) refl
bytes_put_here file bytes (entry ∷ files) = elim (bool_cases (entry.0 == file)) [
  | inl here ↦ rw (here, same_number file) refl
  | inr other ↦ rw (other, other) (bytes_put_here file bytes files)
]

-- the others are as they were
pub bytes_put_other : (file other : ℕ) (bytes : List ℕ) (files : List (ℕ × List ℕ)) → other ≢ file → bytes_in (put_in file bytes files) other ≡ bytes_in files other
bytes_put_other file other bytes [] not = rw (other_number file other not) refl
bytes_put_other file other bytes (entry ∷ files) not = elim (bool_cases (entry.0 == file)) [
  | inl here ↦
      let away : (entry.0 == other) ≡ false = grind (arith, nat_tests, number_is entry.0 file here) in
      rw (here, other_number file other not, away) refl
  | inr elsewhere ↦ elim (bool_cases (entry.0 == other)) [
    | inl is ↦ rw (elsewhere, is) refl
    | inr away ↦ rw (elsewhere, away) (bytes_put_other file other bytes files not)
  ]
]

-- a file that was cut has the first of its bytes
pub bytes_cut_here : (file len : ℕ) (files : List (ℕ × List ℕ)) → bytes_in (cut_in file len files) file ≡ take len (bytes_in files file)
bytes_cut_here file zero [] = refl
bytes_cut_here file (suc len) [] = refl
bytes_cut_here file len (entry ∷ files) = elim (bool_cases (entry.0 == file)) [
  | inl here ↦ rw (here, same_number file) refl
  | inr other ↦ rw (other, other) (bytes_cut_here file len files)
]

-- the others are as they were
pub bytes_cut_other : (file other len : ℕ) (files : List (ℕ × List ℕ)) → other ≢ file → bytes_in (cut_in file len files) other ≡ bytes_in files other
bytes_cut_other file other len [] not = refl
bytes_cut_other file other len (entry ∷ files) not = elim (bool_cases (entry.0 == file)) [
  | inl here ↦
      let away : (entry.0 == other) ≡ false = grind (arith, nat_tests, number_is entry.0 file here) in
      rw (here, other_number file other not, away) refl
  | inr elsewhere ↦ elim (bool_cases (entry.0 == other)) [
    | inl is ↦ rw (elsewhere, is) refl
    | inr away ↦ rw (elsewhere, away) (bytes_cut_other file other len files not)
  ]
]

-- no place is before the one that the walk began at
place_from_later : (file from place : ℕ) (files : List FileBytes) → place_from file from files ≡ Some place → from ≤ place
place_from_later file from place [] is = absurd (cc)
place_from_later file from place (given ∷ files) is = elim (bool_cases (given.file == file)) [
  | inl here ↦ let e : Some from ≡ Some place = rw here at is in let same : from ≡ place = cc in omega arith
  | inr other ↦ let e = place_from_later file (from + 1) place files (rw other at is) in omega (arith, e)
]

-- what stands at the place of a file, and what the files are once it is changed there
pub record StandsAt (file place : ℕ) (files : List FileBytes) : Type 0 where
  pub number : (d : FileBytes) → (get_or files place d).file ≡ file
  pub bytes : (d : FileBytes) → (get_or files place d).bytes.items ≡ bytes_in (held files) file
  pub put : (it : FileBytes) → it.file ≡ file → held (set files place it) ≡ put_in file it.bytes.items (held files)
  pub same : (it : FileBytes) → it.file ≡ file → it.bytes.items ≡ bytes_in (held files) file → held (set files place it) ≡ held files
  pub cut : (it : FileBytes) (len : ℕ) → it.file ≡ file → it.bytes.items ≡ take len (bytes_in (held files) file) → held (set files place it) ≡ cut_in file len (held files)

-- the walk finds it
pub stands_at : (file from place : ℕ) (files : List FileBytes) → place_from file from files ≡ Some (from + place) → StandsAt file place files
stands_at file from place [] is = absurd (cc)
stands_at file from zero (given ∷ files) is = elim (bool_cases (given.file == file)) [
  | inl here ↦ record {
    number = λ d. number_is given.file file here;
    bytes = λ d. rw here refl;
    put = λ it same. rw here (ap (λ (n : ℕ). (n, it.bytes.items) ∷ held files) same);
    same = λ it same bytes. ap (λ (n : ℕ). (n, it.bytes.items) ∷ held files) (same ∙ sym (number_is given.file file here)) ∙ ap (λ (l : List ℕ). (given.file, l) ∷ held files) (rw here at bytes);
    cut = λ it len same bytes. rw here (ap (λ (n : ℕ). (n, it.bytes.items) ∷ held files) same ∙ ap (λ (l : List ℕ). (file, l) ∷ held files) (rw here at bytes));
  }
  | inr other ↦ absurd (let late = place_from_later file (from + 1) (from + 0) files (rw other at is) in omega (arith, late))
]
stands_at file from (suc place) (given ∷ files) is = elim (bool_cases (given.file == file)) [
  | inl here ↦ absurd (let e : Some from ≡ Some (from + suc place) = rw here at is in let same : from ≡ from + suc place = cc in omega arith)
  | inr other ↦
      let next : place_from file (from + 1) files ≡ Some ((from + 1) + place) = rw other at is ∙ ap (λ (n : ℕ). Some n) (omega arith) in
      let rest = stands_at file (from + 1) place files next in
      record {
        number = rest.number;
        bytes = λ d. rest.bytes d ∙ rw other refl;
        put = λ it same. ap (λ (l : List (ℕ × List ℕ)). (given.file, given.bytes.items) ∷ l) (rest.put it same) ∙ rw other refl;
        same = λ it same bytes. ap (λ (l : List (ℕ × List ℕ)). (given.file, given.bytes.items) ∷ l) (rest.same it same (rw other at bytes));
        cut = λ it len same bytes. ap (λ (l : List (ℕ × List ℕ)). (given.file, given.bytes.items) ∷ l) (rest.cut it len same (rw other at bytes)) ∙ rw other refl;
      }
]

-- the walk finds nothing: the file goes to the end
pub put_none : (file from : ℕ) (bytes : List ℕ) (files : List FileBytes) → place_from file from files ≡ None → put_in file bytes (held files) ≡ held files ++ (file, bytes) ∷ []
put_none file from bytes [] none = refl
put_none file from bytes (given ∷ files) none = elim (bool_cases (given.file == file)) [
  | inl here ↦ absurd (let e : Some from ≡ None = rw here at none in cc)
  | inr other ↦ rw other (ap (λ (l : List (ℕ × List ℕ)). (given.file, given.bytes.items) ∷ l) (put_none file (from + 1) bytes files (rw other at none)))
]

-- and it has no bytes
pub bytes_none : (file from : ℕ) (files : List FileBytes) → place_from file from files ≡ None → bytes_in (held files) file ≡ []
bytes_none file from [] none = refl
bytes_none file from (given ∷ files) none = elim (bool_cases (given.file == file)) [
  | inl here ↦ absurd (let e : Some from ≡ None = rw here at none in cc)
  | inr other ↦ rw other (bytes_none file (from + 1) files (rw other at none))
]

-- a cut of it changes nothing
pub cut_none : (file from len : ℕ) (files : List FileBytes) → place_from file from files ≡ None → cut_in file len (held files) ≡ held files
cut_none file from len [] none = refl
cut_none file from len (given ∷ files) none = elim (bool_cases (given.file == file)) [
  | inl here ↦ absurd (let e : Some from ≡ None = rw here at none in cc)
  | inr other ↦ rw other (ap (λ (l : List (ℕ × List ℕ)). (given.file, given.bytes.items) ∷ l) (cut_none file (from + 1) len files (rw other at none)))
]

-- one file more at the end
pub held-push : (files : List FileBytes) (it : FileBytes) → held (files ++ it ∷ []) ≡ held files ++ (it.file, it.bytes.items) ∷ []
held-push [] it = refl
held-push (given ∷ files) it = ap (λ (l : List (ℕ × List ℕ)). (given.file, given.bytes.items) ∷ l) (held-push files it)

-- the place that the walk gave
pub found : (file place : ℕ) (walked files : List FileBytes) (result : Option ℕ) → result ≡ place_from file 0 walked → walked ≡ files → result ≡ Some place → StandsAt file place files
found file place walked files result is same some =
    stands_at file 0 place files (ap (λ (l : List FileBytes). place_from file 0 l) (sym same) ∙ sym is ∙ some ∙ ap (λ (n : ℕ). Some n) (omega arith))

-- no place
pub not_found : (file : ℕ) (walked files : List FileBytes) (result : Option ℕ) → result ≡ place_from file 0 walked → walked ≡ files → result ≡ None → place_from file 0 files ≡ None
not_found file walked files result is same none = ap (λ (l : List FileBytes). place_from file 0 l) (sym same) ∙ sym is ∙ none

module _ (file place : ℕ) (files : List FileBytes) (stands : StandsAt file place files) (it new : FileBytes) (is : it ≡ get_or files place it) where
  -- its number
  number_there : it.file ≡ file
  number_there = ap (λ (x : FileBytes). x.file) is ∙ stands.number it

  -- its bytes
  pub bytes_there : it.bytes.items ≡ bytes_in (held files) file
  bytes_there = ap (λ (x : FileBytes). x.bytes.items) is ∙ stands.bytes it

  -- it was written there
  pub put_there : (at : ℕ) (bytes : List ℕ) → new.file ≡ it.file → new.bytes.items ≡ written at bytes it.bytes.items
      → held (set files place new) ≡ put_in file (written at bytes (bytes_in (held files) file)) (held files)
  put_there at bytes same_number made = stands.put new (same_number ∙ number_there) ∙ ap (λ (l : List ℕ). put_in file l (held files)) (made ∙ ap (λ (l : List ℕ). written at bytes l) bytes_there)

  -- it is as it was
  pub same_there : new.file ≡ it.file → new.bytes.items ≡ it.bytes.items → held (set files place new) ≡ held files
  same_there same_number made = stands.same new (same_number ∙ number_there) (made ∙ bytes_there)

  -- it was cut there
  pub cut_there : (len : ℕ) → new.file ≡ it.file → new.bytes.items ≡ take len it.bytes.items → held (set files place new) ≡ cut_in file len (held files)
  cut_there len same_number made = stands.cut new len (same_number ∙ number_there) (made ∙ ap (λ (l : List ℕ). take len l) bytes_there)

-- a file that was not there goes to the end
pub put_new : (file at : ℕ) (bytes : List ℕ) (files new : List FileBytes) (it : FileBytes) → place_from file 0 files ≡ None → at ≤ length (bytes_in (held files) file)
    → it.file ≡ file → it.bytes.items ≡ bytes → new ≡ files ++ it ∷ [] → held new ≡ put_in file (written at bytes (bytes_in (held files) file)) (held files)
put_new file at bytes files new it none fits number is made =
    ap held made ∙ held-push files it ∙ ap (λ (n : ℕ). held files ++ (n, it.bytes.items) ∷ []) number ∙ ap (λ (l : List ℕ). held files ++ (file, l) ∷ []) (is ∙ sym whole)
    ∙ sym (put_none file 0 (written at bytes (bytes_in (held files) file)) files none)
  where
    empty : bytes_in (held files) file ≡ []
    empty = bytes_none file 0 files none

    at_start : at ≡ 0
    at_start = omega (arith, fits, ap length empty)

    nothing_before : at ≡ 0 → written at bytes [] ≡ bytes
    nothing_before zero_is = ap (λ (n : ℕ). take n [] ++ bytes ++ drop (n + length bytes) []) zero_is ∙ ap (λ (l : List ℕ). bytes ++ l) (drop_all (0 + length bytes) [] (omega arith)) ∙ append-nil bytes

    whole : written at bytes (bytes_in (held files) file) ≡ bytes
    whole = ap (λ (l : List ℕ). written at bytes l) empty ∙ nothing_before at_start
