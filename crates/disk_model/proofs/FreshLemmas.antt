-- A storage in memory as it begins: each given file is found by its number.
use Rattle.std.proofs.Common.{◌≡◌, inl, inr, ℕ, zero, suc, ◌+◌, ◌<◌, Bool, true, false, not, ◌==◌, ◌&&◌, List, [], ◌∷◌, ◌++◌, take, length, get_or, refl, sym, ◌∙◌, ap, arith}
use Rattle.std.proofs.lemmas.List.{take_more}
use Rattle.disk_model.specs.declared.past.FileBytes.{FileBytes}
use Rattle.disk_model.specs.declared.past.Call.{Call}
use Rattle.disk_model.specs.Past.{until, replayed}
use Rattle.disk_model.specs.Start.{settled, first_file}
use Rattle.disk_model.specs.Held.{held, bytes_in}
use Rattle.disk_model.specs.Fresh.{has_file, numbers_differ, Holding, HasFiles}
use Rattle.disk_model.specs.declared.memory.MemoryStorage.{MemoryStorage}
use Rattle.disk_model.proofs.HeldLemmas.{held-push, bool_cases, same_number, number_is}

-- a number that is not there has no bytes
pub none_there : (file : ℕ) (files : List FileBytes) → has_file file files ≡ false → bytes_in (held files) file ≡ []
none_there file [] not_there = refl
none_there file (given ∷ files) not_there = elim (bool_cases (given.file == file)) [
  | inl here ↦ absurd (let e : true ≡ false = rw here at not_there in cc)
  | inr other ↦ rw other (none_there file files (rw other at not_there))
]

-- a file at a place among them is there
there : (place : ℕ) (d : FileBytes) (files : List FileBytes) → place < length files → has_file (get_or files place d).file files ≡ true
there place d [] lt = absurd (omega arith)
there zero d (given ∷ files) lt = rw (same_number given.file) refl
there (suc place) d (given ∷ files) lt = elim (bool_cases (given.file == (get_or files place d).file)) [
  | inl here ↦ rw here refl
  | inr other ↦ rw other (there place d files (omega arith))
]

left_true : (a b : Bool) → (not a && b) ≡ true → a ≡ false
left_true true b p = absurd (cc)
left_true false b p = refl

right_true : (a b : Bool) → (a && b) ≡ true → b ≡ true
right_true true b p = p
right_true false b p = absurd (cc)

-- where the numbers differ, its number gives its bytes
pub bytes_at : (place : ℕ) (d : FileBytes) (files : List FileBytes) → numbers_differ files ≡ true → place < length files → bytes_in (held files) (get_or files place d).file ≡ (get_or files place d).bytes.items
bytes_at place d [] differ lt = absurd (omega arith)
bytes_at zero d (given ∷ files) differ lt = rw (same_number given.file) refl
bytes_at (suc place) d (given ∷ files) differ lt = elim (bool_cases (given.file == (get_or files place d).file)) [
  | inl here ↦ absurd (
      let at_end = there place d files (omega arith) in
      let same = number_is given.file (get_or files place d).file here in
      let away = left_true (has_file given.file files) _ differ in
      let both : has_file given.file files ≡ true = ap (λ (n : ℕ). has_file n files) same ∙ at_end in
      cc)
  | inr other ↦ rw other (bytes_at place d files (right_true (not (has_file given.file files)) _ differ) (omega arith))
]

-- one file more was copied
pub copied_more : (copy more files : List FileBytes) (i : ℕ) (it x : FileBytes) → more ≡ copy ++ it ∷ [] → held copy ≡ held (take i files) → i < length files → x ≡ get_or files i x
    → it.file ≡ x.file → it.bytes.items ≡ x.bytes.items → held more ≡ held (take (i + 1) files)
copied_more copy more files i it x is so_far lt item number bytes =
    ap held is ∙ held-push copy it ∙ ap (λ (n : ℕ). held copy ++ (n, it.bytes.items) ∷ []) number ∙ ap (λ (l : List ℕ). held copy ++ (x.file, l) ∷ []) bytes
    ∙ ap (λ (l : List (ℕ × List ℕ)). l ++ (x.file, x.bytes.items) ∷ []) so_far ∙ sym (held-push (take i files) x) ∙ ap (λ (g : FileBytes). held (take i files ++ g ∷ [])) item ∙ ap held (sym (take_more files i x lt))

-- each file as it is at first
pub at_first : (start files : List FileBytes) (past : List Call) → held start ≡ held files → past ≡ [] → (file : ℕ) → replayed file (first_file (held start) file) (until 0 past) ≡ settled (bytes_in (held files) file)
at_first start files past same none file = ap (λ (l : List Call). replayed file (first_file (held start) file) (until 0 l)) none ∙ ap (λ (l : List (ℕ × List ℕ)). first_file l file) same

-- what is held, where the numbers differ
pub has_files : (files : List FileBytes) (made : MemoryStorage) → numbers_differ files ≡ true → Holding (held files) made → HasFiles files made
has_files files made differ holding = record {
  given = λ place d lt. holding.each (get_or files place d).file ∙ ap settled (bytes_at place d files differ lt);
  others = λ file not_there. holding.each file ∙ ap settled (none_there file files not_there);
}
