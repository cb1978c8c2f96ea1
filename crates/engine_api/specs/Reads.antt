-- What an engine's files stand for, now and in a crash image. (This project.)
use Rattle.std.specs.Prelude.{◌≡◌, ◌⊎◌, ℕ, suc, List, [], ◌∷◌, map, Contains}
use Rattle.disk_model.specs.File.{File}
use Rattle.disk_model.specs.Disk.{Disk, now}
use Rattle.log_tables.specs.declared.gist.Gist.{Gist}

-- how the bytes of an engine's files are read: which images are faithful, of the file at each place, and which gist the files stand for
pub record Reading : Type 1 where
  pub faithful : ℕ → File → List ℕ → Type 0
  pub stands : List (List ℕ) → Gist → Type 0

-- two readings are one
pub record SameReading (old new : Reading) : Type 0 where
  pub faithful : (place : ℕ) (file : File) (image : List ℕ) → new.faithful place file image → old.faithful place file image
  pub faithful_back : (place : ℕ) (file : File) (image : List ℕ) → old.faithful place file image → new.faithful place file image
  pub stands : (images : List (List ℕ)) (gist : Gist) → new.stands images gist → old.stands images gist
  pub stands_back : (images : List (List ℕ)) (gist : Gist) → old.stands images gist → new.stands images gist

-- these are faithful crash images of these files, the first of which stands at this place
abbrev pub AreFaithful : Reading → ℕ → List File → List (List ℕ) → Type 0
AreFaithful reading place [] [] = Unit {0}
AreFaithful reading place [] (image ∷ images) = ⊥
AreFaithful reading place (file ∷ files) [] = ⊥
AreFaithful reading place (file ∷ files) (image ∷ images) = reading.faithful place file image × AreFaithful reading (suc place) files images

-- of each file the contents, or a faithful crash image
abbrev pub AreAtStart : Reading → ℕ → List File → List (List ℕ) → Type 0
AreAtStart reading place [] [] = Unit {0}
AreAtStart reading place [] (image ∷ images) = ⊥
AreAtStart reading place (file ∷ files) [] = ⊥
AreAtStart reading place (file ∷ files) (image ∷ images) = ((image ≡ file.bytes) ⊎ reading.faithful place file image) × AreAtStart reading (suc place) files images

-- each faithful crash image of these files reads as one of these gists
abbrev pub EachReads : Reading → List Gist → List File → Type 0
EachReads reading gists files = (images : List (List ℕ)) → AreFaithful reading 0 files images → (gist : Gist) × Contains gists gist × reading.stands images gist

-- each faithful crash image of these files reads as the contents at the start do, or as some faithful image of them then does
abbrev pub EachReadsAs : Reading → List File → List File → Type 0
EachReadsAs reading was files = (images : List (List ℕ)) → AreFaithful reading 0 files images
    → (before : List (List ℕ)) × AreAtStart reading 0 was before × ((gist : Gist) → reading.stands before gist → reading.stands images gist)

-- the files with these numbers, as they are now
abbrev pub files_in : List ℕ → Disk → List File
files_in numbers disk = map (now disk) numbers

-- what a read of them gives
abbrev pub bytes_in : List ℕ → Disk → List (List ℕ)
bytes_in numbers disk = map (λ f. (now disk f).bytes) numbers

-- the files with these numbers have P, and all others are as they were
abbrev pub OnlyIn : List ℕ → (ℕ → File) → (List File → Type 0) → (ℕ → File) → Type 0
OnlyIn numbers was P files = ((f : ℕ) → (Contains numbers f → ⊥) → files f ≡ was f) × P (map files numbers)
