-- An engine that is the same, but for how its reading is told, has the same recoverable images.
use Rattle.std.proofs.Common.{◌≡◌, ◌⊎◌, inl, inr, ⊎_elim, ℕ, suc, List, [], ◌∷◌, map, subst}
use Rattle.disk_model.specs.File.{File}
use Rattle.disk_model.specs.Disk.{Disk, now}
use Rattle.row_format.specs.declared.change.Transaction.{Transaction}
use Rattle.log_tables.specs.declared.gist.Gist.{Gist}
use Rattle.engine_api.specs.States.{Kind}
use Rattle.engine_api.specs.Reads.{Reading, SameReading, AreFaithful, AreAtStart}
use Rattle.recovery_rules.specs.Recovery.{ShelfEngine, IsRecoverable, IsRecovered}
use Rattle.volume_rules.specs.Readers.{Reader, with_gists}
use Rattle.volume_rules.specs.Images.{AreImages, StandFor, IsRecoverableTo, IsRecoveredTo, EachImage, EachRecoverable, EachRecovered, AreAllAtStart, IsRecoverableVolume}

-- the one engine, as it is read
abbrev pub read_by : Kind → Reading → List Reader
read_by kind reading = (record { kind = kind; reading = reading }) ∷ []

-- the other way round
pub same_back : (old new : Reading) → SameReading old new → SameReading new old
same_back old new same = record { faithful = same.faithful_back; faithful_back = same.faithful; stands = same.stands_back; stands_back = same.stands }

faithful_same : (old new : Reading) (place : ℕ) (files : List File) (images : List (List ℕ)) → SameReading old new → AreFaithful new place files images → AreFaithful old place files images
faithful_same old new place [] [] same are = tt
faithful_same old new place [] (image ∷ images) same are = are
faithful_same old new place (file ∷ files) [] same are = are
faithful_same old new place (file ∷ files) (image ∷ images) same are = (same.faithful place file image are.0, faithful_same old new (suc place) files images same are.1)

images_same : (kind : Kind) (old new : Reading) (files : ℕ → File) (images : List (List (List ℕ))) → SameReading old new → AreImages (read_by kind new) files images → AreImages (read_by kind old) files images
images_same kind old new files [] same are = are
images_same kind old new files (one ∷ []) same are = (faithful_same old new 0 (map files kind.files) one same are.0, tt)
images_same kind old new files (one ∷ two ∷ images) same are = absurd are.1

stand_same : (kind : Kind) (old new : Reading) (images : List (List (List ℕ))) (gists : List Gist) → SameReading old new → StandFor (read_by kind old) images gists → StandFor (read_by kind new) images gists
stand_same kind old new [] gists same stand = absurd stand
stand_same kind old new (one ∷ images) [] same stand = absurd stand
stand_same kind old new (one ∷ []) (gist ∷ []) same stand = (same.stands_back one gist stand.0, tt)
stand_same kind old new (one ∷ []) (gist ∷ more ∷ gists) same stand = absurd stand.1
stand_same kind old new (one ∷ two ∷ images) (gist ∷ gists) same stand = absurd stand.1

with_same : (kind : Kind) (old new : Reading) (gists : List Gist) (P : List _ → Type 0) → P (with_gists (read_by kind old) gists) → P (with_gists (read_by kind new) gists)
with_same kind old new [] P p = p
with_same kind old new (gist ∷ gists) P p = p

recoverable_to_same : (shelf : List ShelfEngine) (kind : Kind) (old new : Reading) (log : List Transaction) (image : List ℕ) (images : List (List (List ℕ))) → SameReading old new
    → IsRecoverableTo shelf (read_by kind old) log image images → IsRecoverableTo shelf (read_by kind new) log image images
recoverable_to_same shelf kind old new log image images same is = record {
  logged = is.logged;
  gists = is.gists;
  stand = stand_same kind old new images is.gists same is.stand;
  recoverable = with_same kind old new is.gists (IsRecoverable shelf log) is.recoverable;
}

-- each recoverable image
pub recoverable_same : (shelf : List ShelfEngine) (kind : Kind) (old new : Reading) (files : ℕ → File) → SameReading old new
    → EachRecoverable shelf (read_by kind old) files → EachRecoverable shelf (read_by kind new) files
recoverable_same shelf kind old new files same each image images within faithful are =
    let is = each image images within faithful (images_same kind old new files images same are) in
    (is.0, recoverable_to_same shelf kind old new is.0 image images same is.1)

-- each recovered image
pub recovered_same : (shelf : List ShelfEngine) (kind : Kind) (old new : Reading) (log : List Transaction) (files : ℕ → File) → SameReading old new
    → EachRecovered shelf (read_by kind old) log files → EachRecovered shelf (read_by kind new) log files
recovered_same shelf kind old new log files same each image images within faithful are =
    let is = each image images within faithful (images_same kind old new files images same are) in
    record {
      logged = is.logged;
      gists = is.gists;
      stand = stand_same kind old new images is.gists same is.stand;
      recovered = with_same kind old new is.gists (IsRecovered shelf log) is.recovered;
    }

at_start_same : (old new : Reading) (place : ℕ) (files : List File) (images : List (List ℕ)) → SameReading old new → AreAtStart new place files images → AreAtStart old place files images
at_start_same old new place [] [] same are = tt
at_start_same old new place [] (image ∷ images) same are = are
at_start_same old new place (file ∷ files) [] same are = are
at_start_same old new place (file ∷ files) (image ∷ images) same are =
    (⊎_elim (λ whole. inl whole) (λ faithful. inr (same.faithful place file image faithful)) are.0, at_start_same old new (suc place) files images same are.1)

all_at_start_same : (kind : Kind) (old new : Reading) (files : ℕ → File) (images : List (List (List ℕ))) → SameReading old new → AreAllAtStart (read_by kind new) files images → AreAllAtStart (read_by kind old) files images
all_at_start_same kind old new files [] same are = are
all_at_start_same kind old new files (one ∷ []) same are = (at_start_same old new 0 (map files kind.files) one same are.0, tt)
all_at_start_same kind old new files (one ∷ two ∷ images) same are = absurd are.1

-- a volume that can be recovered
pub volume_same : (shelf : List ShelfEngine) (kind : Kind) (old new : Reading) (disk : Disk) → SameReading old new
    → IsRecoverableVolume shelf (read_by kind old) disk → IsRecoverableVolume shelf (read_by kind new) disk
volume_same shelf kind old new disk same each image images at_start are =
    let is = each image images at_start (all_at_start_same kind old new (now disk) images same are) in
    (is.0, recoverable_to_same shelf kind old new is.0 image images same is.1)
