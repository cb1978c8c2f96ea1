-- Which crash images of a volume are recoverable, and which are recovered: those of the log's file and of the files of engines. (This
-- project.)
use Rattle.std.specs.Prelude.{◌≡◌, ◌⊎◌, ℕ, List, [], ◌∷◌, map}
use Rattle.disk_model.specs.File.{File, IsImage}
use Rattle.disk_model.specs.Disk.{Disk, now}
use Rattle.framed_file.specs.Framed.{IsFaithful}
use Rattle.row_format.specs.declared.change.Transaction.{Transaction}
use Rattle.binlog_file.specs.Logged.{IsLogHeader, IsLogged}
use Rattle.log_tables.specs.declared.gist.Gist.{Gist}
use Rattle.engine_api.specs.Reads.{AreFaithful, AreAtStart}
use Rattle.recovery_rules.specs.Recovery.{ShelfEngine, IsRecoverable, IsRecovered}
use Rattle.volume_rules.specs.Readers.{Reader, with_gists}

-- faithful crash images of the files of each engine
abbrev pub AreImages : List Reader → (ℕ → File) → List (List (List ℕ)) → Type 0
AreImages [] files [] = Unit {0}
AreImages [] files (images ∷ more) = ⊥
AreImages (it ∷ rest) files [] = ⊥
AreImages (it ∷ rest) files (images ∷ more) = AreFaithful it.reading 0 (map files it.kind.files) images × AreImages rest files more

-- these images stand for these gists
abbrev pub StandFor : List Reader → List (List (List ℕ)) → List Gist → Type 0
StandFor [] [] [] = Unit {0}
StandFor (it ∷ rest) (images ∷ more) (gist ∷ gists) = it.reading.stands images gist × StandFor rest more gists
StandFor _ _ _ = ⊥

-- an image of the log's file, and images of the engines' files, are recoverable to this log
pub record IsRecoverableTo (shelf : List ShelfEngine) (readers : List Reader) (log : List Transaction) (image : List ℕ) (images : List (List (List ℕ))) : Type 0 where
  pub logged : IsLogged image log
  pub gists : List Gist
  pub stand : StandFor readers images gists
  pub recoverable : IsRecoverable shelf log (with_gists readers gists)

-- they are recovered to it: all engines have the tables of this log, and nothing is prepared
pub record IsRecoveredTo (shelf : List ShelfEngine) (readers : List Reader) (log : List Transaction) (image : List ℕ) (images : List (List (List ℕ))) : Type 0 where
  pub logged : IsLogged image log
  pub gists : List Gist
  pub stand : StandFor readers images gists
  pub recovered : IsRecovered shelf log (with_gists readers gists)

-- P of the faithful crash images of the log's file and of the engines' files, all of one moment
abbrev pub EachImage : List Reader → (ℕ → File) → (List ℕ → List (List (List ℕ)) → Type 0) → Type 0
EachImage readers files P = (image : List ℕ) (images : List (List (List ℕ))) → IsImage (files 0) image → IsFaithful IsLogHeader (files 0) image → AreImages readers files images → P image images

-- a recoverable image: each faithful crash image of the files is recoverable to the log that it has
abbrev pub EachRecoverable : List ShelfEngine → List Reader → (ℕ → File) → Type 0
EachRecoverable shelf readers files = EachImage readers files (λ image images. (log : List Transaction) × IsRecoverableTo shelf readers log image images)

-- a recovered image: each is recovered to this log
abbrev pub EachRecovered : List ShelfEngine → List Reader → List Transaction → (ℕ → File) → Type 0
EachRecovered shelf readers log files = EachImage readers files (IsRecoveredTo shelf readers log)

-- of a log file the contents, or a faithful crash image
abbrev pub IsAtStart : File → List ℕ → Type 0
IsAtStart file image = (image ≡ file.bytes) ⊎ (IsImage file image × IsFaithful IsLogHeader file image)

-- of each file of the engines the contents, or a faithful crash image
abbrev pub AreAllAtStart : List Reader → (ℕ → File) → List (List (List ℕ)) → Type 0
AreAllAtStart [] files [] = Unit {0}
AreAllAtStart [] files (images ∷ more) = ⊥
AreAllAtStart (it ∷ rest) files [] = ⊥
AreAllAtStart (it ∷ rest) files (images ∷ more) = AreAtStart it.reading 0 (map files it.kind.files) images × AreAllAtStart rest files more

-- A volume that can be recovered: whichever files have their contents, and which a faithful crash image, together they are recoverable.
abbrev pub IsRecoverableVolume : List ShelfEngine → List Reader → Disk → Type 0
IsRecoverableVolume shelf readers disk = (image : List ℕ) (images : List (List (List ℕ))) → IsAtStart (now disk 0) image → AreAllAtStart readers (now disk) images
    → (log : List Transaction) × IsRecoverableTo shelf readers log image images
