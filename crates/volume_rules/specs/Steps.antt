-- Where a volume stands while a transaction is on its way, and while none is. (This project.)
use Rattle.std.specs.Prelude.{ℕ, List, [], ◌∷◌, map, Contains}
use Rattle.disk_model.specs.File.{File}
use Rattle.framed_file.specs.Framed.{IsPrefix}
use Rattle.row_format.specs.declared.change.Transaction.{Transaction}
use Rattle.binlog_file.specs.Logged.{Holds}
use Rattle.log_tables.specs.declared.gist.Gist.{Gist}
use Rattle.engine_api.specs.Reads.{EachReads}
use Rattle.recovery_rules.specs.Recovery.{ShelfEngine, IsRecoverable, IsRecovered}
use Rattle.volume_rules.specs.Readers.{Reader, with_gists}

-- each faithful crash image of each engine's files reads as one of the gists that are kept for it
abbrev pub AllKeep : List Reader → List (List Gist) → (ℕ → File) → Type 0
AllKeep [] [] files = Unit {0}
AllKeep [] (kept ∷ more) files = ⊥
AllKeep (it ∷ rest) [] files = ⊥
AllKeep (it ∷ rest) (kept ∷ more) files = EachReads it.reading kept (map files it.kind.files) × AllKeep rest more files

-- one of each
abbrev pub AreChosen : List (List Gist) → List Gist → Type 0
AreChosen [] [] = Unit {0}
AreChosen [] (gist ∷ gists) = ⊥
AreChosen (kept ∷ more) [] = ⊥
AreChosen (kept ∷ more) (gist ∷ gists) = Contains kept gist × AreChosen more gists

-- each log between these two, with any gists that are kept, is recoverable
abbrev pub EachSuits : List ShelfEngine → List Reader → List Transaction → List Transaction → List (List Gist) → Type 0
EachSuits shelf readers low high kept = (log : List Transaction) (gists : List Gist) → IsPrefix low log → IsPrefix log high → AreChosen kept gists → IsRecoverable shelf log (with_gists readers gists)

-- a transaction is on its way: the log's images lie between two logs, the engines' read as gists that are kept, and any of them go together
pub record Stands (shelf : List ShelfEngine) (readers : List Reader) (low high : List Transaction) (kept : List (List Gist)) (files : ℕ → File) : Type 0 where
  pub log : Holds low high (files 0)
  pub engines : AllKeep readers kept files
  pub suits : EachSuits shelf readers low high kept

-- none is: the images have this log and these gists, and all engines are recovered to it
pub record Rests (shelf : List ShelfEngine) (readers : List Reader) (log : List Transaction) (gists : List Gist) (files : ℕ → File) : Type 0 where
  pub holds : Holds log log (files 0)
  pub engines : AllKeep readers (map (λ gist. gist ∷ []) gists) files
  pub recovered : IsRecovered shelf log (with_gists readers gists)
