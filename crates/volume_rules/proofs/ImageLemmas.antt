-- A volume at which a transaction is on its way is recoverable; one at which none is, is recovered.
use Rattle.std.proofs.Common.{◌≡◌, ℕ, List, [], ◌∷◌, map, refl, sym, ap, subst}
use Rattle.disk_model.specs.File.{File, IsImage}
use Rattle.framed_file.specs.Framed.{IsFaithful, IsPrefix}
use Rattle.row_format.specs.declared.change.Transaction.{Transaction}
use Rattle.binlog_file.specs.Logged.{IsLogHeader, IsLogged, IsBetween, Holds}
use Rattle.log_tables.specs.declared.gist.Gist.{Gist}
use Rattle.engine_api.specs.Reads.{AreFaithful, EachReads}
use Rattle.recovery_rules.specs.Recovery.{ShelfEngine, IsRecoverable, IsRecovered}
use Rattle.volume_rules.specs.Readers.{Reader, with_gists}
use Rattle.volume_rules.specs.Images.{AreImages, StandFor, IsRecoverableTo, IsRecoveredTo, EachRecoverable, EachRecovered}
use Rattle.volume_rules.specs.Steps.{AllKeep, AreChosen, EachSuits, Stands, Rests}
use Rattle.volume_rules.proofs.ListLemmas.{only_one, same_both}

-- the images read as gists that are kept
chosen : (readers : List Reader) (kept : List (List Gist)) (files : ℕ → File) (images : List (List (List ℕ))) → AllKeep readers kept files → AreImages readers files images
    → (gists : List Gist) × AreChosen kept gists × StandFor readers images gists
chosen [] [] files [] keep are = ([], tt, tt)
chosen (it ∷ rest) (kept ∷ more) files (images ∷ others) keep are =
    let one = keep.0 images are.0 in
    let all = chosen rest more files others keep.1 are.1 in
    (one.0 ∷ all.0, (one.1, all.1), (one.2, all.2))
chosen [] (kept ∷ more) files images keep are = absurd keep
chosen (it ∷ rest) [] files images keep are = absurd keep
chosen [] [] files (images ∷ others) keep are = absurd are
chosen (it ∷ rest) (kept ∷ more) files [] keep are = absurd are

-- each image of a volume at which a transaction is on its way is recoverable
pub stands_recoverable : (shelf : List ShelfEngine) (readers : List Reader) (low high : List Transaction) (kept : List (List Gist)) (files : ℕ → File)
    → Stands shelf readers low high kept files → EachRecoverable shelf readers files
stands_recoverable shelf readers low high kept files is image images within faithful are =
    let between = is.log image within faithful in
    let all = chosen readers kept files images is.engines are in (
      between.list,
      record {
        logged = between.logged;
        gists = all.0;
        stand = all.2;
        recoverable = is.suits between.list all.0 between.at_least between.at_most all.1;
      },
    )

-- of one of each there is one choice
one_choice : (gists chosen : List Gist) → AreChosen (map (λ gist. gist ∷ []) gists) chosen → chosen ≡ gists
one_choice [] [] are = refl
one_choice [] (c ∷ chosen) are = absurd are
one_choice (g ∷ gists) [] are = absurd are
one_choice (g ∷ gists) (c ∷ chosen) are = let first = only_one g c are.0 in let rest = one_choice gists chosen are.1 in cc

-- each image of a volume at which none is, is recovered
pub rests_recovered : (shelf : List ShelfEngine) (readers : List Reader) (log : List Transaction) (gists : List Gist) (files : ℕ → File)
    → Rests shelf readers log gists files → EachRecovered shelf readers log files
rests_recovered shelf readers log gists files is image images within faithful are =
    let between = is.holds image within faithful in
    let all = chosen readers (map (λ gist. gist ∷ []) gists) files images is.engines are in
    record {
      logged = subst (IsLogged image) (same_both log between.list between.at_least between.at_most) between.logged;
      gists = gists;
      stand = subst (StandFor readers images) (one_choice gists all.0 all.1) all.2;
      recovered = is.recovered;
    }

-- where none is, none is on its way
pub rests_stands : (shelf : List ShelfEngine) (readers : List Reader) (log : List Transaction) (gists : List Gist) (files : ℕ → File)
    → Rests shelf readers log gists files → Stands shelf readers log log (map (λ gist. gist ∷ []) gists) files
rests_stands shelf readers log gists files is = record {
  log = is.holds;
  engines = is.engines;
  suits = λ list all low high are.
      subst (λ (l : List Transaction). IsRecoverable shelf l (with_gists readers all)) (sym (same_both log list low high))
      (subst (λ (g : List Gist). IsRecoverable shelf log (with_gists readers g)) (sym (one_choice gists all are)) is.recovered.recoverable);
}
