-- A volume that could be recovered is recoverable at each moment of an opening: while the log is opened, and while an engine is brought
-- to it.
use Rattle.std.proofs.Common.{◌≡◌, ◌≢◌, ◌⊎◌, inl, inr, ⊎_elim, ℕ, suc, List, [], ◌∷◌, map, refl, sym, ap, subst}
use Rattle.std.specs.Prelude.{Contains, All}
use Rattle.disk_model.specs.File.{File, IsImage}
use Rattle.disk_model.specs.Disk.{Disk, now, contents, Keeps, Only}
use Rattle.disk_model.proofs.Moments.{weaker}
use Rattle.framed_file.specs.Framed.{IsFaithful}
use Rattle.row_format.specs.declared.change.Transaction.{Transaction}
use Rattle.binlog_file.specs.Logged.{IsLogHeader, IsLogged, IsBetween, Holds}
use Rattle.binlog_file.specs.Opening.{IsSafe}
use Rattle.binlog_file.proofs.UniqueLemmas.{one_logged}
use Rattle.log_tables.specs.declared.gist.Gist.{Gist}
use Rattle.engine_api.specs.Live.{allows}
use Rattle.engine_api.specs.Reads.{Reading, AreFaithful, AreAtStart, OnlyIn}
use Rattle.recovery_rules.specs.Places.{IsDistinct}
use Rattle.recovery_rules.specs.Trails.{Trails}
use Rattle.recovery_rules.specs.Recovery.{ShelfEngine, SafeEngine, Suits, IsRecoverable}
use Rattle.volume_rules.specs.Readers.{Reader, with_gists}
use Rattle.volume_rules.specs.Images.{AreImages, StandFor, IsRecoverableTo, EachRecoverable, AreAllAtStart, IsRecoverableVolume}
use Rattle.volume_rules.proofs.ListLemmas.{of_one, same_both}
use Rattle.volume_rules.proofs.StepLemmas.{alone}
use Rattle.volume_rules.proofs.MomentLemmas.{same_files}

-- no engine has the log's file
abbrev pub AllApart : List Reader → Type 0
AllApart [] = Unit {0}
AllApart (it ∷ rest) = (Contains it.kind.files 0 → ⊥) × AllApart rest

-- faithful crash images are of those that a start may have
may_start : (reading : Reading) (place : ℕ) (files : List File) (images : List (List ℕ)) → AreFaithful reading place files images → AreAtStart reading place files images
may_start reading place [] [] are = tt
may_start reading place [] (image ∷ images) are = absurd are
may_start reading place (file ∷ files) [] are = absurd are
may_start reading place (file ∷ files) (image ∷ images) are = (inr are.0, may_start reading (suc place) files images are.1)

-- so are those of all engines, whose files stay while the log is opened
all_may_start : (readers : List Reader) (files was : ℕ → File) (images : List (List (List ℕ))) → AllApart readers → ((f : ℕ) → f ≢ 0 → files f ≡ was f) → AreImages readers files images → AreAllAtStart readers was images
all_may_start [] files was [] apart stay are = tt
all_may_start [] files was (one ∷ images) apart stay are = absurd are
all_may_start (it ∷ rest) files was [] apart stay are = absurd are
all_may_start (it ∷ rest) files was (one ∷ images) apart stay are = (
  may_start it.reading 0 (map was it.kind.files) one
      (subst (λ (l : List File). AreFaithful it.reading 0 l one) (same_files it.kind.files files was (λ f on. stay f (λ zero. apart.0 (subst (Contains it.kind.files) zero on)))) are.0),
  all_may_start rest files was images apart.1 stay are.1,
)

-- at a moment of the log's opening
open_moment : (shelf : List ShelfEngine) (readers : List Reader) (start : Disk) (files : ℕ → File) → AllApart readers → IsRecoverableVolume shelf readers start
    → Only 0 (now start) (IsSafe (now start 0)) files → EachRecoverable shelf readers files
open_moment shelf readers start files apart could only image images within faithful are =
    ⊎_elim
    (λ same. could image images (inr (subst (λ (file : File). IsImage file image) same within, subst (λ (file : File). IsFaithful IsLogHeader file image) same faithful)) at)
    (λ some.
    let between = some.2 image within faithful in
    let whole = could (now start 0).bytes images (inl refl) at in
    let one = one_logged (now start 0).bytes whole.0 some.0 whole.1.logged some.1 in (
      some.0,
      record {
        logged = subst (IsLogged image) (same_both some.0 between.list between.at_least between.at_most) between.logged;
        gists = whole.1.gists;
        stand = whole.1.stand;
        recoverable = subst (λ (l : List Transaction). IsRecoverable shelf l (with_gists readers whole.1.gists)) one whole.1.recoverable;
      },
    ))
    only.1
  where
    at : AreAllAtStart readers (now start) images
    at = all_may_start readers files (now start) images apart only.0 are

-- At each moment of the log's opening.
pub open_moments : (shelf : List ShelfEngine) (readers : List Reader) (start end : Disk) → AllApart readers → IsRecoverableVolume shelf readers start
    → Keeps start end (Only 0 (now start) (IsSafe (now start 0))) → Keeps start end (EachRecoverable shelf readers)
open_moments shelf readers start end apart could run =
    weaker start end (Only 0 (now start) (IsSafe (now start 0))) (EachRecoverable shelf readers) (λ files only. open_moment shelf readers start files apart could only) run

-- images of one engine's files that stand for a gist which goes with the log
pub record Goes (shelf : List ShelfEngine) (it : Reader) (log : List Transaction) (images : List (List ℕ)) : Type 0 where
  pub gist : Gist
  pub stand : it.reading.stands images gist
  pub recoverable : IsRecoverable shelf log (alone it gist)

goes_of : (shelf : List ShelfEngine) (it : Reader) (log : List Transaction) (images : List (List ℕ)) (gists : List Gist) → StandFor (it ∷ []) (images ∷ []) gists → IsRecoverable shelf log (with_gists (it ∷ []) gists) → Goes shelf it log images
goes_of shelf it log images [] stand is = absurd stand
goes_of shelf it log images (g ∷ []) stand is = record { gist = g; stand = stand.0; recoverable = is }
goes_of shelf it log images (g ∷ h ∷ gists) stand is = absurd stand.1

-- What an engine's files stand for at the start, each with its contents or an image, goes with the log that is found.
pub start_goes : (shelf : List ShelfEngine) (it : Reader) (start : Disk) (log : List Transaction) (images : List (List ℕ)) → IsRecoverableVolume shelf (it ∷ []) start → IsLogged (contents start 0) log
    → AreAtStart it.reading 0 (map (now start) it.kind.files) images → Goes shelf it log images
start_goes shelf it start log images could logged at =
    let whole = could (now start 0).bytes (images ∷ []) (inl refl) (at, tt) in
    let one = one_logged (now start 0).bytes whole.0 log whole.1.logged logged in
    goes_of shelf it log images whole.1.gists whole.1.stand (subst (λ (l : List Transaction). IsRecoverable shelf l (with_gists (it ∷ []) whole.1.gists)) one whole.1.recoverable)

-- each faithful crash image of the engine's files reads as a gist that trails the log, and of which the flags allow what is prepared
abbrev pub EachTrails : Reader → List Transaction → List File → Type 0
EachTrails it log files = (images : List (List ℕ)) → AreFaithful it.reading 0 files images
    → (gist : Gist) × Trails it.kind.name log gist × All (λ p. Suits it.kind.name (allows it.kind.flags) p.changes) gist.prepared × it.reading.stands images gist

-- At each moment at which the engine is brought to the log.
pub bring_moments : (shelf : List ShelfEngine) (it : Reader) (log : List Transaction) (start end : Disk) → (Contains it.kind.files 0 → ⊥) → Holds log log (now start 0) → IsDistinct log
    → All (λ (x : ShelfEngine). All (λ t. Suits x.engine x.allows t.changes) log) shelf
    → Keeps start end (OnlyIn it.kind.files (now start) (EachTrails it log)) → Keeps start end (EachRecoverable shelf (it ∷ []))
bring_moments shelf it log start end apart holds distinct suits run =
    weaker start end (OnlyIn it.kind.files (now start) (EachTrails it log)) (EachRecoverable shelf (it ∷ [])) each run
  where
    each : (files : ℕ → File) → OnlyIn it.kind.files (now start) (EachTrails it log) files → EachRecoverable shelf (it ∷ []) files
    each files p image [] within faithful are = absurd are
    each files p image (one ∷ two ∷ images) within faithful are = absurd are.1
    each files p image (one ∷ []) within faithful are =
        let between = subst (λ (file : File). Holds log log file) (sym (p.0 0 apart)) holds image within faithful in
        let g = p.1 one are.0 in (
          log,
          record {
            logged = subst (IsLogged image) (same_both log between.list between.at_least between.at_most) between.logged;
            gists = g.0 ∷ [];
            stand = (g.3, tt);
            recoverable = record {
              distinct = distinct;
              trails = of_one (λ (x : SafeEngine). Trails x.engine log x.gist) (record { engine = it.kind.name; allows = allows it.kind.flags; gist = g.0 }) g.1;
              log_suits = suits;
              prepared_suits = of_one (λ (x : SafeEngine). All (λ p. Suits x.engine x.allows p.changes) x.gist.prepared) (record { engine = it.kind.name; allows = allows it.kind.flags; gist = g.0 }) g.2;
            };
          },
        )
