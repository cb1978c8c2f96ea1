-- What the engine's files hold, and as what a crash image of them reads.
use Rattle.std.proofs.Common.{◌≡◌, ⊎_elim, ℕ, ◌+◌, Option, Some, None, List, [], ◌∷◌, map, refl, sym, ap, subst, ◌∙◌, arith}
use Rattle.std.specs.Prelude.{Contains}
use Rattle.disk_model.specs.File.{File, IsSettled}
use Rattle.disk_model.specs.Disk.{Disk, now, Keeps}
use Rattle.disk_model.proofs.Moments.{weaker}
use Rattle.log_tables.specs.declared.gist.Gist.{Gist}
use Rattle.redo_journal.specs.declared.record.Record.{Record}
use Rattle.redo_journal.specs.declared.journal.Area.{Area}
use Rattle.redo_journal.specs.declared.journal.Side.{Side}
use Rattle.redo_journal.specs.declared.journal.Side.TheVariants.{First, Second}
use Rattle.redo_journal.specs.declared.journal.Journal.{Journal}
use Rattle.redo_journal.specs.Journals.{side_read, IsFaithfulImage, Holds, OnlyBoth, file_on, file_beside, first_file_of, HasArea, HasNoArea, IsKeptIn, IsKeptOn, IsKept}
use Rattle.redo_journal.specs.Appending.{with_one}
use Rattle.redo_journal.proofs.KeptLemmas.{kept_holds}
use Rattle.engine_api.specs.Reads.{EachReads, files_in, OnlyIn}
use Rattle.journal_engine.specs.Engine.{gist_with, files_of, gist_of, StandAs, journal_reading, IsHeld}
use Rattle.journal_engine.proofs.RecordLemmas.{gist_more, between, prefixes_one}

-- Each image of two files reads so where each pair of images does.
reads_pair : (gists : List Gist) (one other : File)
    → ((first second : List ℕ) → IsFaithfulImage one first → IsFaithfulImage other second → (gist : Gist) × Contains gists gist × StandAs (first ∷ second ∷ []) gist)
    → EachReads journal_reading gists (one ∷ other ∷ [])
reads_pair gists one other each [] faithful = absurd faithful
reads_pair gists one other each (first ∷ []) faithful = absurd faithful.1
reads_pair gists one other each (first ∷ second ∷ []) faithful = each first second faithful.0 faithful.1.0
reads_pair gists one other each (first ∷ second ∷ third ∷ rest) faithful = absurd faithful.1.1

-- Images that have all records read as their gist.
pub all_read : (records : List Record) (gist : Gist) (one other : File) → gist_of records ≡ gist → Holds None records records one other → EachReads journal_reading (gist ∷ []) (one ∷ other ∷ [])
all_read records gist one other is holds = reads_pair (gist ∷ []) one other
    (λ first second of_one of_other.
    let so = holds first second of_one of_other in
    let same = prefixes_one records so.records so.at_least so.at_most in
    (gist, (0, omega arith, refl), (so.records, so.stands, ap gist_of same ∙ is)))

-- Images that have all records, or these with one more, read as one of two gists.
pub one_more_read : (records : List Record) (it : Record) (gist : Gist) (one other : File) → gist_of records ≡ gist → Holds None records (with_one records it) one other
    → EachReads journal_reading (gist ∷ gist_with it gist ∷ []) (one ∷ other ∷ [])
one_more_read records it gist one other is holds = reads_pair (gist ∷ gist_with it gist ∷ []) one other
    (λ first second of_one of_other.
    let so = holds first second of_one of_other in
    ⊎_elim
    (λ same. (gist, (0, omega arith, refl), (so.records, so.stands, ap gist_of same ∙ is)))
    (λ more. (gist_with it gist, (1, omega arith, refl), (so.records, so.stands, ap gist_of more ∙ gist_more records it gist is)))
    (between records it so.records so.at_least so.at_most))

-- The files of a journal that is kept read as its gist.
pub kept_read : (journal : Journal) (records : List Record) (gist : Gist) (files : ℕ → File) → IsKept journal None records records files → gist_of records ≡ gist
    → EachReads journal_reading (gist ∷ []) (map files (files_of (first_file_of journal)))
kept_read journal records gist files kept is =
    all_read records gist (files (first_file_of journal)) (files (first_file_of journal + 1)) is (kept_holds journal.area None records records journal.first_file files kept.is kept.kept)

-- At each moment the files that are not the journal's are as they were.
pub only_in : (first : ℕ) (d e : Disk) (P : File → File → Type 0) (Q : List File → Type 0) → ((one other : File) → P one other → Q (one ∷ other ∷ [])) → Keeps d e (OnlyBoth first (now d) P)
    → Keeps d e (OnlyIn (files_of first) (now d) Q)
only_in first d e P Q gives run = weaker d e (OnlyBoth first (now d) P) (OnlyIn (files_of first) (now d) Q)
    (λ files p. (
      (λ f not. p.0 f (λ is. not (0, omega arith, sym is)) (λ is. not (1, omega arith, sym is))),
      gives (files first) (files (first + 1)) p.1,
    )) run

-- What is kept is a matter of the journal's two files.
kept_in_same : (it : Area) (wanted : Option ℕ) (synced records : List Record) (first : ℕ) (files more : ℕ → File) → more first ≡ files first → more (first + 1) ≡ files (first + 1)
    → IsKeptIn it wanted synced records first files → IsKeptIn it wanted synced records first more
kept_in_same it wanted synced records first files more one other kept = record {
  read = ap (λ (f : File). side_read wanted f.bytes (more (first + 1)).bytes) one ∙ ap (λ (f : File). side_read wanted (files first).bytes f.bytes) other ∙ kept.read;
  area = subst (λ (f : File). HasArea it synced records f) (sym (on it.side)) kept.area;
  beside = subst IsSettled (sym (off it.side)) kept.beside;
}
  where
    on : (side : Side) → more (file_on side first) ≡ files (file_on side first)
    on First = one
    on Second = other

    off : (side : Side) → more (file_beside side first) ≡ files (file_beside side first)
    off First = other
    off Second = one

kept_on_same : (area : Option Area) (wanted : Option ℕ) (synced records : List Record) (first : ℕ) (files more : ℕ → File) → more first ≡ files first → more (first + 1) ≡ files (first + 1)
    → IsKeptOn area wanted synced records first files → IsKeptOn area wanted synced records first more
kept_on_same None wanted synced records first files more one other kept =
    (subst (λ (f : File). HasNoArea wanted f (more (first + 1))) (sym one) (subst (λ (f : File). HasNoArea wanted (files first) f) (sym other) kept.0), kept.1)
kept_on_same (Some area) wanted synced records first files more one other kept = kept_in_same area wanted synced records first files more one other kept

-- the files of these numbers are those of a list of them
firsts : (one other : File) (two more : File) → one ∷ other ∷ [] ≡ two ∷ more ∷ [] → (two ≡ one) × (more ≡ other)
firsts one other two more e =
    let a : two ≡ one = cc in
    let b : more ≡ other = cc in
    (a, b)

pub kept_now : (journal : Journal) (records : List Record) (first : ℕ) (files more : ℕ → File) → first_file_of journal ≡ first → map files (files_of first) ≡ map more (files_of first)
    → IsKept journal None records records files → IsKept journal None records records more
kept_now journal records first files more at same kept =
    let parts = firsts (files first) (files (first + 1)) (more first) (more (first + 1)) same in
    let there = subst (λ (n : ℕ). (more n ≡ files n) × (more (n + 1) ≡ files (n + 1))) (sym at) parts in
    record { is = kept.is; kept = kept_on_same journal.area None records records journal.first_file files more there.0 there.1 kept.kept }

-- what is held of the engine's files as they are
pub held_now : (journal : Journal) (first : ℕ) (gist : Gist) (d : Disk) → first_file_of journal ≡ first → IsHeld first (Some journal) gist (files_in (files_of first) d)
    → (records : List Record) × IsKept journal None records records (now d) × (gist_of records ≡ gist)
held_now journal first gist d at held = (held.2.0, kept_now journal held.2.0 first held.0 (now d) at held.1 held.2.1, held.2.2)

pub now_held : (journal : Journal) (records : List Record) (first : ℕ) (gist : Gist) (d : Disk) → IsKept journal None records records (now d) → gist_of records ≡ gist
    → IsHeld first (Some journal) gist (files_in (files_of first) d)
now_held journal records first gist d kept is = (now d, refl, (records, kept, is))

-- each image reads as the gist
pub held_read : (journal : Journal) (first : ℕ) (gist : Gist) (d : Disk) → first_file_of journal ≡ first → IsHeld first (Some journal) gist (files_in (files_of first) d)
    → EachReads journal_reading (gist ∷ []) (files_in (files_of first) d)
held_read journal first gist d at held =
    let is = held_now journal first gist d at held in
    subst (λ (n : ℕ). EachReads journal_reading (gist ∷ []) (files_in (files_of n) d)) at (kept_read journal is.0 gist (now d) is.1 is.2)
