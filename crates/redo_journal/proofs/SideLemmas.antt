-- The two files of a journal: the one that is read, and the one beside it.
use Rattle.std.proofs.Common.{◌≡◌, ◌≢◌, ℕ, ◌+◌, ◌<◌, ◌^◌, Option, Some, List, refl, sym, ◌∙◌, ap, subst, arith}
use Rattle.disk_model.specs.File.{File}
use Rattle.disk_model.specs.Start.{settled}
use Rattle.disk_model.specs.Disk.{Disk, now, Keeps, Only}
use Rattle.disk_model.specs.Grew.{OnlyGrew}
use Rattle.disk_model.proofs.Moments.{weaker}
use Rattle.disk_model.proofs.StagedLemmas.{settled_image}
use Rattle.framed_file.specs.Framed.{IsPrefix, header_len}
use Rattle.framed_file.proofs.PrefixLemmas.{prefix_trans}
use Rattle.redo_journal.specs.declared.record.Record.{Record}
use Rattle.redo_journal.specs.declared.journal.Side.{Side}
use Rattle.redo_journal.specs.declared.journal.Side.TheVariants.{First, Second}
use Rattle.redo_journal.specs.Replays.{start, AllFit}
use Rattle.redo_journal.specs.Areas.{open_sequence, area_of}
use Rattle.redo_journal.specs.Journals.{chosen, side_read, HasRecords, StandsOn, Stands, IsBetween, Holds, OnlyBoth, file_on, file_beside}
use Rattle.redo_journal.specs.Choosing.{on_side}
use Rattle.redo_journal.proofs.AreaLemmas.{Between, area_held}

-- of two things, the one beside this side
abbrev pub off_side : {A : Type 0} → Side → A → A → A
off_side First first second = second
off_side Second first second = first

-- a claim on the file of this side and the file beside it
abbrev pub sided : Side → (File → File → Type 0) → File → File → Type 0
sided First P mine beside = P mine beside
sided Second P mine beside = P beside mine

pub sided_wider : (side : Side) (P R : File → File → Type 0) (mine beside : File) → ((one other : File) → P one other → R one other) → sided side P mine beside → sided side R mine beside
sided_wider First P R mine beside gives is = gives mine beside is
sided_wider Second P R mine beside gives is = gives beside mine is

pub unsided : (side : Side) (P : File → File → Type 0) (files : ℕ → File) (first : ℕ) → sided side P (files (file_on side first)) (files (file_beside side first)) → P (files first) (files (first + 1))
unsided First P files first is = is
unsided Second P files first is = is

pub on_file : (side : Side) (files : ℕ → File) (first : ℕ) → on_side side (files first).bytes (files (first + 1)).bytes ≡ (files (file_on side first)).bytes
on_file First files first = refl
on_file Second files first = refl

pub off_file : (side : Side) (files : ℕ → File) (first : ℕ) → off_side side (files first).bytes (files (first + 1)).bytes ≡ (files (file_beside side first)).bytes
off_file First files first = refl
off_file Second files first = refl

pub on_mapped : {A B : Type 0} (side : Side) (f : A → B) (first second : A) → on_side side (f first) (f second) ≡ f (on_side side first second)
on_mapped First f first second = refl
on_mapped Second f first second = refl

pub two_files : (first : ℕ) → first + 1 ≢ first
two_files first is = omega (arith, is)

pub beside_differs : (side : Side) (first : ℕ) → file_beside side first ≢ file_on side first
beside_differs First first is = omega (arith, is)
beside_differs Second first is = omega (arith, is)

-- the file is one of the two
pub not_on : (side : Side) (first f : ℕ) → f ≢ first → f ≢ first + 1 → f ≢ file_on side first
not_on First first f not_first not_second = not_first
not_on Second first f not_first not_second = not_second

-- a run of calls on the file of this side
pub side_run : (side : Side) (first : ℕ) (d e : Disk) (was : ℕ → File) (Q : File → Type 0) (P : File → File → Type 0) → ((f : ℕ) → f ≢ first → f ≢ first + 1 → now d f ≡ was f)
    → Keeps d e (Only (file_on side first) (now d) Q) → ((mine : File) → Q mine → sided side P mine (now d (file_beside side first))) → Keeps d e (OnlyBoth first was P)
side_run First first d e was Q P others run gives = weaker d e (Only first (now d) Q) (OnlyBoth first was P)
    (λ files p. (λ f n m. p.0 f n ∙ others f n m, subst (λ (o : File). P (files first) o) (sym (p.0 (first + 1) (two_files first))) (gives (files first) p.1))) run
side_run Second first d e was Q P others run gives = weaker d e (Only (first + 1) (now d) Q) (OnlyBoth first was P)
    (λ files p. (λ f n m. p.0 f m ∙ others f n m, subst (λ (o : File). P o (files (first + 1))) (sym (p.0 first (λ is. two_files first (sym is)))) (gives (files (first + 1)) p.1))) run

-- the same side is read where neither sequence changed
pub read_same : (side : Side) (wanted : Option ℕ) (b1 b2 c1 c2 : List ℕ) → side_read wanted b1 b2 ≡ Some side → open_sequence (on_side side c1 c2) ≡ open_sequence (on_side side b1 b2)
    → off_side side c1 c2 ≡ off_side side b1 b2 → side_read wanted c1 c2 ≡ Some side
read_same First wanted b1 b2 c1 c2 read mine beside =
    ap (λ (o : Option ℕ). chosen wanted o (open_sequence c2)) mine ∙ ap (λ (l : List ℕ). chosen wanted (open_sequence b1) (open_sequence l)) beside ∙ read
read_same Second wanted b1 b2 c1 c2 read mine beside =
    ap (λ (o : Option ℕ). chosen wanted (open_sequence c1) o) mine ∙ ap (λ (l : List ℕ). chosen wanted (open_sequence l) (open_sequence b2)) beside ∙ read

-- what the side that is read has is what the files stand for
pub stands_on : (side : Side) (wanted : Option ℕ) (first second : List ℕ) (records : List Record) → side_read wanted first second ≡ Some side → HasRecords (on_side side first second) records → Stands wanted first second records
stands_on First wanted first second records read has = subst (λ (s : Option Side). StandsOn s wanted first second records) (sym read) has
stands_on Second wanted first second records read has = subst (λ (s : Option Side). StandsOn s wanted first second records) (sym read) has

pub stood_on : (side : Side) (wanted : Option ℕ) (first second : List ℕ) (records : List Record) → side_read wanted first second ≡ Some side → Stands wanted first second records → HasRecords (on_side side first second) records
stood_on First wanted first second records read stands = subst (λ (s : Option Side). StandsOn s wanted first second records) read stands
stood_on Second wanted first second records read stands = subst (λ (s : Option Side). StandsOn s wanted first second records) read stands

-- an image of the side that is read, and the file beside it as it was
pub between_on : (side : Side) (wanted : Option ℕ) (b1 b2 i1 i2 : List ℕ) (sequence : ℕ) (low high : List Record) → side_read wanted b1 b2 ≡ Some side → open_sequence (on_side side b1 b2) ≡ Some sequence
    → off_side side i1 i2 ≡ off_side side b1 b2 → Between sequence low high (on_side side i1 i2) → IsBetween wanted low high i1 i2
between_on side wanted b1 b2 i1 i2 sequence low high read opened beside between = record {
  records = between.records;
  stands = stands_on side wanted i1 i2 between.records (read_same side wanted b1 b2 i1 i2 read (between.opened ∙ sym opened) beside) (sequence, between.opened, between.area);
  at_least = between.at_least;
  at_most = between.at_most;
}

-- Each faithful image of a file to which records were added since its sync, with a synced file beside it.
pub holds_on : (side : Side) (wanted : Option ℕ) (b1 b2 : List ℕ) (sequence : ℕ) (low high : List Record) (mine beside : File) → side_read wanted b1 b2 ≡ Some side → open_sequence (on_side side b1 b2) ≡ Some sequence
    → beside ≡ settled (off_side side b1 b2) → sequence < 2 ^ 64 → AllFit header_len start high → IsPrefix low high → mine.synced ≡ area_of sequence low → OnlyGrew mine.synced mine.steps (area_of sequence high)
    → sided side (Holds wanted low high) mine beside
holds_on First wanted b1 b2 sequence low high mine beside read opened at small fit part synced grew = λ i1 i2 of_mine of_beside.
    between_on First wanted b1 b2 i1 i2 sequence low high read opened (settled_image beside b2 i2 at of_beside.0) (area_held mine sequence low high small fit part synced grew i1 of_mine)
holds_on Second wanted b1 b2 sequence low high mine beside read opened at small fit part synced grew = λ i1 i2 of_beside of_mine.
    between_on Second wanted b1 b2 i1 i2 sequence low high read opened (settled_image beside b1 i1 at of_beside.0) (area_held mine sequence low high small fit part synced grew i2 of_mine)

-- More records, or fewer that are synced.
pub holds_wider : (wanted : Option ℕ) (less low high more : List Record) (one other : File) → IsPrefix less low → IsPrefix high more → Holds wanted low high one other → Holds wanted less more one other
holds_wider wanted less low high more one other fewer further holds first second of_one of_other =
    let so = holds first second of_one of_other in
    record { records = so.records; stands = so.stands; at_least = prefix_trans less low so.records fewer so.at_least; at_most = prefix_trans so.records high more so.at_most further }
