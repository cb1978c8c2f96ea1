-- The engine begins from its files.
use Rattle.std.proofs.Common.{◌≡◌, ℕ, ◌+◌, ◌<◌, ◌^◌, Option, Some, None, List, [], ◌∷◌, refl, sym, ap, ◌∙◌, subst}
use Rattle.disk_model.specs.File.{File}
use Rattle.disk_model.specs.Disk.{Disk, now, contents, Keeps}
use Rattle.framed_file.specs.Framed.{header_len}
use Rattle.log_tables.specs.declared.gist.Gist.{Gist}
use Rattle.redo_journal.specs.declared.record.Record.{Record}
use Rattle.redo_journal.specs.declared.journal.Area.{Area}
use Rattle.redo_journal.specs.declared.journal.Side.{Side}
use Rattle.redo_journal.specs.declared.journal.Journal.{Journal}
use Rattle.redo_journal.specs.Replays.{start, AllFit}
use Rattle.redo_journal.specs.Journals.{StandsOn, Stands, IsNoJournal, IsJournalOn, IsJournal, IsSafe, first_file_of}
use Rattle.redo_journal.specs.Opening.{Opens, StaysSafe, HasNoJournal}
use Rattle.redo_journal.proofs.AreaLemmas.{one_list}
use Rattle.engine_api.specs.States.{EngineState, begun_state}
use Rattle.engine_api.specs.Reads.{EachReads, EachReadsAs, files_in, bytes_in, OnlyIn}
use Rattle.journal_engine.specs.Engine.{files_of, gist_of, StandAs, journal_reading, IsHeld, IsWell}
use Rattle.journal_engine.proofs.HeldLemmas.{only_in, now_held, held_read}
use Rattle.journal_engine.proofs.LoadLemmas.{begun_spelt}

-- A crash leaves files that read as those at the start.
safe_reads : (one_was other_was one other : File) → IsSafe None one_was other_was one other → EachReadsAs journal_reading (one_was ∷ other_was ∷ []) (one ∷ other ∷ [])
safe_reads one_was other_was one other safe [] faithful = absurd faithful
safe_reads one_was other_was one other safe (first ∷ []) faithful = absurd faithful.1
safe_reads one_was other_was one other safe (first ∷ second ∷ []) faithful =
    let so = safe.reads first second faithful.0 faithful.1.0 in
    (so.0 ∷ so.1 ∷ [], (so.2, (so.3, tt)), λ gist stands. (stands.0, so.4.stands stands.0 stands.1, stands.2))
safe_reads one_was other_was one other safe (first ∷ second ∷ third ∷ rest) faithful = absurd faithful.1.1

pub safe_moments : (first : ℕ) (before after : Disk) → StaysSafe None first before after → Keeps before after (OnlyIn (files_of first) (now before) (EachReadsAs journal_reading (files_in (files_of first) before)))
safe_moments first before after stays =
    only_in first before after (IsSafe None (now before first) (now before (first + 1))) (EachReadsAs journal_reading (files_in (files_of first) before)) (safe_reads (now before first) (now before (first + 1))) stays

-- two files that are no journal stand for no gist
stands_none : (first second : List ℕ) (records : List Record) → IsNoJournal None first second → Stands None first second records → ⊥
stands_none first second records none stands =
    let on = subst (λ (s : Option Side). StandsOn s None first second records) none.0 stands in
    none.1 on.0

pub no_gist : (first : ℕ) (d : Disk) → HasNoJournal None first d → (gist : Gist) → StandAs (bytes_in (files_of first) d) gist → ⊥
no_gist first d none gist stands = stands_none (contents d first) (contents d (first + 1)) stands.0 none stands.1

-- two files stand for one gist at most: for that of the one list of records that they have
pub one_gist : (images : List (List ℕ)) (a b : Gist) → StandAs images a → StandAs images b → a ≡ b
one_gist [] a b of_a of_b = absurd of_a
one_gist (first ∷ []) a b of_a of_b = absurd of_a
one_gist (first ∷ second ∷ []) a b of_a of_b = sym of_a.2 ∙ ap gist_of (one_list None first second of_a.0 of_b.0 of_a.1 of_b.1) ∙ of_b.2
one_gist (first ∷ second ∷ third ∷ rest) a b of_a of_b = absurd of_a

-- the records of a journal fit
pub journal_fits : (journal : Journal) (records : List Record) → IsJournal journal records → AllFit header_len start records
journal_fits journal records is = of journal.area is
  where
    of : (area : Option Area) → IsJournalOn area records → AllFit header_len start records
    of None none = subst (λ (l : List Record). AllFit header_len start l) (sym none) tt
    of (Some area) behind = behind.fit

module _ (first : ℕ) (journal : Journal) (records : List Record) (live : EngineState) (at : first_file_of journal ≡ first) (is : IsJournal journal records) (live_is : live ≡ begun_state (gist_of records)) where
  pub begun_well : first + 1 < 2 ^ 32 → IsWell first (Some journal) live
  begun_well small = subst (λ (s : EngineState). IsWell first (Some journal) s) (sym live_is) (record {
    files_fit = small;
    stands = (at, (records, is, refl));
    alone = refl;
    spelt = begun_spelt records (journal_fits journal records is);
  })

  pub begun_stands : (before after : Disk) → Opens None first before after journal records → StandAs (bytes_in (files_of first) before) live.gist
  begun_stands before after opens = subst (λ (s : EngineState). StandAs (bytes_in (files_of first) before) s.gist) (sym live_is) (records, opens.0, refl)

  pub begun_held : (before after : Disk) → Opens None first before after journal records
      → IsHeld first (Some journal) live.gist (files_in (files_of first) after) × EachReads journal_reading (live.gist ∷ []) (files_in (files_of first) after)
  begun_held before after opens = subst (λ (s : EngineState). IsHeld first (Some journal) s.gist (files_in (files_of first) after) × EachReads journal_reading (s.gist ∷ []) (files_in (files_of first) after)) (sym live_is)
      (let held = now_held journal records first (gist_of records) after opens.1 refl in (held, held_read journal first (gist_of records) after at held))

-- the same, where the first file is told by another name
pub safe_at : (first f : ℕ) (before after : Disk) → first ≡ f → StaysSafe None first before after
    → Keeps before after (OnlyIn (files_of f) (now before) (EachReadsAs journal_reading (files_in (files_of f) before)))
safe_at first f before after same stays =
    subst (λ (n : ℕ). Keeps before after (OnlyIn (files_of n) (now before) (EachReadsAs journal_reading (files_in (files_of n) before)))) same (safe_moments first before after stays)

pub held_at : (first f : ℕ) (journal : Journal) (gist : Gist) (after : Disk) → first ≡ f
    → IsHeld first (Some journal) gist (files_in (files_of first) after) × EachReads journal_reading (gist ∷ []) (files_in (files_of first) after)
    → IsHeld first (Some journal) gist (files_in (files_of f) after) × EachReads journal_reading (gist ∷ []) (files_in (files_of f) after)
held_at first f journal gist after same held =
    subst (λ (n : ℕ). IsHeld first (Some journal) gist (files_in (files_of n) after) × EachReads journal_reading (gist ∷ []) (files_in (files_of n) after)) same held
