-- Three records that fit, one behind the other, and a journal to which they are added.
use Rattle.std.proofs.Common.{◌≡◌, ℕ, ◌==◌, Bool, true, Option, List, [], ◌∷◌, length, IsTrue, refl, sym, ◌∙◌, subst, arith, length-append}
use Rattle.std.proofs.lemmas.Bool.Decides.{Decides-eqb}
use Rattle.disk_model.specs.Disk.{Disk, now}
use Rattle.frame_codec.specs.Bytes.{le32, le64}
use Rattle.frame_codec.proofs.FrameLemmas.{length-le32, length-le64}
use Rattle.row_format.specs.declared.change.Change.{Change}
use Rattle.binlog_events.specs.Items.{list_spelling}
use Rattle.redo_journal.specs.declared.record.Record.{Record}
use Rattle.redo_journal.specs.declared.record.Record.TheVariants.{SnapLast, Prepare, Commit}
use Rattle.redo_journal.specs.declared.journal.Journal.{Journal}
use Rattle.redo_journal.specs.Journals.{IsJournal, IsKept}
use Rattle.redo_journal.specs.Appending.{FitsBehind, with_one, IsOpen}

pub fits_first : FitsBehind [] (SnapLast 7)
fits_first = record { allowed = (omega arith, refl); room = omega (arith, length-le64 7) }

pub fits_second : (changes : List Change) → changes ≡ [] → FitsBehind (with_one [] (SnapLast 7)) (Prepare (record { xid = 1; changes = changes }))
fits_second changes empty = subst (λ (l : List Change). FitsBehind (with_one [] (SnapLast 7)) (Prepare (record { xid = 1; changes = l }))) (sym empty) (record {
  allowed = (omega arith, record { fit = tt; on_tables = refl; few = omega arith }, refl);
  room = omega (arith, length-le64 7, length-append (le64 1) (list_spelling []), length-le64 1, length-append (le32 0) [], length-le32 0);
})

pub fits_third : (changes : List Change) → changes ≡ [] → FitsBehind (with_one (with_one [] (SnapLast 7)) (Prepare (record { xid = 1; changes = changes }))) (Commit 1 8)
fits_third changes empty = subst (λ (l : List Change). FitsBehind (with_one (with_one [] (SnapLast 7)) (Prepare (record { xid = 1; changes = l }))) (Commit 1 8)) (sym empty) (record {
  allowed = (omega arith, (omega arith, omega arith, refl));
  room = omega (arith, length-le64 7, length-append (le64 1) (list_spelling []), length-le64 1, length-append (le32 0) [], length-le32 0, length-append (le64 1) (le64 8), length-le64 8);
})

-- nothing is in a list that was found empty
nothing : (records : List Record) (len : ℕ) (empty : Bool) → empty ≡ (len == 0) → empty ≡ true → len ≡ length records → records ≡ []
nothing [] len empty is found size = refl
nothing (x ∷ xs) len empty is found size = absurd (let zero_is = (Decides-eqb len 0).0 (sym is ∙ found) in omega (arith, zero_is, size))

-- an empty journal that was opened
pub opened_empty : (wanted : Option ℕ) (was_told : Bool) (d : Disk) (journal : Journal) (records : List Record) (len : ℕ) (empty : Bool) → empty ≡ (len == 0) → empty ≡ true → len ≡ length records
    → IsJournal journal records → d.told ≡ was_told → (was_told ≡ true → IsKept journal wanted records records (now d)) → IsOpen journal [] d
opened_empty wanted was_told d journal records len empty is found size stands told kept = subst (λ (l : List Record). IsOpen journal l d) (nothing records len empty is found size) (record {
  is = stands;
  kept = λ told_d. (wanted, records, kept (sym told ∙ told_d));
})

-- what the adding of a record needs
pub put_fits : (journal : Journal) (d : Disk) (entry : Record) → (records : List Record) × IsOpen journal records d × FitsBehind records entry → (records : List Record) × IsJournal journal records × FitsBehind records entry
put_fits journal d entry some = (some.0, some.1.is, some.2)

pub put_kept : (journal : Journal) (d : Disk) (entry : Record) → (records : List Record) × IsOpen journal records d × FitsBehind records entry
    → IsTrue d.told → (wanted : Option ℕ) × (synced : List Record) × (records : List Record) × IsKept journal wanted synced records (now d)
put_kept journal d entry some told = let kept = some.1.kept told in (kept.0, kept.1, some.0, kept.2)
