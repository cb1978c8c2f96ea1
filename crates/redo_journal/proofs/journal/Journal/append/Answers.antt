use Rattle.std.proofs.Common.{IsTrue, subst, sym}
use Rattle.redo_journal.proofs.AppendLemmas.{rest_more, one_more_holds, then_holds, spells_as, goes_fit}
use Rattle.redo_journal.proofs.journal.Journal.append.Goals as goal

pub spell_entry-requires : goal.spell_entry-requires
spell_entry-requires g c = goes_fit c.args.self.now _ _ c.next_area-area.ensures c.requires.fits

pub returns-in-Err-clause-any_moment : goal.returns-in-Err-clause-any_moment
returns-in-Err-clause-any_moment g c = rest_more c.args.self.now _ _

pub returns-in-Err-ready-clause-any_moment : goal.returns-in-Err-ready-clause-any_moment
returns-in-Err-ready-clause-any_moment g c = λ wanted synced records told kept fits. one_more_holds _ _ _ _ wanted synced records _ (c.ready.ensures.any_moment wanted synced records told kept)

pub returns-in-Ok-write-clause-any_moment : goal.returns-in-Ok-write-clause-any_moment
returns-in-Ok-write-clause-any_moment g c = λ wanted synced records told kept fits.
    then_holds _ _ _ _ _ wanted synced records _ c.ready.ensures.first (c.ready.ensures.any_moment wanted synced records told kept)
    (c.write.ensures.any_moment _ (spells_as _ _ _ _ _ _ _ c.in-Ok.ensures.ok c.as_slice.ensures c.crc.ensures) wanted synced records (subst IsTrue (sym c.ready.ensures.device.told) told)
    (c.in_default.ensures.ok wanted synced records told kept) fits)

pub returns-clause-any_moment : goal.returns-clause-any_moment
returns-clause-any_moment g c = λ wanted synced records told kept fits.
    then_holds _ _ _ _ _ wanted synced records _ c.ready.ensures.first (c.ready.ensures.any_moment wanted synced records told kept)
    (c.write.ensures.any_moment _ (spells_as _ _ _ _ _ _ _ c.in-Ok.ensures.ok c.as_slice.ensures c.crc.ensures) wanted synced records (subst IsTrue (sym c.ready.ensures.device.told) told)
    (c.in_default.ensures.ok wanted synced records told kept) fits)
