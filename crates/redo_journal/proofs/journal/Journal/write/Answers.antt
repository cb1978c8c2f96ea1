use Rattle.std.proofs.Common.{refl, arith}
use Rattle.redo_journal.proofs.AppendLemmas.{fit_room, write_place, write_journal, write_holds, write_ok}
use Rattle.redo_journal.proofs.journal.Journal.write.Goals as goal

pub overflow_cast-next : goal.overflow_cast-next
overflow_cast-next g c = let room = fit_room c.args.area _ _ c.requires.frame in omega arith

pub overflow_add-next : goal.overflow_add-next
overflow_add-next g c = let room = fit_room c.args.area _ _ c.requires.frame in omega arith

pub overflow_add-next-2 : goal.overflow_add-next-2
overflow_add-next-2 g c = let room = fit_room c.args.area _ _ c.requires.frame in omega arith

pub write_at-requires : goal.write_at-requires
write_at-requires g c = record { within = write_place c.args.self.now c.args.area ((goal.Storage-dyn g c.args.volume.now).disk c.args.volume.now.1) _ _ c.requires.area c.file-file.ensures c.from.ensures c.requires.kept }

pub returns-in_err-write_at-clause-any_moment : goal.returns-in_err-write_at-clause-any_moment
returns-in_err-write_at-clause-any_moment g c = write_holds c.args.self.now c.args.area _ _ _ _ _ _ _ c.requires.area c.file-file.ensures c.from.ensures c.write_at.ensures.called

pub invariant_of-next : goal.invariant_of-next
invariant_of-next g c = let room = fit_room c.args.area _ _ c.requires.frame in record { small = omega arith; summed = omega arith; counted = omega arith; within = omega arith }

pub returns-clause-journal : goal.returns-clause-journal
returns-clause-journal g c = write_journal c.args.self.now c.args.area _ _ _ c.requires.area (record { side = refl; sequence = refl; len = refl; crc = refl; count = refl })

pub returns-clause-ok : goal.returns-clause-ok
returns-clause-ok g c =
    write_ok c.args.self.now _ c.args.area _ _ _ _ _ _ _ _ c.requires.area refl refl (record { side = refl; sequence = refl; len = refl; crc = refl; count = refl }) c.file-file.ensures c.from.ensures c.in_ok-write_at.ensures.called

pub returns-clause-any_moment : goal.returns-clause-any_moment
returns-clause-any_moment g c = write_holds c.args.self.now c.args.area _ _ _ _ _ _ _ c.requires.area c.file-file.ensures c.from.ensures c.write_at.ensures.called
