use Rattle.redo_journal.proofs.AppendLemmas.{rest_holds, ready_settled, ready_holds, ready_journal, ready_kept, goes_there, goes_first}
use Rattle.std.proofs.Common.{refl}
use Rattle.redo_journal.proofs.journal.Journal.ready.Goals as goal

pub returns-in-Some-clause-area : goal.returns-in-Some-clause-area
returns-in-Some-clause-area g c = goes_there c.args.self.now.area _ _ c.in-Some.is c.requires.area

pub returns-in-Some-clause-any_moment : goal.returns-in-Some-clause-any_moment
returns-in-Some-clause-any_moment g c = rest_holds c.args.self.now _

pub make_area-requires : goal.make_area-requires
make_area-requires g c = record { settled = ready_settled c.args.self.now ((goal.Storage-dyn g c.args.volume.now).disk c.args.volume.now.1) c.in_default.is c.requires.kept }

pub returns-in_err-make_area-clause-any_moment : goal.returns-in_err-make_area-clause-any_moment
returns-in_err-make_area-clause-any_moment g c = ready_holds c.args.self.now _ _ _ c.in_default.is c.in_err-make_area.ensures.makes

pub returns-clause-journal : goal.returns-clause-journal
returns-clause-journal g c = λ records. ready_journal c.args.self.now _ records c.in_default.is (goes_first _ _ c.in_default.is c.requires.area)

pub returns-clause-ok : goal.returns-clause-ok
returns-clause-ok g c = ready_kept c.args.self.now _ _ _ _ _ c.in_default.is refl refl (goes_first _ _ c.in_default.is c.requires.area) c.in_ok-make_area.ensures.makes

pub returns-clause-any_moment : goal.returns-clause-any_moment
returns-clause-any_moment g c = ready_holds c.args.self.now _ _ _ c.in_default.is c.in_ok-make_area.ensures.makes
