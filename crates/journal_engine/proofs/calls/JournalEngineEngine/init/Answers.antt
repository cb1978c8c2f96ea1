use Rattle.std.proofs.Common.{ap}
use Rattle.journal_engine.specs.Engine.{Journaled}
use Rattle.journal_engine.proofs.OpeningLemmas.{safe_at, held_at, one_gist, begun_well, begun_held}
use Rattle.journal_engine.proofs.calls.JournalEngineEngine.init.Goals as goal

pub returns-in-Err-NotAVolume-clause-any_moment : goal.returns-in-Err-NotAVolume-clause-any_moment
returns-in-Err-NotAVolume-clause-any_moment g c = λ told.
    safe_at c.self.inside.first_file c.args.self.now.first_file _ _ (ap (λ (e : Journaled). e.first_file) c.self.view_is) (c.open-opened.ensures.any_moment told)

pub returns-in-Err-Device-clause-any_moment : goal.returns-in-Err-Device-clause-any_moment
returns-in-Err-Device-clause-any_moment g c = λ told.
    safe_at c.self.inside.first_file c.args.self.now.first_file _ _ (ap (λ (e : Journaled). e.first_file) c.self.view_is) (c.open-opened.ensures.any_moment told)

pub returns-in-Err-Memory-clause-any_moment : goal.returns-in-Err-Memory-clause-any_moment
returns-in-Err-Memory-clause-any_moment g c = λ told.
    safe_at c.self.inside.first_file c.args.self.now.first_file _ _ (ap (λ (e : Journaled). e.first_file) c.self.view_is) (c.open-opened.ensures.any_moment told)

pub returns-in_err-self-inside-clause-any_moment : goal.returns-in_err-self-inside-clause-any_moment
returns-in_err-self-inside-clause-any_moment g c = λ told.
    safe_at c.self.inside.first_file c.args.self.now.first_file _ _ (ap (λ (e : Journaled). e.first_file) c.self.view_is) (c.open-opened.ensures.any_moment told)

pub returns-clause-any_moment : goal.returns-clause-any_moment
returns-clause-any_moment g c = λ told.
    safe_at c.self.inside.first_file c.args.self.now.first_file _ _ (ap (λ (e : Journaled). e.first_file) c.self.view_is) (c.open-opened.ensures.any_moment told)

pub returns-in-Err-NotAVolume-clause-one_gist : goal.returns-in-Err-NotAVolume-clause-one_gist
returns-in-Err-NotAVolume-clause-one_gist g c = one_gist

pub returns-in-Err-Device-clause-one_gist : goal.returns-in-Err-Device-clause-one_gist
returns-in-Err-Device-clause-one_gist g c = one_gist

pub returns-in-Err-Memory-clause-one_gist : goal.returns-in-Err-Memory-clause-one_gist
returns-in-Err-Memory-clause-one_gist g c = one_gist

pub returns-in_err-self-inside-clause-one_gist : goal.returns-in_err-self-inside-clause-one_gist
returns-in_err-self-inside-clause-one_gist g c = one_gist

pub returns-clause-one_gist : goal.returns-clause-one_gist
returns-clause-one_gist g c = one_gist

pub invariant_of-self : goal.invariant_of-self
invariant_of-self g c =
    begun_well c.self.inside.first_file c.in-Ok.opened.0 c.in-Ok.opened.1.items c.in_ok-self-inside.field-0.state c.in-Ok.ensures.journal.0 c.in-Ok.ensures.journal.1
    c.in_ok-self-inside.ensures.read c.self.invariant.files_fit

pub returns-clause-files : goal.returns-clause-files
returns-clause-files g c = λ told.
    let before = (goal.Storage-dyn g c.args.volume.now).disk c.args.volume.now.1 in
    let after = (goal.Storage-dyn g c.args.volume.now).disk c.open-opened.new.volume in
    held_at c.self.inside.first_file c.args.self.now.first_file c.in-Ok.opened.0 c.in_ok-self-inside.field-0.state.gist after (ap (λ (e : Journaled). e.first_file) c.self.view_is)
    (begun_held c.self.inside.first_file c.in-Ok.opened.0 c.in-Ok.opened.1.items c.in_ok-self-inside.field-0.state c.in-Ok.ensures.journal.0 c.in-Ok.ensures.journal.1
    c.in_ok-self-inside.ensures.read before after (c.in-Ok.ensures.opened told))
