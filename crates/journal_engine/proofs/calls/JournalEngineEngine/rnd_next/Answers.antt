-- rnd_next
use Rattle.std.proofs.Common.{refl}
use Rattle.std.proofs.lemmas.Result.{err_from_is_err_and}
use Rattle.journal_engine.proofs.CallLemmas.{well_of}
use Rattle.journal_engine.proofs.TurnLemmas.{turns_quiet}
use Rattle.journal_engine.proofs.calls.JournalEngineEngine.rnd_next.Goals as goal

pub returns-in_default-row_at-clause-turns : goal.returns-in_default-row_at-clause-turns
returns-in_default-row_at-clause-turns g c =
    let it = c.self.inside in
    let v = c.args.self.now in
    let d = (goal.Storage-dyn g c.args.volume.now).disk c.args.volume.now.1 in
    let well = well_of it.first_file it.journal it.live.state it.name it.soname v c.self.view_is c.self.invariant in
    turns_quiet v _ v.live v.live d tt (λ refused. refl) (λ is. let same = is in cc) well.alone refl refl well.stands c.requires.holds

pub returns-then-cursor-clause-turns : goal.returns-then-cursor-clause-turns
returns-then-cursor-clause-turns g c =
    let it = c.self.inside in
    let v = c.args.self.now in
    let d = (goal.Storage-dyn g c.args.volume.now).disk c.args.volume.now.1 in
    let well = well_of it.first_file it.journal it.live.state it.name it.soname v c.self.view_is c.self.invariant in
    turns_quiet v _ v.live v.live d tt (λ refused. refl) (λ is. let same = is in cc) well.alone refl refl well.stands c.requires.holds

pub returns-in_err-row-clause-turns : goal.returns-in_err-row-clause-turns
returns-in_err-row-clause-turns g c =
    let it = c.self.inside in
    let v = c.args.self.now in
    let d = (goal.Storage-dyn g c.args.volume.now).disk c.args.volume.now.1 in
    let well = well_of it.first_file it.journal it.live.state it.name it.soname v c.self.view_is c.self.invariant in
    let p = err_from_is_err_and c.from_residual.result c.from_residual.ensures.1 in
    rw (p.1, p.2) (turns_quiet v _ v.live v.live d tt (λ refused. refl) (λ is. let same = is in cc) well.alone refl refl well.stands c.requires.holds)

pub returns-clause-turns : goal.returns-clause-turns
returns-clause-turns g c =
    let it = c.self.inside in
    let v = c.args.self.now in
    let d = (goal.Storage-dyn g c.args.volume.now).disk c.args.volume.now.1 in
    let well = well_of it.first_file it.journal it.live.state it.name it.soname v c.self.view_is c.self.invariant in
    turns_quiet v _ v.live v.live d refl (λ refused. refl) (λ is. let same = is in cc) well.alone refl refl well.stands c.requires.holds
