use Rattle.disk_model.proofs.LookingLemmas.{looks_told}
use Rattle.redo_journal.proofs.OpenLemmas.{safe_then, read_then}
use Rattle.redo_journal.proofs.journal.Journal.open.Goals as goal

pub returns-in-Some-clause-any_moment : goal.returns-in-Some-clause-any_moment
returns-in-Some-clause-any_moment g c = λ told.
    let looks = c.area_read.ensures.looks in
    safe_then _ _ _ _ _ looks told (c.open_area.ensures.any_moment _ (looks_told _ _ looks told) (read_then _ _ _ _ _ _ c.in-Some.is looks told (c.in_ok-found.ensures.value told)))

pub returns-in-None-clause-any_moment : goal.returns-in-None-clause-any_moment
returns-in-None-clause-any_moment g c = λ told.
    let looks = c.area_read.ensures.looks in
    safe_then _ _ _ _ _ looks told (c.open_none.ensures.any_moment (looks_told _ _ looks told) (read_then _ _ _ _ _ _ c.in-None.is looks told (c.in_ok-found.ensures.value told)))
