-- Step after step, each behind the last.
use Rattle.std.proofs.Common.{subst}
use Rattle.redo_journal.specs.declared.walk.Next.{Next}
use Rattle.redo_journal.specs.Reading.{Found}
use Rattle.redo_journal.proofs.WalkLemmas.{step_fits, walked_none, walked_more, fit_more, walks_end, walks_needs, walk_falls}
use Rattle.redo_journal.proofs.walk.take_whole.Goals as goal

pub loop-n-init : goal.loop-n-init
loop-n-init c = record { walked = walked_none _ _; follows = c.requires.follows }

pub take_next-requires-clause-fit : goal.take_next-requires-clause-fit
take_next-requires-clause-fit c = fit_more _ _ _ _ c.requires.fit c.requires.len c.loop-n.invariant.walked

pub split_at-requires : goal.split_at-requires
split_at-requires c =
    let found = subst (λ (o : Next). Found c.loop-n.scan c.take_next.new.scan c.take_next.new.index c.loop-n.rest.now o) c.in-Taken.is c.in_ok-n.ensures.found in
    (step_fits _ _ _ _ found.0).0

pub loop-n-preserved : goal.loop-n-preserved
loop-n-preserved c =
    let found = subst (λ (o : Next). Found c.loop-n.scan c.take_next.new.scan c.take_next.new.index c.loop-n.rest.now o) c.in-Taken.is c.in_ok-n.ensures.found in
    record { walked = walked_more _ _ _ _ _ _ _ c.loop-n.invariant.walked found.0 c.split_at.ensures.back; follows = found.1 }

pub loop-n-smaller : goal.loop-n-smaller
loop-n-smaller c =
    let found = subst (λ (o : Next). Found c.loop-n.scan c.take_next.new.scan c.take_next.new.index c.loop-n.rest.now o) c.in-Taken.is c.in_ok-n.ensures.found in
    walk_falls _ _ _ _ _ found.0 c.split_at.ensures.back

pub returns-in-NoFrame : goal.returns-in-NoFrame
returns-in-NoFrame c =
    let found = subst (λ (o : Next). Found c.loop-n.scan c.take_next.new.scan c.take_next.new.index c.loop-n.rest.now o) c.in-NoFrame.is c.in_ok-n.ensures.found in
    record { walks = walks_needs _ _ _ _ _ _ _ c.needed.result c.loop-n.invariant.walked found c.needed.ensures.some c.needed.ensures.none }

pub returns-in-NoRecord : goal.returns-in-NoRecord
returns-in-NoRecord c =
    let found = subst (λ (o : Next). Found c.loop-n.scan c.take_next.new.scan c.take_next.new.index c.loop-n.rest.now o) c.in-NoRecord.is c.in_ok-n.ensures.found in
    record { walks = walks_end _ _ _ _ _ _ _ c.loop-n.invariant.walked found }
