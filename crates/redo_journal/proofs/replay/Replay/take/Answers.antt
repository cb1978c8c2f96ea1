use Rattle.redo_journal.proofs.FitLemmas.{stands_now, last_is, none_there, not_allowed, taken_fits, taken_no_room}
use Rattle.redo_journal.proofs.replay.Replay.take.Goals as goal

pub returns-in_default-clause-fits : goal.returns-in_default-clause-fits
returns-in_default-clause-fits c = λ before it replay at offer. absurd (c.in_default.ensures (none_there c.args.records.now before it offer.last_is))

pub returns-in_default-clause-unfit : goal.returns-in_default-clause-unfit
returns-in_default-clause-unfit c = λ before it replay at offer. absurd (c.in_default.ensures (none_there c.args.records.now before it offer.last_is))

pub returns-then-not-branch-clause-unfit : goal.returns-then-not-branch-clause-unfit
returns-then-not-branch-clause-unfit c = λ before it replay at offer.
    let taken = c.in_ok-accept.ensures replay it (stands_now c.args.self.now c.args.records.now before it replay offer.last_is offer.stands) (last_is c.args.records.now before it c.in-Some.number offer.last_is c.in-Some.ensures.1) in
    λ no. not_allowed _ at replay it c.in_ok-accept.field-0 taken c.if-not-branch.true

pub returns-clause-fits : goal.returns-clause-fits
returns-clause-fits c = λ before it replay at offer.
    let taken = c.in_ok-accept.ensures replay it (stands_now c.args.self.now c.args.records.now before it replay offer.last_is offer.stands) (last_is c.args.records.now before it c.in-Some.number offer.last_is c.in-Some.ensures.1) in
    taken_fits c.accept.new.self c.args.records.now at c.args.end replay it c.in_ok-accept.field-0 c.has_room.result offer.form taken c.if-not-branch.false offer.ends c.has_room.ensures

pub returns-clause-unfit : goal.returns-clause-unfit
returns-clause-unfit c = λ before it replay at offer.
    let taken = c.in_ok-accept.ensures replay it (stands_now c.args.self.now c.args.records.now before it replay offer.last_is offer.stands) (last_is c.args.records.now before it c.in-Some.number offer.last_is c.in-Some.ensures.1) in
    taken_no_room c.accept.new.self c.args.records.now at c.args.end replay it c.in_ok-accept.field-0 c.has_room.result taken c.if-not-branch.false offer.ends c.has_room.ensures
