use Rattle.plugd.proofs.PlayLemmas.{executes_as, executes_to, plays_refused, plays_answered, plays_halted, some_changed, some_noted, plays_changed, plays_noted}
use Rattle.plugd.proofs.kernel.Kernel.play.Goals as goal

pub returns-in-Refused-clause-plays : goal.returns-in-Refused-clause-plays
returns-in-Refused-clause-plays g c =
    let executes = executes_as c.args.text.now _ _ _ _ c.in-Refused.is c.in_ok-outcome.ensures.executes in
    plays_refused c.args.text.now _ _ c.in-Refused.refusal executes

pub returns-in-Halted-clause-plays : goal.returns-in-Halted-clause-plays
returns-in-Halted-clause-plays g c =
    let executes = executes_as c.args.text.now _ _ _ _ c.in-Halted.is c.in_ok-outcome.ensures.executes in
    plays_halted c.args.text.now _ _ c.in-Halted.cause c.halt.new.self c.halt.result executes c.halt.ensures.server c.halt.ensures.reply

pub returns-in-Rows-clause-plays : goal.returns-in-Rows-clause-plays
returns-in-Rows-clause-plays g c =
    let executes = executes_to c.args.text.now _ _ _ _ _ c.in-Done.is c.in-Rows.is c.in_ok-outcome.ensures.executes in
    plays_answered c.args.text.now _ _ c.in-Rows.rows executes

pub commit_prepared-requires : goal.commit_prepared-requires
commit_prepared-requires g c =
    let executes = executes_to c.args.text.now _ _ _ _ _ c.in-Done.is c.in-Changed.is c.in_ok-outcome.ensures.executes in
    record { executed = some_changed c.args.text.now _ _ c.in-Changed.count c.in-Changed.changes executes c.requires.way }

pub returns-in-Changed-clause-plays : goal.returns-in-Changed-clause-plays
returns-in-Changed-clause-plays g c =
    let executes = executes_to c.args.text.now _ _ _ _ _ c.in-Done.is c.in-Changed.is c.in_ok-outcome.ensures.executes in
    plays_changed c.args.text.now _ _ _ c.in-Changed.count c.in-Changed.changes c.commit_prepared.result executes (c.commit_prepared.ensures.commits c.args.text.now)

pub commit_plain-requires : goal.commit_plain-requires
commit_plain-requires g c =
    let executes = executes_to c.args.text.now _ _ _ _ _ c.in-Done.is c.in-Noted.is c.in_ok-outcome.ensures.executes in
    record { executed = some_noted c.args.text.now _ _ c.in-Noted.changes executes c.requires.way }

pub returns-in-Noted-clause-plays : goal.returns-in-Noted-clause-plays
returns-in-Noted-clause-plays g c =
    let executes = executes_to c.args.text.now _ _ _ _ _ c.in-Done.is c.in-Noted.is c.in_ok-outcome.ensures.executes in
    plays_noted c.args.text.now _ _ _ c.in-Noted.changes c.commit_plain.result executes (c.commit_plain.ensures.commits c.args.text.now)
