use Rattle.std.proofs.Common.{rules, ◌≡◌, None, subst}
use Rattle.plugd.specs.declared.heard.Heard.{Heard}
use Rattle.plugd.specs.Texts.{Tells}
use Rattle.plugd.proofs.AnswerLemmas.{if_err, on_err, settled_now, bad_now, still_halted, some_on_way, played_now, unplayed_now}
use Rattle.plugd.proofs.kernel.KernelCoordinator.answer.Goals as goal

pub returns-in-Settle-clause-ok : goal.returns-in-Settle-clause-ok
returns-in-Settle-clause-ok g c = λ base lines replies line part s.
    settled_now base lines replies _ c.args.front.now line (subst (Tells c.args.front.now) c.in-Settle.is c.hear.ensures) part s

pub returns-in-Unknown-clause-ok : goal.returns-in-Unknown-clause-ok
returns-in-Unknown-clause-ok g c = λ base lines replies line part s.
    bad_now base lines replies _ c.args.front.now line (subst (Tells c.args.front.now) c.in-Unknown.is c.hear.ensures) part s

pub returns-in-Some-clause-ok : goal.returns-in-Some-clause-ok
returns-in-Some-clause-ok g c = λ base lines replies line part s.
    still_halted base lines replies _ c.args.front.now line c.in-Text.text.now c.in-Some.cause (subst (Tells c.args.front.now) c.in-Text.is c.hear.ensures) c.in-Some.is part s

pub play-requires : goal.play-requires
play-requires g c =
    let m1 = c.args.self.now in
    let serves : m1.server.halted ≡ None = search rules in
    let r = c.requires.serving in
    record { way = some_on_way r.0 r.1 r.2 _ r.3 serves }

pub returns-in_err-reply-in-Text-clause-ok : goal.returns-in_err-reply-in-Text-clause-ok
returns-in_err-reply-in-Text-clause-ok g c = λ base lines replies line part s. if_err _ c.from_residual.result c.from_residual.ensures.0

pub returns-in_err-reply-in-Text-clause-err : goal.returns-in_err-reply-in-Text-clause-err
returns-in_err-reply-in-Text-clause-err g c =
    let m1 = c.args.self.now in
    let serves : m1.server.halted ≡ None = search rules in
    λ base lines replies s. on_err c.from_residual.result (unplayed_now base lines replies _ _ c.in-Text.text.now c.in_err-reply-in-Text.field-0.0 serves c.in_err-reply-in-Text.ensures.plays s)

pub returns-in_ok-reply-in-Text-clause-ok : goal.returns-in_ok-reply-in-Text-clause-ok
returns-in_ok-reply-in-Text-clause-ok g c =
    let m1 = c.args.self.now in
    let serves : m1.server.halted ≡ None = search rules in
    λ base lines replies line part s.
    played_now base lines replies _ _ c.args.front.now line c.in-Text.text.now c.in_ok-reply-in-Text.reply (subst (Tells c.args.front.now) c.in-Text.is c.hear.ensures) serves c.in_ok-reply-in-Text.ensures.plays part s
