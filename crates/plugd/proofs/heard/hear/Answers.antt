use Rattle.std.proofs.Common.{◌≡◌, subst, arith}
use Rattle.schedule_text.specs.Lines.{IsLine, line_asked}
use Rattle.schedule_text.specs.declared.lines.Line.{Line}
use Rattle.plugd.proofs.TextLemmas.{other_session}
use Rattle.plugd.proofs.heard.hear.Goals as goal

pub returns-else-session-eq-SESSION : goal.returns-else-session-eq-SESSION
returns-else-session-eq-SESSION c =
    other_session c.args.front.now c.in-Issue.session c.in-Issue.text.now (λ e. omega (arith, c.if-session-eq-SESSION.false, e))
    (subst (λ (l : Line). IsLine c.args.front.now (line_asked l)) c.in-Issue.is c.in-Some.ensures)
