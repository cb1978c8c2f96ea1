use Rattle.std.proofs.lemmas.Bool.Decides.{Decides-eqb}
use Rattle.std.proofs.lemmas.Option.{MatchOption-at_some}
use Rattle.std.proofs.lemmas.Slice.Eq.{strip_prefix_is}
use Rattle.std.specs.Prelude.{codes}
use Rattle.schedule_text.proofs.NumberLemmas.{none_has}
use Rattle.schedule_text.proofs.WordLemmas.{step_no_word}
use Rattle.schedule_text.proofs.lines.word_of.Goals as goal

pub returns-in_err-session-in-None : goal.returns-in_err-session-in-None
returns-in_err-session-in-None c =
    let stripped =
    strip_prefix_is Decides-eqb c.args.line.now (codes "step ") c.strip_prefix-in-None.result c.strip_prefix-in-None.ensures.cases in
    let rest = MatchOption-at_some _ _ _ c.in_ok-rest-in-None.was stripped in
    none_has _ _ _ c.from_residual-in_err-session-in-None.ensures
    (step_no_word c.args.line.now c.in_ok-rest-in-None.rest.now rest c.in_err-session-in-None.ensures)

pub returns-in_ok-session-in-None : goal.returns-in_ok-session-in-None
returns-in_ok-session-in-None c =
    let stripped =
    strip_prefix_is Decides-eqb c.args.line.now (codes "step ") c.strip_prefix-in-None.result c.strip_prefix-in-None.ensures.cases in
    let rest = MatchOption-at_some _ _ _ c.in_ok-rest-in-None.was stripped in
    (c.in_ok-session-in-None.ensures.0, c.in_ok-rest-in-None.rest.now, rest, c.in_ok-session-in-None.ensures.1)
