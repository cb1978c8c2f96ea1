use denote.Text.{Utf8}
use denote.Shadow.{shadow}
use Rattle.sql_effect.proofs.tests.check.Given as goal

-- the text of a line is text
abbrev pub invariant-loop-i : goal.invariant-loop-i
invariant-loop-i g l =
    (goal.iterator-loop-i g).can_next l.i-iterator ×
    (goal.iterator-loop-i g).is_finite l.i-iterator ×
    shadow (Utf8 l.text)
