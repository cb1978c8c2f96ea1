use Rattle.std.proofs.Common.{◌∙◌, sym}
use Rattle.sql_step.specs.Looks.IsNotMakeable.{defined, unserving, taken}
use Rattle.sql_step.proofs.LookLemmas.{lent_there, lent_none}
use Rattle.sql_step.proofs.looking.check_free.Goals as goal

pub returns-then-is_some-clause-err : goal.returns-then-is_some-clause-err
returns-then-is_some-clause-err g c = defined (lent_there c.find.result _ c.is_some.result c.find.ensures c.is_some.ensures c.if-is_some.true)

pub returns-then-not-serves-clause-err : goal.returns-then-not-serves-clause-err
returns-then-not-serves-clause-err g c =
    unserving (lent_none c.find.result _ c.is_some.result c.find.ensures c.is_some.ensures c.if-is_some.false) (sym c.serves.ensures ∙ c.if-not-serves.true)

pub returns-then-is_some-2-clause-err : goal.returns-then-is_some-2-clause-err
returns-then-is_some-2-clause-err g c = taken (record {
  free = lent_none c.find.result _ c.is_some.result c.find.ensures c.is_some.ensures c.if-is_some.false;
  served = sym c.serves.ensures ∙ c.if-not-serves.false;
  live = lent_there c.schema_of.result _ c.is_some-2.result c.schema_of.ensures c.is_some-2.ensures c.if-is_some-2.true;
})
