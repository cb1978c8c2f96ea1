use Rattle.std.proofs.Common.{◌∙◌, sym, ap}
use Rattle.std.specs.Option.{option_copied}
use Rattle.sql_step.specs.Looks.IsNotUsable.{absent, unserved, differs}
use Rattle.sql_step.proofs.looking.table_to_use.Goals as goal

pub returns-in_default-clause-err : goal.returns-in_default-clause-err
returns-in_default-clause-err g c = absent (sym c.find.ensures ∙ ap option_copied c.in_default.is)

pub returns-then-not-serves-clause-err : goal.returns-then-not-serves-clause-err
returns-then-not-serves-clause-err g c =
    unserved c.in-Some.definition.now (sym c.find.ensures ∙ ap option_copied c.in-Some.is) (sym c.serves.ensures ∙ c.if-not-serves.true)

pub returns-then-not-has_schema-clause-err : goal.returns-then-not-has_schema-clause-err
returns-then-not-has_schema-clause-err g c = differs (record {
  it = c.in-Some.definition.now;
  defined = sym c.find.ensures ∙ ap option_copied c.in-Some.is;
  served = sym c.serves.ensures ∙ c.if-not-serves.false;
  other = c.has_schema.ensures.other c.if-not-has_schema.true;
})
