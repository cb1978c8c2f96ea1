use Rattle.std.proofs.Common.{◌∙◌, ap, sym}
use Rattle.std.specs.Option.{option_copied}
use Rattle.sql_step.proofs.LookLemmas.{schema_as, schema_other}
use Rattle.sql_step.proofs.looking.has_schema.Goals as goal

pub returns-in-Some-clause-has : goal.returns-in-Some-clause-has
returns-in-Some-clause-has g c = schema_as _ c.in-Some.live.now c.args.schema.now c.is_same.result (sym c.schema_of.ensures ∙ ap option_copied c.in-Some.is) c.is_same.ensures

pub returns-in-Some-clause-other : goal.returns-in-Some-clause-other
returns-in-Some-clause-other g c = schema_other _ c.in-Some.live.now c.args.schema.now c.is_same.result (sym c.schema_of.ensures ∙ ap option_copied c.in-Some.is) c.is_same.ensures
