use Rattle.std.proofs.Common.{◌≡◌, Some, IfOk, IfErr, subst, sym, Option}
use Rattle.std.specs.Option.{option_copied}
use Rattle.row_format.specs.declared.schema.Schema.{Schema}
use Rattle.sql_plan.specs.Plans.{create_refusal, IsFault}
use Rattle.sql_plan.proofs.TableLemmas.{created_by}
use Rattle.sql_plan.proofs.tables.create_schema.Goals as goal

pub returns-in-Ok-clause-ok : goal.returns-in-Ok-clause-ok
returns-in-Ok-clause-ok c =
    subst (λ (made : Option Schema). IfOk c.schema_of_items.result (λ it. made ≡ Some it))
    (sym (created_by c.args.flags c.args.items.now (option_copied c.in-Ok.key) c.in-Ok.ensures.ok)) c.schema_of_items.ensures.ok

pub returns-in-Ok-clause-err : goal.returns-in-Ok-clause-err
returns-in-Ok-clause-err c =
    subst (λ (made : Option Schema). IfErr c.schema_of_items.result (λ fault. IsFault (create_refusal made) fault))
    (sym (created_by c.args.flags c.args.items.now (option_copied c.in-Ok.key) c.in-Ok.ensures.ok)) c.schema_of_items.ensures.err
