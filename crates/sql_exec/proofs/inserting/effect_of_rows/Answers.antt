use Rattle.std.proofs.Common.{◌∙◌, sym}
use Rattle.sql_exec.proofs.SpeltLemmas.{inserts_fit, sized_spelt}
use Rattle.sql_exec.proofs.inserting.effect_of_rows.Goals as goal

pub sized-requires : goal.sized-requires
sized-requires c = inserts_fit c.args.table.now c.args.schema.now c.args.rows.items _ c.requires.named c.requires.schema c.requires.rows c.in_ok-changes.ensures

pub returns-in-Ok-clause-spelt : goal.returns-in-Ok-clause-spelt
returns-in-Ok-clause-spelt c =
    sized_spelt (record { live = 0; «open» = c.args.open_bytes }) _ c.in-Ok.effect
    (inserts_fit c.args.table.now c.args.schema.now c.args.rows.items _ c.requires.named c.requires.schema c.requires.rows c.in_ok-changes.ensures) (sym c.sized.ensures ∙ c.in-Ok.is)
