use Rattle.sql_effect.specs.declared.shape.Effect.{Effect}
use Rattle.sql_effect.specs.Insert.{written}
use Rattle.sql_exec.proofs.BackLemmas.{nothing_back}
use Rattle.sql_exec.proofs.inserting.insert.Goals as goal

pub returns-in-Err-clause-carries : goal.returns-in-Err-clause-carries
returns-in-Err-clause-carries g c =
    let target = c.args.target.now in
    nothing_back Effect target.txn target.table.now target.schema.now (written c.args.rows.now) _ _ c.take_back.result _ _ _ _ _ _ c.requires.can.idle c.requires.at_work c.take_back.ensures.carries
