use Rattle.std.proofs.Common.{◌∙◌, ap, sym, subst, ◌∷◌, []}
use Rattle.engine_api.specs.declared.fault.Code.TheVariants.{Full}
use Rattle.sql_effect.specs.Effects.{makes}
use Rattle.sql_exec.specs.Faults.{FailsFor}
use Rattle.sql_exec.proofs.FaultLemmas.{alone_refused}
use Rattle.sql_exec.proofs.MakeLemmas.{create_err, create_granted}
use Rattle.sql_exec.proofs.SpeltLemmas.{one_spelt}
use Rattle.sql_exec.proofs.making.create.Goals as goal

pub returns-in-Ok-clause-ok : goal.returns-in-Ok-clause-ok
returns-in-Ok-clause-ok g c =
    create_granted c.args.txn _ _ _ _ _ _ c.requires.can c.in-Ok.ensures.notes.ok c.in-Ok.ensures.not_full (c.in_ok-effect.ensures ∙ ap makes c.in_ok-change.ensures.value)

pub returns-in-Ok-clause-spelt : goal.returns-in-Ok-clause-spelt
returns-in-Ok-clause-spelt g c = one_spelt c.in_ok-change.change c.in_ok-effect.effect c.in_ok-effect.ensures (c.in_ok-change.ensures.fit c.requires.can.schema)

pub returns-in-Err-clause-carries : goal.returns-in-Err-clause-carries
returns-in-Err-clause-carries g c = record {
  ok = tt;
  refused = λ is. c.make.ensures.notes.refused (alone_refused (Full ∷ []) c.make.result c.in-Err.fault c.in-Err.is c.make.ensures.answers);
  files = c.make.ensures.notes.files;
}

pub returns-in-Err-clause-err : goal.returns-in-Err-clause-err
returns-in-Err-clause-err g c =
    subst (FailsFor _) (sym c.not_made.ensures) (create_err c.args.txn _ _ _ _ c.in-Err.fault c.make.result c.requires.can c.in-Err.is c.make.ensures.answers c.make.ensures.full)
