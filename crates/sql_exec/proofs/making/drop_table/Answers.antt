use Rattle.std.proofs.Common.{[], subst, sym}
use Rattle.sql_value.specs.Names.{IsName}
use Rattle.sql_exec.proofs.FaultLemmas.{alone_refused}
use Rattle.sql_exec.proofs.SpeltLemmas.{one_spelt}
use Rattle.sql_exec.proofs.making.drop_table.Goals as goal

pub returns-in-Ok-clause-spelt : goal.returns-in-Ok-clause-spelt
returns-in-Ok-clause-spelt g c = one_spelt _ c.in_ok-effect.effect c.in_ok-effect.ensures (subst IsName (sym c.in_ok-table_copy.ensures) c.named.ensures)

pub returns-in-Err-clause-carries : goal.returns-in-Err-clause-carries
returns-in-Err-clause-carries g c = record {
  ok = tt;
  refused = λ is. c.remove.ensures.notes.refused (alone_refused [] c.remove.result c.in-Err.field-0 c.in-Err.is c.remove.ensures.answers);
  files = c.remove.ensures.notes.files;
}
