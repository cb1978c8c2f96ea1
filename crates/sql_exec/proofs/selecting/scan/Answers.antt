use Rattle.std.proofs.Common.{Ok, Err, []}
use Rattle.sql_exec.specs.declared.fault.ExecFault.TheVariants.{Memory}
use Rattle.sql_exec.proofs.FaultLemmas.{alone_refused}
use Rattle.sql_exec.proofs.RunLemmas.{memory_no_device, no_call, not_device, run_on}
use Rattle.sql_exec.proofs.SelectLemmas.{still_at_work, work_tells}
use Rattle.sql_exec.proofs.selecting.scan.Goals as goal

pub walk-requires-clause-at_work : goal.walk-requires-clause-at_work
walk-requires-clause-at_work g c =
    λ told. still_at_work _ _ _ _ _ _ _ _ _ (c.requires.at_work told) c.in-Ok.ensures.same c.in-Ok.ensures.notes.ok c.in-Ok.ensures.notes.files

pub returns-in-Ok-clause-carries : goal.returns-in-Ok-clause-carries
returns-in-Ok-clause-carries g c =
    run_on _ _ _ _ (tt {0}) _ _ _ _ _ _ _ _ _
    (no_call _ _ (Ok (tt {0})) _ _ _ _ _ (λ is. not_device (tt {0}) is) c.in-Ok.ensures.notes.ok c.in-Ok.ensures.notes.files (λ told. work_tells _ _ _ _ _ (c.requires.at_work told)))
    c.in-Ok.ensures.same c.walk.ensures.carries

pub returns-in-Err-clause-carries : goal.returns-in-Err-clause-carries
returns-in-Err-clause-carries g c =
    no_call _ _ (Err Memory) _ _ _ _ _ (λ is. memory_no_device _ is) (c.begin_scan.ensures.notes.refused (alone_refused [] c.begin_scan.result c.in-Err.field-0 c.in-Err.is c.begin_scan.ensures.answers))
    c.begin_scan.ensures.notes.files (λ told. work_tells _ _ _ _ _ (c.requires.at_work told))
