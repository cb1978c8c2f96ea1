use Rattle.plugd.proofs.BeginLemmas.{on_law}
use Rattle.plugd.proofs.LawLemmas.{runs}
use Rattle.plugd.proofs.run.run.Goals as goal

pub returns : goal.returns
returns g c = record { runs = on_law _ _ _ (runs 2147483647 c.args.words.now _ _ (c.run_over.result.0).status ((c.run_over.result.0).acks.items)) c.run_over.ensures.ended }
