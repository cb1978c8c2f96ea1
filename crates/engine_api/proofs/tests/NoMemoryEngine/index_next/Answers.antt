use Rattle.std.proofs.Common.{refl}
use Rattle.engine_api.proofs.TestLemmas.{nothing_done}
use Rattle.engine_api.proofs.tests.NoMemoryEngine.index_next.Goals as goal

pub returns-clause-turns : goal.returns-clause-turns
returns-clause-turns g c = nothing_done _ _ _ _ _ refl (λ is. let e = is in cc)
