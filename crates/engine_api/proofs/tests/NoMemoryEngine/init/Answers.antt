use Rattle.std.proofs.Common.{[], refl}
use Rattle.engine_api.proofs.TestLemmas.{reading_of, reads_own, one_gist}
use Rattle.engine_api.proofs.TurnLemmas.{begins_still}
use Rattle.engine_api.proofs.tests.NoMemoryEngine.init.Goals as goal

pub returns-clause-begun : goal.returns-clause-begun
returns-clause-begun g c = (c.args.self.now.gist, refl)

pub returns-clause-files : goal.returns-clause-files
returns-clause-files g c told = (tt, reads_own c.args.self.now.gist [])

pub returns-clause-any_moment : goal.returns-clause-any_moment
returns-clause-any_moment g c told = begins_still (reading_of c.args.self.now.gist) [] _

pub returns-clause-one_gist : goal.returns-clause-one_gist
returns-clause-one_gist g c = one_gist c.args.self.now.gist
