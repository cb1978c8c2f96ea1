use Rattle.std.proofs.Common.{refl, arith}
use Rattle.engine_api.proofs.AtWorkLemmas.{of_one_type, all_at_work}
use Rattle.engine_api.proofs.tests.engines_flush_one_after_the_other.Goals as goal

pub flush_all-requires-clause-at_work : goal.flush_all-requires-clause-at_work
flush_all-requires-clause-at_work g c told =
    all_at_work _ _ (of_one_type _ (λ b v. record { holds = tt; reads = λ images faithful. (v.gist, (0, omega arith, refl), refl) })) _
