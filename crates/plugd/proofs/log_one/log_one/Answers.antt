use Rattle.std.proofs.Common.{[], ◌∷◌, ◌++◌, IsTrue, refl, sym, subst}
use Rattle.plugd.proofs.LogOneLemmas.{first_moments, both_moments}
use Rattle.plugd.proofs.log_one.log_one.Goals as goal

pub returns-in_err-append-clause-any_moment : goal.returns-in_err-append-clause-any_moment
returns-in_err-append-clause-any_moment g c = λ list t told carries durable.
    first_moments _ _ c.args.log.now list t durable (c.append.ensures.any_moment list (t ∷ []) told refl carries durable.is_log)

pub returns-clause-any_moment : goal.returns-clause-any_moment
returns-clause-any_moment g c = λ list t told carries durable.
    let told2 = subst IsTrue (sym c.append.ensures.device.told) told in
    both_moments _ _ _ c.args.log.now c.append.new.self list t durable c.in_ok-append.ensures.counts.durable
    (c.append.ensures.any_moment list (t ∷ []) told refl carries durable.is_log)
    (c.sync.ensures.any_moment (list ++ t ∷ []) told2 (c.in_ok-append.ensures.ok list (t ∷ []) told refl carries durable.is_log))
