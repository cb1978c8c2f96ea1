use Rattle.std.proofs.Common.{subst, sym}
use Rattle.log_tables.specs.Keys.{IsOrdered}
use Rattle.live_tables.specs.Stored.{Takes}
use Rattle.live_tables.proofs.StoredLemmas.{place_taken}
use Rattle.live_tables.proofs.stored.place_in.Goals as goal

pub returns-in-Some-clause-found : goal.returns-in-Some-clause-found
returns-in-Some-clause-found c = λ ordered.
    let in_order = subst (λ k. IsOrdered k c.args.rows.now) c.in-Some.is ordered in
    subst (λ k. Takes k c.args.row.now c.args.rows.now c.place_of.result) (sym c.in-Some.is)
    (place_taken c.args.row.now c.args.rows.now c.in-Some.column c.place_of.result in_order (c.place_of.ensures.found in_order))
