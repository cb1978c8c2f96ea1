use Rattle.live_tables.specs.Alone.{IsAlone}
use Rattle.live_tables.proofs.tests.fill.Given as goal

abbrev pub invariant-loop : goal.invariant-loop
invariant-loop g l = IsAlone 1 l.tables.state
