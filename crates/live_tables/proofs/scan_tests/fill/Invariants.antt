use Rattle.live_tables.specs.Alone.{IsAlone}
use Rattle.live_tables.proofs.scan_tests.fill.Given as goal

abbrev pub invariant-loop-number : goal.invariant-loop-number
invariant-loop-number g l = IsAlone 1 l.tables.state
