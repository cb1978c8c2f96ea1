use Rattle.std.proofs.Common.{rules, arith, inl}
use Rattle.std.proofs.lemmas.Grind.{common_steps}
use Rattle.outer_io.proofs.memory_sink.MemorySinkSink.write.Goals as goal

pub returns-then-contains-clause-writes : goal.returns-then-contains-clause-writes
returns-then-contains-clause-writes c = record {
  fails = search rules;
  cause = λ is. inl (grind (arith, common_steps));
  fed = search rules;
  fed_still = search rules;
  count = search rules;
  held = search rules;
  nothing = search rules;
  failing = search rules;
  calls = search rules;
  faults = search rules;
}
