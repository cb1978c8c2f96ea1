use Rattle.std.proofs.Common.{length, take, ◌-◌, ◌≤◌}
use Rattle.outer_io.specs.Ends.{Put}
use Rattle.outer_io.proofs.writing.write_all.Given as goal

abbrev pub invariant-loop-at : goal.invariant-loop-at
invariant-loop-at g l = record {
  within : l.at ≤ length l.bytes;
  put : Put (take l.at l.bytes) (g.K.Sink.held l.initial.sink) (g.K.Sink.held l.sink);
  no_fewer : g.K.Sink.sink_faults l.initial.sink ≤ g.K.Sink.sink_faults l.sink;
}

abbrev pub decreases-loop-at : goal.decreases-loop-at
decreases-loop-at g l = length l.bytes - l.at
