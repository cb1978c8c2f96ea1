use Rattle.std.specs.Prelude.{◌≡◌, ◌<◌, ◌+◌, ℕ, List, [], length}
use Rattle.plugd.specs.Serve.{Base}
use Rattle.plugd.specs.Coordinator.{SameReader}
use Rattle.plugd.specs.Session.{input_limit, World, world, Reading}
use Rattle.plugd.proofs.play.play_all.Given as goal

abbrev pub invariant-loop-n : goal.invariant-loop-n
invariant-loop-n g l =
    let serves = g.C.Coordinator.serves in
    let before : World = world (g.C.Coordinator.volume_of l.fn.session.core) (g.S.Source.left l.fn.source) (g.S.Source.source_faults l.fn.source) (g.K.Sink.held l.fn.sink) (g.K.Sink.sink_faults l.fn.sink) in
    let now : World = world (g.C.Coordinator.volume_of l.session.core) (g.S.Source.left l.source) (g.S.Source.source_faults l.source) (g.K.Sink.held l.sink) (g.K.Sink.sink_faults l.sink) in
    ((base : Base) (start : World) → Reading serves base start [] l.fn.session before → (taken : List ℕ) × (length taken + l.room ≡ input_limit) × Reading serves base start taken l.session now)
    × (0 < length l.buf)
    × SameReader (g.C.Coordinator.reads l.fn.session.core) (g.C.Coordinator.reads l.session.core)

abbrev pub decreases-loop-n : goal.decreases-loop-n
decreases-loop-n g l = l.room
