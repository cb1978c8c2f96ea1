use Rattle.std.specs.Prelude.{ℕ, List, ◌++◌, take}
use Rattle.plugd.specs.Serve.{Base}
use Rattle.plugd.specs.Coordinator.{SameReader}
use Rattle.plugd.specs.Session.{Standing}
use Rattle.plugd.proofs.session.Session.take_all.Given as goal

abbrev pub invariant-loop-byte : goal.invariant-loop-byte
invariant-loop-byte g l =
    let serves = g.C.Coordinator.serves in
    let reads = g.C.Coordinator.reads in
    ((base : Base) (taken spoken : List ℕ) → Standing serves base taken spoken l.fn.self → Standing serves base (taken ++ take l.byte-index l.fn.bytes) spoken l.self)
    × SameReader (reads l.fn.self.core) (reads l.self.core)
