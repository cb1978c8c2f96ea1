use Rattle.std.proofs.Common.{◌≡◌, take}
use Rattle.plugd.specs.Noting.{dictionary_after}
use Rattle.plugd.proofs.noting.note.Given as goal

abbrev pub invariant-loop-change : goal.invariant-loop-change
invariant-loop-change l = l.dictionary ≡ dictionary_after (take l.change-index l.changes) l.fn.dictionary
