use Rattle.std.proofs.Common.{◌≡◌, List, ◌+◌, ◌++◌, length, subst, arith}
use Rattle.row_format.specs.declared.change.Change.{Change}
use Rattle.dictionary.specs.Dictionary.{Tells, changes_of}
use Rattle.plugd.specs.Xids.{xids_of}
use Rattle.plugd.proofs.FoundLemmas.{on_ok, found_goes}
use Rattle.plugd.proofs.found.FoundVisit.take.Goals as goal

pub returns : goal.returns
returns c = λ list is.
    let old = c.args.self.now in
    let next : c.len.result + 1 ≡ length old.pairs.items + 1 = omega (arith, c.len.ensures, old.pairs.ok.0) in
    on_ok c.note.result (λ tells.
    found_goes list c.args.txn old _ (c.len.result + 1) is c.requires.fit.changes
    (c.in_ok-add.ensures.added (xids_of list) is.knows)
    c.in_ok-push.ensures.items
    next
    (subst (λ (cs : List Change). Tells (changes_of list ++ cs) c.note.new.dictionary) c.as_slice.ensures tells))
    (c.note.ensures.tells (changes_of list) is.dictionary)
