use Rattle.std.proofs.Common.{List, ◌++◌, ◌∙◌, ap, sym, subst, arith}
use Rattle.std.proofs.lemmas.List.{take_all}
use Rattle.row_format.specs.declared.change.Change.{Change}
use Rattle.dictionary.specs.Dictionary.{DictionaryState, Tells}
use Rattle.plugd.specs.Noting.{dictionary_after}
use Rattle.plugd.proofs.NotingLemmas.{tells_noted}
use Rattle.plugd.proofs.noting.note.Goals as goal

pub returns-clause-tells : goal.returns-clause-tells
returns-clause-tells c = λ before tells.
    let changes = c.args.changes.now in
    let all = take_all c.loop-change.change-index changes (omega (arith, c.loop-change-test.false)) in
    let noted = c.loop-change.invariant ∙ ap (λ (cs : List Change). dictionary_after cs c.args.dictionary.now) all in
    subst (λ (d : DictionaryState). Tells (before ++ changes) d) (sym noted) (tells_noted changes before c.args.dictionary.now tells)
