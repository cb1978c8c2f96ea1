use Rattle.std.proofs.Common.{subst, sym}
use Rattle.std.proofs.lemmas.Result.{on_ok_weaker}
use Rattle.dictionary.specs.Dictionary.{Tells}
use Rattle.dictionary.proofs.TellsLemmas.{Tells-push}
use Rattle.dictionary.proofs.dictionary.Dictionary.apply.Goals as goal

pub returns-clause-tells : goal.returns-clause-tells
returns-clause-tells c = λ changes told.
    on_ok_weaker c.make.result (λ is. subst (Tells _) (sym is) (Tells-push changes c.args.change.now c.args.self.now told)) c.make.ensures.ok
