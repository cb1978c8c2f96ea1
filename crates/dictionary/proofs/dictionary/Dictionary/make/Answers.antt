use Rattle.dictionary.proofs.StepLemmas.{kept-rows}
use Rattle.dictionary.proofs.dictionary.Dictionary.make.Goals as goal

pub returns-in-Insert-clause-ok : goal.returns-in-Insert-clause-ok
returns-in-Insert-clause-ok c = kept-rows c.args.change.now c.args.self.now c.in-Insert.is

pub returns-in-Insert-2-clause-ok : goal.returns-in-Insert-2-clause-ok
returns-in-Insert-2-clause-ok c = kept-rows c.args.change.now c.args.self.now c.in-Insert.is

pub returns-in-Insert-3-clause-ok : goal.returns-in-Insert-3-clause-ok
returns-in-Insert-3-clause-ok c = kept-rows c.args.change.now c.args.self.now c.in-Insert.is
