use Rattle.std.proofs.Common.{◌≡◌, rules, true}
use Rattle.std.proofs.lemmas.Result.{IfOk-weaker}
use Rattle.disk_model.specs.Fresh.{numbers_differ}
use Rattle.disk_model.proofs.FreshLemmas.{has_files}
use Rattle.disk_model.proofs.memory.MemoryStorage.new.Goals as goal

pub returns-clause-files : goal.returns-clause-files
returns-clause-files c =
    let differ : numbers_differ c.args.files.items ≡ true = search rules in
    IfOk-weaker c.with_files.result _ _ (λ made holding. has_files c.args.files.items made differ holding) c.with_files.ensures.holding
