use Rattle.std.proofs.Common.{ap, ◌∙◌, sym, is_some}
use Rattle.dictionary.proofs.DefinitionLemmas.{is_some-option_map}
use Rattle.dictionary.proofs.StepLemmas.{kept-created, created-effect, after_any}
use Rattle.dictionary.proofs.dictionary.Dictionary.create.Goals as goal

pub returns-then-is_some-clause-ok : goal.returns-then-is_some-clause-ok
returns-then-is_some-clause-ok c =
    kept-created c.args.table.now c.args.engine.now c.args.schema.now c.args.self.now
    (sym (ap is_some c.find.ensures) ∙ is_some-option_map _ c.find.result ∙ sym c.is_some.ensures ∙ c.if-is_some.true)

pub returns-clause-memory : goal.returns-clause-memory
returns-clause-memory c =
    after_any c.define.result
    (created-effect c.args.table.now c.args.engine.now c.args.schema.now c.args.self.now
    (sym (ap is_some c.find.ensures) ∙ is_some-option_map _ c.find.result ∙ sym c.is_some.ensures ∙ c.if-is_some.false))
