use Rattle.std.proofs.Common.{ap, ◌∙◌, rules}
use Rattle.std.specs.Prelude.{not}
use Rattle.std.proofs.lemmas.Fn.{filter_same}
use Rattle.plugin_registry.specs.Holders.{same_holder, without_holder}
use Rattle.plugin_registry.proofs.holder.Holders.remove.Goals as goal

pub returns : goal.returns
returns c =
    filter_same _ (λ it. not (same_holder c.args.holder.now it)) _ (λ x b f' k. search rules) _ _ c.retain.ensures.filtered
    ∙ ap (without_holder c.args.holder.now) c.self.view_is
