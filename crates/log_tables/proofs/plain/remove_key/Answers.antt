use Rattle.std.proofs.Common.{ap, ◌∙◌, rules}
use Rattle.std.specs.Prelude.{not}
use Rattle.std.proofs.lemmas.Fn.{filter_same}
use Rattle.log_tables.specs.Keys.{has_key, without_key}
use Rattle.log_tables.proofs.plain.remove_key.Goals as goal

pub returns : goal.returns
returns c =
    filter_same _ (λ it. not (has_key c.args.column c.args.key.now it)) _ (λ x b f' k. search rules) _ _ c.retain.ensures.filtered
    ∙ ap (without_key c.args.column c.args.key.now) c.rows.view_is
