use Rattle.std.proofs.Common.{◌≡◌, filter, refl, ap, ◌∙◌, sym, rules}
use Rattle.std.specs.Prelude.{not}
use Rattle.std.specs.Str.{bytes_eq}
use Rattle.std.specs.List.{list_any}
use Rattle.std.proofs.lemmas.Fn.{filter_same}
use Rattle.row_format.specs.declared.change.Change.TheVariants.{Uninstall}
use Rattle.dictionary.specs.contracts.dictionary.Dictionary.{the_view}
use Rattle.dictionary.proofs.StepLemmas.{steps-on, kept-uninstalled, steps-uninstalled}
use Rattle.dictionary.proofs.dictionary.Dictionary.uninstall.Goals as goal

pub returns : goal.returns
returns c =
    let there = sym (c.is_among.ensures ∙ ap (list_any (bytes_eq c.args.name.now)) c.deref.ensures.value) ∙ c.if-not-is_among.false in
    let left : c.retain.new.self.items ≡ filter (λ it. not (bytes_eq c.args.name.now it)) c.self.inside.installed.items =
    filter_same _ (λ it. not (bytes_eq c.args.name.now it)) _ (λ x b f' k. search rules) _ _ c.retain.ensures.filtered in
    steps-on (Uninstall c.args.name.now) (the_view c.self.inside) c.args.self.now c.self.view_is
    (steps-uninstalled c.args.name.now (the_view c.self.inside) _ there refl left c.raise.ensures)

pub returns-then-not-is_among : goal.returns-then-not-is_among
returns-then-not-is_among c =
    let free = sym (c.is_among.ensures ∙ ap (list_any (bytes_eq c.args.name.now)) c.deref.ensures.value) ∙ c.if-not-is_among.true in
    kept-uninstalled c.args.name.now c.args.self.now (sym (ap (λ s. list_any (bytes_eq c.args.name.now) s.installed) c.self.view_is) ∙ free)
