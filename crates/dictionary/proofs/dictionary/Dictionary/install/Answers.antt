use Rattle.std.proofs.Common.{◌≡◌, ℕ, List, false, [], ◌∷◌, ◌++◌, refl, ap, ◌∙◌, sym}
use Rattle.std.specs.Str.{bytes_eq}
use Rattle.std.specs.List.{list_any}
use Rattle.row_format.specs.declared.change.Change.TheVariants.{Install}
use Rattle.dictionary.specs.contracts.dictionary.Dictionary.{the_view}
use Rattle.dictionary.proofs.StepLemmas.{steps-on, kept-installed, steps-installed}
use Rattle.dictionary.proofs.dictionary.Dictionary.install.Goals as goal

pub returns-then-is_among-clause-ok : goal.returns-then-is_among-clause-ok
returns-then-is_among-clause-ok c =
    let there = sym (c.is_among.ensures ∙ ap (list_any (bytes_eq c.args.name.now)) c.deref.ensures.value) ∙ c.if-is_among.true in
    kept-installed c.args.name.now c.args.self.now (sym (ap (λ s. list_any (bytes_eq c.args.name.now) s.installed) c.self.view_is) ∙ there)

pub returns-clause-ok : goal.returns-clause-ok
returns-clause-ok c =
    let free : list_any (bytes_eq c.args.name.now) c.self.inside.installed.items ≡ false =
    sym (c.is_among.ensures ∙ ap (list_any (bytes_eq c.args.name.now)) c.deref.ensures.value) ∙ c.if-is_among.false in
    let last : c.push.new.self.items ≡ c.self.inside.installed.items ++ c.args.name.now ∷ [] =
    ◌∙◌ {A = List (List ℕ)} c.in_ok-push.ensures.items (ap (λ n. c.self.inside.installed.items ++ n ∷ []) c.in_ok-copy.ensures) in
    steps-on (Install c.args.name.now) (the_view c.self.inside) c.args.self.now c.self.view_is
    (steps-installed c.args.name.now (the_view c.self.inside) _ free refl last c.raise.ensures)
