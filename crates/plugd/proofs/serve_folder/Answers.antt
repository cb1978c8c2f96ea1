use Rattle.std.proofs.Common.{rules, ◌≡◌, ◌∷◌, [], refl, ap}
use Rattle.journal_engine.specs.declared.engine.JournalEngine.{the_code}
use Rattle.journal_engine.specs.Engine.{kind_of}
use Rattle.plugd.proofs.BoxLemmas.{shelf_of_box}
use Rattle.plugd.proofs.serve_folder.Goals as goal

pub run-outcome-requires : goal.run-outcome-requires
run-outcome-requires c =
    let items : c.push.new.self.items ≡ c.into_dyn_box.result ∷ [] = search rules in
    record { shelf = shelf_of_box _ c.push.new.self.items c.into_dyn_box.result _ _ c.in-Ok-new-3.engine.value c.in-Ok-new-2.engine items c.into_dyn_box.ensures.1 (λ x. refl) (λ a b. the_code.inj a b) (ap kind_of c.in-Ok-new-3.ensures.ok) c.in-Ok-new-2.ensures }
