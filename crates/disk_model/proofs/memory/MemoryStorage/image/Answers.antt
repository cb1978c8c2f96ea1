use Rattle.std.proofs.Common.{List, ℕ, sym, subst}
use Rattle.std.proofs.lemmas.Result.{IfOk-weaker}
use Rattle.disk_model.specs.File.{IsImage}
use Rattle.disk_model.specs.Memory.{memory_disk}
use Rattle.disk_model.proofs.ImageLemmas.{image_is, whole_is, synced_is, no_byte_is, each_byte_is, holding_bytes, chosen_bytes, fitting_for, chosen_for}
use Rattle.disk_model.proofs.memory.MemoryStorage.image.Goals as goal

pub chosen-requires : goal.chosen-requires
chosen-requires c = fitting_for c.args.self.now c.args.moment _ _ _ c.deref-2.ensures.value c.deref.ensures.value c.calls_until-calls.ensures

pub returns-clause-image : goal.returns-clause-image
returns-clause-image c =
    let files = chosen_for c.args.self.now c.args.moment _ _ _ c.deref-2.ensures.value c.deref.ensures.value c.calls_until-calls.ensures c.args.choice _ c.in_ok-files.ensures in
    IfOk-weaker c.with_files.result _ _
    (λ made holding. λ file. subst (λ (l : List ℕ). IsImage ((memory_disk c.args.self.now).at c.args.moment file) l) (sym (holding_bytes _ _ made file holding files)) (image_is c.args.self.now c.args.moment c.args.choice file))
    c.with_files.ensures.holding

pub returns-clause-whole : goal.returns-clause-whole
returns-clause-whole c = λ whole.
    let files = chosen_for c.args.self.now c.args.moment _ _ _ c.deref-2.ensures.value c.deref.ensures.value c.calls_until-calls.ensures c.args.choice _ c.in_ok-files.ensures in
    IfOk-weaker c.with_files.result _ _
    (λ made holding file. chosen_bytes c.args.self.now c.args.moment c.args.choice _ _ made file _ whole holding files (whole_is c.args.self.now c.args.moment file))
    c.with_files.ensures.holding

pub returns-clause-synced : goal.returns-clause-synced
returns-clause-synced c = λ synced.
    let files = chosen_for c.args.self.now c.args.moment _ _ _ c.deref-2.ensures.value c.deref.ensures.value c.calls_until-calls.ensures c.args.choice _ c.in_ok-files.ensures in
    IfOk-weaker c.with_files.result _ _
    (λ made holding file. chosen_bytes c.args.self.now c.args.moment c.args.choice _ _ made file _ synced holding files (synced_is c.args.self.now c.args.moment file))
    c.with_files.ensures.holding

pub returns-clause-no_byte : goal.returns-clause-no_byte
returns-clause-no_byte c = λ none.
    let files = chosen_for c.args.self.now c.args.moment _ _ _ c.deref-2.ensures.value c.deref.ensures.value c.calls_until-calls.ensures c.args.choice _ c.in_ok-files.ensures in
    IfOk-weaker c.with_files.result _ _
    (λ made holding file. chosen_bytes c.args.self.now c.args.moment c.args.choice _ _ made file _ none holding files (no_byte_is c.args.self.now c.args.moment file))
    c.with_files.ensures.holding

pub returns-clause-each_byte : goal.returns-clause-each_byte
returns-clause-each_byte c = λ n all less.
    let files = chosen_for c.args.self.now c.args.moment _ _ _ c.deref-2.ensures.value c.deref.ensures.value c.calls_until-calls.ensures c.args.choice _ c.in_ok-files.ensures in
    IfOk-weaker c.with_files.result _ _
    (λ made holding file. chosen_bytes c.args.self.now c.args.moment c.args.choice _ _ made file _ all holding files (each_byte_is c.args.self.now c.args.moment n file less))
    c.with_files.ensures.holding
