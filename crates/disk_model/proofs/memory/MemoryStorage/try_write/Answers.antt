use Rattle.std.proofs.Common.{◌≡◌, refl, rules, ap, sym, ◌∙◌, List, ℕ}
use Rattle.disk_model.specs.File.{written}
use Rattle.disk_model.specs.Held.{held, bytes_in, put_in}
use Rattle.disk_model.proofs.Replay.{holds_more, fits_within}
use Rattle.disk_model.proofs.memory.MemoryStorage.try_write.Goals as goal

pub invariant_of-self-in_default : goal.invariant_of-self-in_default
invariant_of-self-in_default c =
    let it = c.args.self.now in
    let asked : c.in_ok-to_vec.field-0.items ≡ c.args.bytes.now = search rules in
    let made = c.in_default.ensures.ok ∙ ap (λ (l : List ℕ). put_in c.args.file (written c.args.at l (bytes_in (held it.files.items) c.args.file)) (held it.files.items)) (sym asked) in
    let holds = holds_more _ _ _ _ _ _ _ (record { numbered = it.numbered; replays = it.replays; within = it.within }) c.in_ok-push.ensures.items refl (fits_within _ _ c.requires) made in
    record { numbered = holds.numbered; few = it.few; replays = holds.replays; within = holds.within }
