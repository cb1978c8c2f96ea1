use Rattle.std.proofs.Common.{◌≡◌, ◌+◌, ◌<◌, ◌≤◌, true, get_or, length, take, drop, sym, ap, subst, ◌∙◌, arith}
use Rattle.std.proofs.lemmas.Bool.{both_ways}
use Rattle.row_locks.specs.declared.marks.Marks.{Marks}
use Rattle.row_locks.specs.Modes.{are_in_conflict}
use Rattle.row_locks.specs.Queues.{among}
use Rattle.row_locks.specs.Inside.{is_behind, AreMarks, Adds}
use Rattle.row_locks.proofs.RequestLemmas.{marked_at}
use Rattle.row_locks.proofs.MarkLemmas.{adds_miss, step_hit}
use Rattle.row_locks.proofs.marks.Marks.add_behind.Goals as goal
use Rattle.row_locks.proofs.marks.Marks.add_behind.Goals.{then-not-index+then-conflicts+in_ok-mark, else-not-index}
use Rattle.row_locks.proofs.marks.Marks.add_behind.Goals.{else-not-index-via-then-not-index+else-conflicts, else-not-index-via-else-not-index}

pub loop-k-preserved : goal.loop-k-preserved
loop-k-preserved c =
    let other = c.args.other.now in
    let waits = c.args.waits.now in
    let from = c.args.from in
    let k = c.loop-k.k in
    let x = c.index-waits-k.result in
    let lt : k < length waits = omega arith in
    let le : from ≤ k = omega arith in
    let old = c.args.self.now.reached.items in
    let reached = c.loop-k.self.reached.items in
    let marks = c.loop-k.invariant.marks in
    let adds = c.loop-k.invariant.adds in
    let at = c.index-waits-k.is in
    let told : c.index.result.now ≡ among (get_or waits k x).owner reached =
    c.index.ensures ∙ ap (λ l. get_or l k c.index.result.now) marks.told ∙ marked_at reached waits k x c.index.result.now lt in
    let more = is_behind other (drop from (take (k + 1) waits)) in
    elim c.if-not-index.branch [
      | then-not-index+then-conflicts+in_ok-mark w ↦
          let new = w.mark.new.self in
          let step = step_hit other from k waits x old reached new.reached.items c.loop-k.self.waiting.items new.waiting.items c.requires.once le lt at
          (sym told ∙ w.if-not-index.true) (sym w.conflicts.ensures ∙ w.if-conflicts.true) w.in_ok-mark.ensures.reached w.in_ok-mark.ensures.waiting marks adds in
          record {
            marks = subst (λ (m : Marks). AreMarks waits m.reached.items m.waiting.items) (sym w.self-is) step.0;
            adds = subst (λ (m : Marks). Adds more old m.reached.items) (sym w.self-is) step.1;
          }
      | else-not-index w ↦
          let marked : are_in_conflict other (get_or waits k x) ≡ true → among (get_or waits k x).owner reached ≡ true = λ hit. elim w.else-not-index.branch [
            | else-not-index-via-then-not-index+else-conflicts v ↦
                absurd (both_ways (are_in_conflict other x) (sym v.conflicts.ensures ∙ v.if-conflicts.false) (ap (are_in_conflict other) at ∙ hit))
            | else-not-index-via-else-not-index v ↦ sym told ∙ v.if-not-index.false
          ] in
          record {
            marks = subst (λ (m : Marks). AreMarks waits m.reached.items m.waiting.items) (sym w.self-is) marks;
            adds = subst (λ (m : Marks). Adds more old m.reached.items) (sym w.self-is) (adds_miss other from k waits x old reached le lt marked adds);
          }
    ]
