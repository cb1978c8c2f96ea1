use Rattle.std.proofs.Common.{◌≡◌, ◌∷◌, [], ◌∙◌, sym, ap, subst, arith, sum_by}
use Rattle.std.specs.Prelude.{reverse}
use Rattle.std.proofs.lemmas.List.{reverse-append}
use Rattle.std.proofs.lemmas.List.Sums.{sum_by-cons}
use Rattle.log_tables.specs.Changes.{after_changes}
use Rattle.live_tables.specs.Folds.{change_bytes}
use Rattle.live_tables.specs.Live.{CanMake}
use Rattle.live_tables.proofs.TablesLemmas.{can_make_rest}
use Rattle.live_tables.proofs.tables.make_some.Goals as goal

pub loop-change-preserved : goal.loop-change-preserved
loop-change-preserved c =
    let change = c.in-Some.change in
    let ts = c.loop-change.tables.items in
    let us = c.make_counted.new.tables.items in
    let rest = reverse c.pop.new.self.items in
    let it = c.loop-change.invariant in
    let flipped : reverse c.loop-change.changes.items ≡ change ∷ rest = ap reverse c.in-Some.ensures.items ∙ reverse-append c.pop.new.self.items (change ∷ []) in
    let can : CanMake ts (change ∷ rest) c.loop-change.committed = subst (λ l. CanMake ts l c.loop-change.committed) flipped it.rest in
    let bytes = ap (sum_by change_bytes) flipped ∙ sum_by-cons change_bytes change rest in
    record {
      same = ap (after_changes rest) c.in-Ok.ensures.ok ∙ sym (ap (λ l. after_changes l ts) flipped) ∙ it.same;
      capacity = c.in-Some.ensures.capacity ∙ it.capacity;
      fewer = omega (arith, c.in-Some.ensures.len, it.fewer);
      rest = can_make_rest change rest ts us c.loop-change.committed c.make_counted.new.committed c.in-Ok.more can c.in-Ok.ensures.ok c.in-Ok.ensures.counted c.in-Ok.ensures.added c.in-Ok.ensures.within;
      sum = omega (arith, it.sum, bytes, c.in-Ok.ensures.added);
      within = omega (arith, it.within, c.in-Ok.ensures.within);
    }
