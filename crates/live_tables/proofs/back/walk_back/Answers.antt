use Rattle.std.proofs.Common.{◌≡◌, ◌+◌, ◌-◌, subst, arith}
use Rattle.live_tables.proofs.BackLemmas.{Walked, walk_goes_on, walk_tells}
use Rattle.std.specs.Option.{option_copied}
use Rattle.live_tables.proofs.back.walk_back.Goals as goal

pub returns-in-Ok-clause-told : goal.returns-in-Ok-clause-told
returns-in-Ok-clause-told c = λ ts came.
    let i = c.loop-i.i - 1 in
    let next : c.loop-i.i ≡ i + 1 = omega (arith, c.loop-i-test.true) in
    let n = c.args.name.now in
    let cs = c.args.changes.now in
    walk_tells n cs c.args.at.place c.args.at.count i c.loop-i.spot.place c.loop-i.spot.count c.index-changes-i.result (option_copied c.in-Ok.found) (omega (arith, c.loop-i-test.true, c.loop-i.invariant.within)) c.index-changes-i.is
    (subst (λ k. Walked n cs c.args.at.place c.args.at.count k c.loop-i.spot.place c.loop-i.spot.count) next c.loop-i.invariant.walked)
    c.in-Ok.ensures.told ts came

pub loop-i-preserved : goal.loop-i-preserved
loop-i-preserved c =
    let i = c.loop-i.i - 1 in
    let next : c.loop-i.i ≡ i + 1 = omega (arith, c.loop-i-test.true) in
    let n = c.args.name.now in
    let cs = c.args.changes.now in
    record {
      within = omega (arith, c.loop-i.invariant.within);
      place = omega (arith, c.loop-i.invariant.place, c.in-Err.ensures.within, c.loop-i-test.true);
      walked =
          walk_goes_on n cs c.args.at.place c.args.at.count i c.loop-i.spot.place c.loop-i.spot.count c.in-Err.before.place c.in-Err.before.count c.index-changes-i.result
          (omega (arith, c.loop-i-test.true, c.loop-i.invariant.within)) c.index-changes-i.is
          (subst (λ k. Walked n cs c.args.at.place c.args.at.count k c.loop-i.spot.place c.loop-i.spot.count) next c.loop-i.invariant.walked)
          c.in-Err.ensures.stood;
    }
