use Rattle.std.proofs.Common.{◌≡◌, ◌+◌, ◌-◌, ◌++◌, List, length, take, drop, sym, ap, subst, arith}
use Rattle.std.specs.Option.{option_copied}
use Rattle.std.proofs.lemmas.List.{take_all}
use Rattle.row_format.specs.declared.change.Change.{Change}
use Rattle.live_tables.specs.Places.{Tells, WalksBack}
use Rattle.live_tables.proofs.TrailLemmas.{back_itself, back_on, told_on, own_parts, own_whole}
use Rattle.live_tables.proofs.trail.Trail.walk_back.Goals as goal

pub loop-i-init : goal.loop-i-init
loop-i-init c =
    let own = c.args.own.now in
    let cs = c.args.self.now.changes in
    record {
      within = omega arith;
      place = omega arith;
      walked = back_itself c.args.name.now c.args.self.now.tables (cs ++ own) (cs ++ take (length own) own) c.args.key c.args.place (ap (λ l. cs ++ l) (sym (take_all (length own) own (omega arith))));
    }

pub returns-in-Ok-clause-told : goal.returns-in-Ok-clause-told
returns-in-Ok-clause-told c =
    let i = c.loop-i.i - 1 in
    let next : c.loop-i.i ≡ i + 1 = omega (arith, c.loop-i-test.true) in
    let n = c.args.name.now in
    let ts = c.args.self.now.tables in
    let cs = c.args.self.now.changes in
    let own = c.args.own.now in
    let change = c.index-own-i.result in
    let parts = own_parts cs own i change (omega (arith, c.loop-i-test.true, c.loop-i.invariant.within)) c.index-own-i.is in
    told_on n ts (cs ++ own) (cs ++ take (i + 1) own) (drop (i + 1) own) c.args.key c.args.place c.loop-i.spot (option_copied c.in-Ok.found) (own_whole cs own (i + 1))
    (subst (λ k. WalksBack n ts (cs ++ own) (cs ++ take k own) c.args.key c.args.place c.loop-i.spot) next c.loop-i.invariant.walked)
    (subst (λ (l : List Change). Tells n ts l c.args.key c.loop-i.spot (option_copied c.in-Ok.found)) (sym parts) c.in-Ok.ensures.told)

pub loop-i-preserved : goal.loop-i-preserved
loop-i-preserved c =
    let i = c.loop-i.i - 1 in
    let next : c.loop-i.i ≡ i + 1 = omega (arith, c.loop-i-test.true) in
    let n = c.args.name.now in
    let ts = c.args.self.now.tables in
    let cs = c.args.self.now.changes in
    let own = c.args.own.now in
    let change = c.index-own-i.result in
    let parts = own_parts cs own i change (omega (arith, c.loop-i-test.true, c.loop-i.invariant.within)) c.index-own-i.is in
    record {
      within = omega (arith, c.loop-i.invariant.within);
      place = omega (arith, c.loop-i.invariant.place, c.in-Err.ensures.within, c.loop-i-test.true);
      walked =
          back_on n ts (cs ++ own) (cs ++ take (i + 1) own) (cs ++ take i own) (drop (i + 1) own) c.args.key c.args.place c.loop-i.spot c.in-Err.before (own_whole cs own (i + 1))
          (subst (λ k. WalksBack n ts (cs ++ own) (cs ++ take k own) c.args.key c.args.place c.loop-i.spot) next c.loop-i.invariant.walked)
          (subst (λ (l : List Change). WalksBack n ts l (cs ++ take i own) c.args.key c.loop-i.spot c.in-Err.before) (sym parts) c.in-Err.ensures.stood);
    }
