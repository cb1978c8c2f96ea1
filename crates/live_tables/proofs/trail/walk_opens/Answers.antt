use Rattle.std.proofs.Common.{◌≡◌, ◌+◌, ◌-◌, ◌<◌, ◌++◌, List, length, take, drop, length-append, sym, ap, subst, arith}
use Rattle.std.specs.Option.{option_copied}
use Rattle.std.proofs.lemmas.List.{take_all}
use Rattle.row_format.specs.declared.change.Change.{Change}
use Rattle.engine_api.specs.States.{changes_in}
use Rattle.live_tables.specs.Places.{Tells, WalksBack}
use Rattle.live_tables.proofs.TrailLemmas.{back_itself, back_on, told_on, opens_parts, opens_whole, opens_length, opens_within}
use Rattle.live_tables.proofs.trail.walk_opens.Goals as goal

pub loop-i-init : goal.loop-i-init
loop-i-init c =
    let ps = c.args.opens.now in
    let cs = c.args.done.now in
    let same = take_all (length ps) ps (omega arith) in
    record {
      within = omega arith;
      place = omega (arith, ap (λ l. length (changes_in l)) same);
      walked = back_itself c.args.name.now c.args.tables.now (cs ++ changes_in ps) (cs ++ changes_in (take (length ps) ps)) c.args.key c.args.place (ap (λ l. cs ++ changes_in l) (sym same));
    }

pub walk_back-requires-clause-few : goal.walk_back-requires-clause-few
walk_back-requires-clause-few c =
    let i = c.loop-i.i - 1 in
    let cs = c.args.done.now in
    let ps = c.args.opens.now in
    let lt : i < length ps = omega (arith, c.loop-i-test.true, c.loop-i.invariant.within) in
    let sizes = opens_length ps i c.index-opens-i.result c.changes.result.now lt c.index-opens-i.is c.changes.ensures in
    let all = opens_within ps (i + 1) in
    let front = length-append cs (changes_in (take i ps)) in
    omega (arith, sizes, all, front, c.requires.few)

pub returns-in-Ok-clause-told : goal.returns-in-Ok-clause-told
returns-in-Ok-clause-told c =
    let i = c.loop-i.i - 1 in
    let next : c.loop-i.i ≡ i + 1 = omega (arith, c.loop-i-test.true) in
    let n = c.args.name.now in
    let ts = c.args.tables.now in
    let cs = c.args.done.now in
    let ps = c.args.opens.now in
    let parts = opens_parts cs ps i c.index-opens-i.result c.changes.result.now (omega (arith, c.loop-i-test.true, c.loop-i.invariant.within)) c.index-opens-i.is c.changes.ensures in
    told_on n ts (cs ++ changes_in ps) (cs ++ changes_in (take (i + 1) ps)) (changes_in (drop (i + 1) ps)) c.args.key c.args.place c.loop-i.spot (option_copied c.in-Ok.found) (opens_whole cs ps (i + 1))
    (subst (λ k. WalksBack n ts (cs ++ changes_in ps) (cs ++ changes_in (take k ps)) c.args.key c.args.place c.loop-i.spot) next c.loop-i.invariant.walked)
    (subst (λ (l : List Change). Tells n ts l c.args.key c.loop-i.spot (option_copied c.in-Ok.found)) (sym parts) c.in-Ok.ensures.told)

pub loop-i-preserved : goal.loop-i-preserved
loop-i-preserved c =
    let i = c.loop-i.i - 1 in
    let next : c.loop-i.i ≡ i + 1 = omega (arith, c.loop-i-test.true) in
    let n = c.args.name.now in
    let ts = c.args.tables.now in
    let cs = c.args.done.now in
    let ps = c.args.opens.now in
    let lt : i < length ps = omega (arith, c.loop-i-test.true, c.loop-i.invariant.within) in
    let parts = opens_parts cs ps i c.index-opens-i.result c.changes.result.now lt c.index-opens-i.is c.changes.ensures in
    let sizes = opens_length ps i c.index-opens-i.result c.changes.result.now lt c.index-opens-i.is c.changes.ensures in
    let here = ap (λ k. length (changes_in (take k ps))) next in
    record {
      within = omega (arith, c.loop-i.invariant.within);
      place = omega (arith, c.loop-i.invariant.place, c.in-Err.ensures.within, sizes, here);
      walked =
          back_on n ts (cs ++ changes_in ps) (cs ++ changes_in (take (i + 1) ps)) (cs ++ changes_in (take i ps)) (changes_in (drop (i + 1) ps)) c.args.key c.args.place c.loop-i.spot c.in-Err.before (opens_whole cs ps (i + 1))
          (subst (λ k. WalksBack n ts (cs ++ changes_in ps) (cs ++ changes_in (take k ps)) c.args.key c.args.place c.loop-i.spot) next c.loop-i.invariant.walked)
          (subst (λ (l : List Change). WalksBack n ts l (cs ++ changes_in (take i ps)) c.args.key c.loop-i.spot c.in-Err.before) (sym parts) c.in-Err.ensures.stood);
    }
