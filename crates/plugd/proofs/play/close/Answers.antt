use Rattle.std.proofs.Common.{rules, ◌≡◌, ◌≢◌, length, arith}
use Rattle.std.specs.Vec.{vec_len}
use Rattle.plugd.proofs.CoordinatorLemmas.{is_same}
use Rattle.plugd.proofs.PieceLemmas.{closed, closed_none}
use Rattle.plugd.proofs.play.close.Goals as goal

pub returns-then-is_empty : goal.returns-then-is_empty
returns-then-is_empty g c =
    let size : vec_len c.args.session.now.front ≡ length c.args.session.now.front.items = search rules in
    let none : vec_len c.args.session.now.front ≡ 0 = search rules in
    record { same = is_same _; closes = closed_none g.met.C.Coordinator.may_rest c.args.session.now _ _ (omega (arith, size, none)) }

pub returns : goal.returns
returns g c =
    let size : vec_len c.args.session.now.front ≡ length c.args.session.now.front.items = search rules in
    let some : vec_len c.args.session.now.front ≢ 0 = search rules in
    record {
      same = c.play_bytes.ensures.same;
      closes = closed g.met.C.Coordinator.may_rest c.args.session.now c.play_bytes.new.session c.play_bytes.result _ (omega (arith, size, some)) c.play_bytes.ensures.plays;
    }
