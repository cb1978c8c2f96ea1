use Rattle.std.proofs.Common.{◌+◌}
use Rattle.std.proofs.lemmas.List.{take_rest}
use Rattle.disk_model.proofs.ImageLemmas.{so_far_first, so_far_more, so_far_all, call_fits}
use Rattle.disk_model.proofs.images.chosen.Goals as goal

pub loop-place-init : goal.loop-place-init
loop-place-init c = so_far_first _ _ _ _ c.requires c.in_ok-files.ensures

pub replay_next-requires : goal.replay_next-requires
replay_next-requires c = λ on. call_fits _ _ _ _ _ _ _ _ c.loop-place.invariant c.loop-place-test.true c.index-calls-place.is (take_rest c.args.calls.now (c.loop-place.place + 1)) on

pub loop-place-preserved : goal.loop-place-preserved
loop-place-preserved c = so_far_more _ _ _ _ _ _ _ _ _ _ c.loop-place.invariant c.loop-place-test.true c.index-calls-place.is (take_rest c.args.calls.now (c.loop-place.place + 1)) c.in_ok-left.ensures.files c.in_ok-left.ensures.left

pub returns : goal.returns
returns c = so_far_all _ _ _ _ _ _ c.loop-place.invariant c.loop-place-test.false
