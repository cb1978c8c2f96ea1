use Rattle.std.proofs.Common.{arith, rules}
use Rattle.std.proofs.lemmas.List.{take_rest}
use Rattle.outer_io.proofs.EndsLemmas.{put_more, put_front}
use Rattle.outer_io.proofs.writing.write_all.Goals as goal

pub returns-in_err-at-clause-err : goal.returns-in_err-at-clause-err
returns-in_err-at-clause-err g c =
    let front = put_front c.args.bytes.now c.loop-at.at _ _ _ c.loop-at.invariant.put c.in_err-at.ensures.failed in
    search rules

pub loop-at-preserved : goal.loop-at-preserved
loop-at-preserved g c = record {
  within = omega (arith, c.in_ok-at.ensures.count, take_rest c.args.bytes.now c.loop-at.at);
  put = put_more _ _ _ _ _ _ _ (take_rest c.args.bytes.now c.loop-at.at) c.loop-at.invariant.put c.in_ok-at.ensures.put;
  no_fewer = omega (arith, c.loop-at.invariant.no_fewer, c.write.ensures.counts.no_fewer);
}
