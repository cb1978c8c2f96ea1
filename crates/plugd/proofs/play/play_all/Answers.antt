use Rattle.std.proofs.Common.{[], ◌++◌, refl, arith, length-append}
use Rattle.plugd.proofs.CoordinatorLemmas.{is_same, stays_same}
use Rattle.plugd.proofs.play.play_all.Goals as goal

pub loop-n-init : goal.loop-n-init
loop-n-init g c = (λ base start r. ([], refl, r), c.requires.piece, is_same _)

pub play_piece-requires-clause-reading : goal.play_piece-requires-clause-reading
play_piece-requires-clause-reading g c =
    let r = c.loop-n.invariant.0 c.requires.reading.0 c.requires.reading.1 c.requires.reading.2 in
    (c.requires.reading.0, c.requires.reading.1, r.0, r.2, r.1)

pub overflow_sub-room : goal.overflow_sub-room
overflow_sub-room g c =
    let r = c.loop-n.invariant.0 c.requires.reading.0 c.requires.reading.1 c.requires.reading.2 in
    (c.in-Ok.ensures.plays.ok c.requires.reading.0 c.requires.reading.1 r.0 r.2 r.1 c.in-Ok.n refl).1

pub loop-n-smaller : goal.loop-n-smaller
loop-n-smaller g c =
    let r = c.loop-n.invariant.0 c.requires.reading.0 c.requires.reading.1 c.requires.reading.2 in
    let so = c.in-Ok.ensures.plays.ok c.requires.reading.0 c.requires.reading.1 r.0 r.2 r.1 c.in-Ok.n refl in
    omega (arith, so.0, so.1)

pub loop-n-preserved : goal.loop-n-preserved
loop-n-preserved g c = (
  λ base start r.
      let so = c.loop-n.invariant.0 base start r in
      let on = c.in-Ok.ensures.plays.ok base start so.0 so.2 so.1 c.in-Ok.n refl in
      (so.0 ++ on.2.0, omega (arith, so.1, on.1, on.2.1, length-append so.0 on.2.0), on.2.2),
  omega (arith, c.loop-n.invariant.1, c.play_piece.auto.buf),
  stays_same _ _ _ c.loop-n.invariant.2 c.in-Ok.ensures.same,
)

pub returns-in-Err : goal.returns-in-Err
returns-in-Err g c = record {
  same = stays_same _ _ _ c.loop-n.invariant.2 c.in-Err.ensures.same;
  plays = record {
    ends = λ base start r.
        let so = c.loop-n.invariant.0 base start r in
        c.in-Err.ensures.plays.err base start so.0 so.2 so.1 c.in-Err.ending refl;
  };
}
