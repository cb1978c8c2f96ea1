use Rattle.std.proofs.Common.{◌≡◌, ◌<◌, ◌≤◌, length, take, refl, arith}
use Rattle.std.proofs.lemmas.List.{length-take-le}
use Rattle.plugd.proofs.CoordinatorLemmas.{is_same}
use Rattle.plugd.proofs.ReadLemmas.{piece_err, piece_ok, source_failed, input_ended, nothing_read, broken_piece, broken_close, long_piece, reads_piece}
use Rattle.plugd.proofs.play.play_piece.Goals as goal

pub returns-in-Err : goal.returns-in-Err
returns-in-Err g c = record {
  same = is_same _;
  plays = piece_err c.args.room c.args.session.now c.args.session.now _ _ _ (λ base start taken r full.
      source_failed g.met.C.Coordinator.may_rest c.args.room base start taken c.args.session.now _ _ _ r full c.in-Err.ensures.failed (c.in-Err.ensures.counts.cause refl) c.in-Err.ensures.counts.no_fewer);
}

pub returns-in-Ok-close : goal.returns-in-Ok-close
returns-in-Ok-close g c =
    let none : c.in-Ok.n ≡ 0 = c.if-n-eq0.true in
    let size : c.min-size.result ≤ length c.args.buf.now = omega (arith, c.min-size.ensures) in
    let some : 0 < length (take c.min-size.result c.args.buf.now) = omega (arith, length-take-le c.min-size.result c.args.buf.now size, c.min-size.ensures, c.requires.piece) in
    record {
      same = c.close.ensures.same;
      plays = piece_err c.args.room _ _ _ _ _ (λ base start taken r full.
          input_ended c.args.room base start taken _ _ _ _ _ _ _ r full (nothing_read _ c.in-Ok.n _ _ none c.in-Ok.ensures.took) c.in-Ok.ensures.counts.no_fewer
          (λ xs is. c.in-Ok.ensures.ended none some xs is) c.in-Ok-close.ensures.closes refl refl);
    }

pub returns-in-Err-close : goal.returns-in-Err-close
returns-in-Err-close g c =
    let none : c.in-Ok.n ≡ 0 = c.if-n-eq0.true in
    let size : c.min-size.result ≤ length c.args.buf.now = omega (arith, c.min-size.ensures) in
    let some : 0 < length (take c.min-size.result c.args.buf.now) = omega (arith, length-take-le c.min-size.result c.args.buf.now size, c.min-size.ensures, c.requires.piece) in
    record {
      same = c.close.ensures.same;
      plays = piece_err c.args.room _ _ _ _ _ (λ base start taken r full.
          broken_close c.args.room base start taken _ _ _ _ _ _ _ _ r full (nothing_read _ c.in-Ok.n _ _ none c.in-Ok.ensures.took) c.in-Ok.ensures.counts.no_fewer
          (λ xs is. c.in-Ok.ensures.ended none some xs is) c.in-Err-close.ensures.closes refl refl);
    }

pub returns-in-Err-play_bytes : goal.returns-in-Err-play_bytes
returns-in-Err-play_bytes g c =
    let less : c.min-kept.result ≤ c.in-Ok.n = omega (arith, c.min-kept.ensures) in
    let fits : c.min-kept.result ≤ c.args.room = omega (arith, c.min-kept.ensures) in
    record {
      same = c.play_bytes.ensures.same;
      plays = piece_err c.args.room _ _ _ _ _ (λ base start taken r full.
          broken_piece c.args.room base start taken c.read.new.buf c.in-Ok.n c.min-kept.result _ _ _ _ _ _ _ _ r full fits less c.in-Ok.ensures.took c.in-Ok.ensures.counts.no_fewer
          c.in-Err-play_bytes.ensures.plays refl refl);
    }

pub returns-then-kept-n : goal.returns-then-kept-n
returns-then-kept-n g c =
    let fits : c.in-Ok.n ≤ length c.read.new.buf = omega (arith, c.in-Ok.ensures.count, c.read.auto.buf) in
    record {
      same = c.play_bytes.ensures.same;
      plays = piece_err c.args.room _ _ _ _ _ (λ base start taken r full.
          long_piece g.met.C.Coordinator.may_rest base start taken c.read.new.buf c.in-Ok.n c.min-kept.result c.args.room _ _ _ _ _ _ _ r c.if-kept-n.true c.min-kept.ensures fits c.in-Ok.ensures.took c.in-Ok.ensures.counts.no_fewer
          c.in_default.ensures.plays refl refl full);
    }

pub returns : goal.returns
returns g c =
    let same : c.min-kept.result ≡ c.in-Ok.n = omega (arith, c.min-kept.ensures, c.if-kept-n.false) in
    let fits : c.in-Ok.n ≤ length c.read.new.buf = omega (arith, c.in-Ok.ensures.count, c.read.auto.buf) in
    record {
      same = c.play_bytes.ensures.same;
      plays = piece_ok c.args.room _ _ c.in-Ok.n (take c.in-Ok.n c.read.new.buf) _ _ (omega (arith, c.if-n-eq0.false)) (omega (arith, same, c.min-kept.ensures)) (length-take-le c.in-Ok.n c.read.new.buf fits) (λ base start taken r full.
          reads_piece base start taken c.read.new.buf c.in-Ok.n c.min-kept.result _ _ _ _ _ _ _ r same c.in-Ok.ensures.took c.in-Ok.ensures.counts.no_fewer c.in_default.ensures.plays refl refl);
    }
