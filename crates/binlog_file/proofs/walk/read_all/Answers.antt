-- Piece after piece is read, until no transaction stands behind those that were read.
use Rattle.std.proofs.Common.{◌≡◌, ◌∙◌, length, refl, sym, ap, arith}
use Rattle.disk_model.proofs.LookingLemmas.{looks_none, looks_more, looks_both}
use Rattle.binlog_file.specs.declared.fault.BinlogFault.TheVariants.{Device, NotAVolume}
use Rattle.binlog_file.specs.Opening.{Further}
use Rattle.binlog_file.proofs.LoggedLemmas.{header_checksum_is}
use Rattle.binlog_file.proofs.WalkLemmas.{some_is, piece_is, not_device, same_fault, reading_first, reading_more, reading_end, reading_short, giving_first, giving_more, giving_end, full, less_left, small_grown, call_failed, rose_behind}
use Rattle.binlog_file.proofs.walk.read_all.Goals as goal

pub loop-piece-init : goal.loop-piece-init
loop-piece-init g c = record {
  looks = looks_none _;
  reading = reading_first _ _ _ refl refl (sym header_checksum_is);
  giving = giving_first _ _ refl refl (sym header_checksum_is);
  small = omega (arith, c.in_ok-piece.ensures.len);
}

pub returns-in_err-n-clause-looks : goal.returns-in_err-n-clause-looks
returns-in_err-n-clause-looks g c = looks_more _ _ _ _ _ c.loop-piece.invariant.looks c.read_piece.ensures.called

pub returns-in_err-n-clause-device : goal.returns-in_err-n-clause-device
returns-in_err-n-clause-device g c = λ is. call_failed _ _ _ _ c.loop-piece.invariant.looks c.in_err-n.ensures.called refl

pub returns-in_err-needed-clause-looks : goal.returns-in_err-needed-clause-looks
returns-in_err-needed-clause-looks g c = looks_more _ _ _ _ _ c.loop-piece.invariant.looks c.read_piece.ensures.called

pub returns-in_err-needed-clause-device : goal.returns-in_err-needed-clause-device
returns-in_err-needed-clause-device g c = λ is. absurd (not_device _ c.from_residual-in_err-needed.ensures.1 is)

pub returns-in_default-clause-looks : goal.returns-in_default-clause-looks
returns-in_default-clause-looks g c = looks_more _ _ _ _ _ c.loop-piece.invariant.looks c.read_piece.ensures.called

pub returns-in_default-clause-walked : goal.returns-in_default-clause-walked
returns-in_default-clause-walked g c =
    reading_end _ _ _ _ _ _ _ _ _ _ _ _ _ _ c.loop-piece.invariant.looks c.loop-piece.invariant.reading refl
    (piece_is _ _ _ _ _ _ _ _ _ c.in_ok-n.ensures.value c.read_piece.ensures.len c.deref.ensures.value (omega (arith, c.len.ensures)) refl refl) c.in_ok-needed.ensures.walks c.in_default.is

pub returns-in_default-clause-given : goal.returns-in_default-clause-given
returns-in_default-clause-given g c = giving_end _ _ _ _ _ _ _ _ c.loop-piece.invariant.giving c.in_ok-needed.ensures.walks

pub returns-in_err-grow-clause-looks : goal.returns-in_err-grow-clause-looks
returns-in_err-grow-clause-looks g c = looks_both _ _ _ (looks_more _ _ _ _ _ c.loop-piece.invariant.looks c.read_piece.ensures.called) c.grow.ensures.looks

pub returns-in_err-grow-clause-device : goal.returns-in_err-grow-clause-device
returns-in_err-grow-clause-device g c = λ is.
    let looks = looks_more _ _ _ _ _ c.loop-piece.invariant.looks c.read_piece.ensures.called in
    rose_behind _ _ _ _ looks c.in_err-grow.ensures.device (same_fault _ _ _ refl c.from_residual-in_err-grow.ensures.1 Device is)

pub returns-in_err-grow-clause-no_refusal : goal.returns-in_err-grow-clause-no_refusal
returns-in_err-grow-clause-no_refusal g c file is =
    c.in_err-grow.ensures.never file (same_fault _ _ _ refl c.from_residual-in_err-grow.ensures.1 (NotAVolume file) is)

pub returns-then-not-branch-clause-looks : goal.returns-then-not-branch-clause-looks
returns-then-not-branch-clause-looks g c = looks_both _ _ _ (looks_more _ _ _ _ _ c.loop-piece.invariant.looks c.read_piece.ensures.called) c.grow.ensures.looks

pub returns-then-not-branch-clause-walked : goal.returns-then-not-branch-clause-walked
returns-then-not-branch-clause-walked g c =
    let looks = looks_more _ _ _ _ _ c.loop-piece.invariant.looks c.read_piece.ensures.called in
    let last = looks_both _ _ _ looks c.grow.ensures.looks in
    reading_short _ _ _ _ _ _ _ _ _ _ _ _ _ _ _ _ c.loop-piece.invariant.looks looks c.loop-piece.invariant.reading refl
    (piece_is _ _ _ _ _ _ _ _ _ c.in_ok-n.ensures.value c.read_piece.ensures.len c.deref.ensures.value (omega (arith, c.len.ensures)) refl refl) c.in_ok-needed.ensures.walks c.in-Some.is
    (λ is_told. c.in_ok-grow.ensures.short is_told c.if-not-branch.true)

pub returns-then-not-branch-clause-given : goal.returns-then-not-branch-clause-given
returns-then-not-branch-clause-given g c = giving_end _ _ _ _ _ _ _ _ c.loop-piece.invariant.giving c.in_ok-needed.ensures.walks

pub loop-piece-smaller : goal.loop-piece-smaller
loop-piece-smaller g c =
    let further = some_is _ c.in-Some.needed (Further c.loop-piece.scan c.take_whole.new.scan _ _) c.in-Some.is c.in_ok-needed.ensures.further in
    let size : c.len.result ≡ length c.deref.result.now = omega (arith, c.len.ensures, ap length c.deref.ensures.value) in
    let held : length c.deref.result.now ≡ length c.loop-piece.piece.items = ap length c.deref.ensures.value ∙ c.read_piece.ensures.len in
    let all = full c.in_ok-n.n c.len.result c.deref.result.now further.not_last (omega (arith, c.in_ok-n.ensures.count, size, held)) size in
    let grown = c.in_ok-grow.ensures.grown c.if-not-branch.false in
    let small = small_grown _ _ _ _ _ c.loop-piece.invariant.small further.within c.read_piece.ensures.len c.in_ok-grow.ensures.bounded in
    less_left _ _ _ _ c.in-Some.needed _ further.later further.within c.loop-piece.invariant.small (all ∙ size ∙ held) further.more
    (omega (arith, grown, c.read_piece.ensures.len)) small

pub loop-piece-preserved : goal.loop-piece-preserved
loop-piece-preserved g c =
    let further = some_is _ c.in-Some.needed (Further c.loop-piece.scan c.take_whole.new.scan _ _) c.in-Some.is c.in_ok-needed.ensures.further in
    record {
      looks = looks_both _ _ _ (looks_more _ _ _ _ _ c.loop-piece.invariant.looks c.read_piece.ensures.called) c.grow.ensures.looks;
      reading = reading_more _ _ _ _ _ _ _ _ _ _ _ _ _ _ c.loop-piece.invariant.looks c.loop-piece.invariant.reading refl
          (piece_is _ _ _ _ _ _ _ _ _ c.in_ok-n.ensures.value c.read_piece.ensures.len c.deref.ensures.value (omega (arith, c.len.ensures)) refl refl) c.in_ok-needed.ensures.walks;
      giving = giving_more _ _ _ _ _ _ _ _ c.loop-piece.invariant.giving c.in_ok-needed.ensures.walks;
      small = small_grown _ _ _ _ _ c.loop-piece.invariant.small further.within c.read_piece.ensures.len c.in_ok-grow.ensures.bounded;
    }
