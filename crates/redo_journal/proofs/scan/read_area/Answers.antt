-- Piece after piece is read, until no record that fits stands behind those that were read.
use Rattle.std.proofs.Common.{◌≡◌, ◌∙◌, List, ℕ, length, max, refl, sym, ap, subst, arith}
use Rattle.disk_model.proofs.LookingLemmas.{looks_none, looks_more, looks_both, looks_cause, looks_failed, looks_told}
use Rattle.redo_journal.specs.declared.record.Record.{Record}
use Rattle.redo_journal.specs.Reading.{Follows}
use Rattle.redo_journal.proofs.ScanLemmas.{piece_is, not_device, same_fault, rose_behind, reading_first, reading_more, reading_end, reading_short, progress, full, less_left, reached_more, reached_within, follows_on}
use Rattle.redo_journal.specs.declared.fault.JournalFault.TheVariants.{Device, NotAVolume}
use Rattle.redo_journal.proofs.scan.read_area.Goals as goal

pub loop-scan-init : goal.loop-scan-init
loop-scan-init g c = record {
  looks = looks_none _;
  reading = reading_first _ _ _ _ c.new.ensures.items refl refl;
  follows = subst (λ (l : List Record). Follows c.new-index.result l) (sym c.new.ensures.items) c.new-index.ensures;
  small = omega (arith, c.in_ok-piece.ensures.len);
}

pub returns-in_err-n-clause-looks : goal.returns-in_err-n-clause-looks
returns-in_err-n-clause-looks g c = looks_more _ _ _ _ _ c.loop-scan.invariant.looks c.read_piece.ensures.called

pub returns-in_err-n-clause-device : goal.returns-in_err-n-clause-device
returns-in_err-n-clause-device g c = looks_failed _ _ _ _ _ _ _ c.loop-scan.invariant.looks c.in_err-n.ensures.called refl

pub returns-in_err-needed-clause-looks : goal.returns-in_err-needed-clause-looks
returns-in_err-needed-clause-looks g c = looks_more _ _ _ _ _ c.loop-scan.invariant.looks c.read_piece.ensures.called

pub returns-in_err-needed-clause-device : goal.returns-in_err-needed-clause-device
returns-in_err-needed-clause-device g c =
    let looks = looks_more _ _ _ _ _ c.loop-scan.invariant.looks c.read_piece.ensures.called in
    looks_cause _ _ _ _ looks (λ is. absurd (not_device _ c.from_residual-in_err-needed.ensures.1 is))

pub returns-in_default-clause-looks : goal.returns-in_default-clause-looks
returns-in_default-clause-looks g c = looks_more _ _ _ _ _ c.loop-scan.invariant.looks c.read_piece.ensures.called

pub returns-in_default-clause-reached : goal.returns-in_default-clause-reached
returns-in_default-clause-reached g c = reached_more _ _ _ _ _ (c.loop-scan.invariant.reading).reached c.in_ok-needed.ensures.walks.walked

pub returns-in_default-clause-read : goal.returns-in_default-clause-read
returns-in_default-clause-read g c =
    reading_end _ _ _ _ _ _ _ _ _ _ _ _ _ _ c.loop-scan.invariant.looks c.loop-scan.invariant.reading refl
    (piece_is _ _ _ _ _ _ _ _ _ _ c.in_ok-n.ensures.value c.read_piece.ensures.len c.deref.ensures.value (omega (arith, c.len.ensures)) refl refl) c.in_ok-needed.ensures.walks c.in_default.is

pub returns-in_default-clause-device : goal.returns-in_default-clause-device
returns-in_default-clause-device g c =
    let looks = looks_more _ _ _ _ _ c.loop-scan.invariant.looks c.read_piece.ensures.called in
    looks_cause _ _ _ _ looks (λ is. let e = is in cc)

pub returns-in_err-grow-clause-looks : goal.returns-in_err-grow-clause-looks
returns-in_err-grow-clause-looks g c = looks_both _ _ _ (looks_more _ _ _ _ _ c.loop-scan.invariant.looks c.read_piece.ensures.called) c.grow.ensures.looks

pub returns-then-not-branch-clause-looks : goal.returns-then-not-branch-clause-looks
returns-then-not-branch-clause-looks g c = looks_both _ _ _ (looks_more _ _ _ _ _ c.loop-scan.invariant.looks c.read_piece.ensures.called) c.grow.ensures.looks

pub returns-then-not-branch-clause-reached : goal.returns-then-not-branch-clause-reached
returns-then-not-branch-clause-reached g c = reached_more _ _ _ _ _ (c.loop-scan.invariant.reading).reached c.in_ok-needed.ensures.walks.walked

pub returns-then-not-branch-clause-read : goal.returns-then-not-branch-clause-read
returns-then-not-branch-clause-read g c = λ is_told.
    let looks = looks_more _ _ _ _ _ c.loop-scan.invariant.looks c.read_piece.ensures.called in
    reading_short _ _ _ _ _ _ _ _ _ _ _ _ _ _ _ _ c.loop-scan.invariant.looks looks c.loop-scan.invariant.reading refl
    (piece_is _ _ _ _ _ _ _ _ _ _ c.in_ok-n.ensures.value c.read_piece.ensures.len c.deref.ensures.value (omega (arith, c.len.ensures)) refl refl) c.in_ok-needed.ensures.walks c.in-Some.is is_told
    (c.in_ok-grow.ensures.short (looks_told _ _ looks is_told) c.if-not-branch.true)

pub loop-scan-smaller : goal.loop-scan-smaller
loop-scan-smaller g c =
    let step = progress _ _ _ _ _ _ _ c.in_ok-needed.ensures.walks c.in-Some.is in
    let within = reached_within _ _ (reached_more _ _ _ _ _ (c.loop-scan.invariant.reading).reached c.in_ok-needed.ensures.walks.walked) in
    let size : c.len.result ≡ length c.deref.result.now = omega (arith, c.len.ensures, ap length c.deref.ensures.value) in
    let held : length c.deref.result.now ≡ length c.loop-scan.piece.items = ap length c.deref.ensures.value ∙ c.read_piece.ensures.len in
    let all = full c.in_ok-n.n c.len.result c.deref.result.now step.0 (omega (arith, c.in_ok-n.ensures.count, size, held)) size in
    let grown = c.in_ok-grow.ensures.grown c.if-not-branch.false ∙ ap (λ (n : ℕ). max n c.in-Some.needed) c.read_piece.ensures.len in
    less_left _ _ _ _ _ _ within step.2 step.1 c.loop-scan.invariant.small (all ∙ size ∙ held) step.3 grown

pub loop-scan-preserved : goal.loop-scan-preserved
loop-scan-preserved g c =
    let step = progress _ _ _ _ _ _ _ c.in_ok-needed.ensures.walks c.in-Some.is in
    let grown = c.in_ok-grow.ensures.grown c.if-not-branch.false in
    record {
      looks = looks_both _ _ _ (looks_more _ _ _ _ _ c.loop-scan.invariant.looks c.read_piece.ensures.called) c.grow.ensures.looks;
      reading = reading_more _ _ _ _ _ _ _ _ _ _ _ _ _ _ c.loop-scan.invariant.looks c.loop-scan.invariant.reading refl
          (piece_is _ _ _ _ _ _ _ _ _ _ c.in_ok-n.ensures.value c.read_piece.ensures.len c.deref.ensures.value (omega (arith, c.len.ensures)) refl refl) c.in_ok-needed.ensures.walks;
      follows = follows_on _ _ _ _ _ _ _ c.in_ok-needed.ensures.walks c.in-Some.is;
      small = omega (arith, grown, step.1, c.loop-scan.invariant.small, c.read_piece.ensures.len);
    }

pub returns-in_err-grow-clause-device : goal.returns-in_err-grow-clause-device
returns-in_err-grow-clause-device g c =
    let looks = looks_more _ _ _ _ _ c.loop-scan.invariant.looks c.read_piece.ensures.called in
    looks_cause _ _ _ _ (looks_both _ _ _ looks c.grow.ensures.looks)
    (λ is. rose_behind _ _ _ _ looks c.in_err-grow.ensures.device (same_fault _ _ _ refl c.from_residual-in_err-grow.ensures.1 Device is))

pub returns-in_err-grow-clause-never : goal.returns-in_err-grow-clause-never
returns-in_err-grow-clause-never g c other is =
    c.in_err-grow.ensures.never other (same_fault _ _ _ refl c.from_residual-in_err-grow.ensures.1 (NotAVolume other) is)
