-- Where a test fails no event's frame stands; where all hold, that of the body between does.
use Rattle.std.proofs.Common.{◌-◌, ◌∙◌, arith}
use Rattle.std.proofs.lemmas.List.{take_rest}
use Rattle.frame_codec.proofs.LayoutLemmas.{le32-bytes}
use Rattle.frame_codec.proofs.ReadLemmas.{frame_read, frame_whole, size_read, header_missing, checksum_missing}
use Rattle.frame_codec.proofs.read.frame_at.Goals as goal
use Rattle.frame_codec.proofs.read.frame_at.Goals.{then-end-gt-LIMIT-via-then-end-gt-LIMIT, then-end-gt-LIMIT-via-else-end-gt-LIMIT+then-size, then-end-gt-LIMIT-via-else-end-gt-LIMIT+else-size+then-bytes-size}

pub returns-in_err-first-clause-none : goal.returns-in_err-first-clause-none
returns-in_err-first-clause-none c =
    rw c.from_residual.ensures (λ event frame. omega (arith, c.in_err-first.ensures.cases, frame_whole c.args.prev c.args.at c.args.bytes.now event frame))

pub returns-in_err-end-clause-none : goal.returns-in_err-end-clause-none
returns-in_err-end-clause-none c =
    rw c.from_residual-in_err-end.ensures (λ event frame.
    c.in_err-end.ensures
    (omega (arith, frame.ends, size_read c.args.prev c.args.at c.from_le_bytes-size.result c.args.bytes.now c.in_ok-first.first.now event frame c.in_ok-first.ensures.cases.same c.from_le_bytes-size.ensures)))

pub returns-then-end-gt-LIMIT-clause-none : goal.returns-then-end-gt-LIMIT-clause-none
returns-then-end-gt-LIMIT-clause-none c event frame =
    let sized = size_read c.args.prev c.args.at c.from_le_bytes-size.result c.args.bytes.now c.in_ok-first.first.now event frame c.in_ok-first.ensures.cases.same c.from_le_bytes-size.ensures in
    let whole = frame_whole c.args.prev c.args.at c.args.bytes.now event frame in
    elim c.then-end-gt-LIMIT.branch [
      | then-end-gt-LIMIT-via-then-end-gt-LIMIT w ↦ omega (arith, frame.ends, sized, c.in_ok-end.ensures)
      | then-end-gt-LIMIT-via-else-end-gt-LIMIT+then-size w ↦ omega (arith, sized)
      | then-end-gt-LIMIT-via-else-end-gt-LIMIT+else-size+then-bytes-size w ↦ omega (arith, sized, whole)
    ]

pub returns-then-not-starts_with-clause-none : goal.returns-then-not-starts_with-clause-none
returns-then-not-starts_with-clause-none c event frame =
    header_missing c.args.prev c.args.at c.from_le_bytes-size.result c.in_ok-end.end c.args.bytes.now c.in_ok-first.first.now c.header.result event frame
    c.in_ok-first.ensures.cases.same c.from_le_bytes-size.ensures c.in_ok-end.ensures.1 c.header.ensures c.if-not-starts_with.ensures.value

pub returns-then-not-starts_with-2-clause-none : goal.returns-then-not-starts_with-2-clause-none
returns-then-not-starts_with-2-clause-none c event frame =
    checksum_missing c.args.prev c.args.at c.from_le_bytes-size.result c.crc-sum.result c.args.bytes.now c.in_ok-first.first.now c.to_le_bytes.result _ event frame
    c.in_ok-first.ensures.cases.same c.from_le_bytes-size.ensures c.crc-sum.ensures (c.to_le_bytes.ensures ∙ le32-bytes c.crc-sum.result)
    (take_rest c.args.bytes.now (c.from_le_bytes-size.result - 4)) c.if-not-starts_with-2.ensures.value

pub returns-clause-some : goal.returns-clause-some
returns-clause-some c =
    frame_read c.args.prev c.args.at _ c.from_le_bytes-size.result c.in_ok-end.end c.crc-sum.result c.args.bytes.now c.header.result c.to_le_bytes.result _
    c.if-size.false c.if-bytes-size.false c.if-end-gt-LIMIT.false c.in_ok-end.ensures.1 c.header.ensures c.if-not-starts_with.ensures.value
    c.crc-sum.ensures (c.to_le_bytes.ensures ∙ le32-bytes c.crc-sum.result)
    (take_rest c.args.bytes.now (c.from_le_bytes-size.result - 4)) c.if-not-starts_with-2.ensures.value
