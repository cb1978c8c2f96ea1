-- With a header the list behind it; without one an empty log, or none.
use Rattle.std.proofs.Common.{inr, arith}
use Rattle.binlog_file.proofs.PlainLemmas.{with_header, without_header}
use Rattle.binlog_file.proofs.plain.logged_in.Goals as goal

pub listed-requires : goal.listed-requires
listed-requires c = with_header c.args.bytes.now c.starts_with.result c.starts_with.ensures.value c.if-starts_with.true

pub returns-then-bytes-gt-HEADER_LEN-clause-none : goal.returns-then-bytes-gt-HEADER_LEN-clause-none
returns-then-bytes-gt-HEADER_LEN-clause-none c =
    record { no_header = without_header c.args.bytes.now c.starts_with.result c.starts_with.ensures.value c.if-starts_with.false; long = omega arith }

pub returns-clause-list : goal.returns-clause-list
returns-clause-list c =
    inr (record { no_header = without_header c.args.bytes.now c.starts_with.result c.starts_with.ensures.value c.if-starts_with.false; short = omega arith; none = c.new.ensures.items })
