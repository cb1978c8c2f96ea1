use Rattle.std.proofs.Common.{None, ap, arith}
use Rattle.std.specs.Prelude.{sum_by}
use Rattle.frame_codec.specs.Frame.{size_of}
use Rattle.binlog_events.specs.Changes.{change_events}
use Rattle.binlog_events.proofs.LenLemmas.{transaction_size}
use Rattle.binlog_events.proofs.len.transaction_len.Goals as goal

pub returns : goal.returns
returns c = record { value = λ xid. omega (arith, transaction_size xid c.args.changes.now, c.changes_size.ensures.value, ap (λ l. sum_by size_of (change_events None l)) c.as_slice.ensures) }
