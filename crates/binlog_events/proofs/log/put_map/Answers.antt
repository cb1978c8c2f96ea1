use Rattle.std.proofs.Common.{arith}
use Rattle.binlog_events.specs.Changes.{map_event}
use Rattle.binlog_events.proofs.WriteLemmas.{chains_closed}
use Rattle.binlog_events.proofs.log.put_map.Goals as goal

pub returns : goal.returns
returns c = record {
  chains =
      chains_closed c.args.start c.len-from.result c.map_len-len.result c.in_ok-crc.crc (map_event c.args.map.now) c.args.out.now.items c.open_frame.new.out.items c.add_map.new.out.items
      c.close_frame.new.out.items (omega (arith, c.len-from.ensures)) c.map_len-len.ensures.value c.in_ok-open_frame.ensures.ok c.in_ok-add_map.ensures c.in_ok-crc.ensures.ok
      c.in_ok-crc.ensures.value;
}
