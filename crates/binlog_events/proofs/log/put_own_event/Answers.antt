use Rattle.std.proofs.Common.{◌++◌, ◌∙◌, ℕ, ap, arith}
use Rattle.frame_codec.specs.Header.{head_of}
use Rattle.binlog_events.specs.Changes.{change_event}
use Rattle.binlog_events.proofs.WriteLemmas.{chains_closed}
use Rattle.binlog_events.proofs.log.put_own_event.Goals as goal

pub returns : goal.returns
returns c =
    let old = c.args.out.now.items in
    let begun = c.in_ok-open_frame.ensures.ok ∙ ap (λ (kind : ℕ). old ++ head_of c.args.start.at kind c.body_len-len.result) c.kind_of.ensures in
    record {
      chains =
          chains_closed c.args.start c.len-from.result c.body_len-len.result c.in_ok-crc.crc (change_event c.args.change.now) old c.open_frame.new.out.items c.add_body.new.out.items
          c.close_frame.new.out.items (omega (arith, c.len-from.ensures)) c.body_len-len.ensures.value begun c.in_ok-add_body.ensures c.in_ok-crc.ensures.ok c.in_ok-crc.ensures.value;
    }
