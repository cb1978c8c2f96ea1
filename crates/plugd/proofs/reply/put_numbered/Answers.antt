use Rattle.plugd.proofs.ReplyLemmas.{room_before}
use Rattle.plugd.proofs.reply.put_numbered.Goals as goal

pub put_bytes-requires : goal.put_bytes-requires
put_bytes-requires c = room_before c.args.front.now c.args.number c.new-line.result c.put_byte.new.self c.put_decimal.new.self c.ranges.number.fits c.requires c.new-line.ensures c.put_byte.ensures c.put_decimal.ensures
