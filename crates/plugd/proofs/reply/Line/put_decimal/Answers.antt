use Rattle.std.proofs.Common.{◌∙◌}
use Rattle.plugd.proofs.ReplyLemmas.{digit_put_is, last_put, room_left}
use Rattle.plugd.proofs.reply.Line.put_decimal.Goals as goal

pub put_byte-requires : goal.put_byte-requires
put_byte-requires c = room_left c.loop-rest.rest c.args.number c.loop-rest.self c.args.self.now c.loop-rest.auto.rest-fits.fits c.ranges.number.fits c.loop-rest.invariant c.requires

pub loop-rest-preserved : goal.loop-rest-preserved
loop-rest-preserved c = digit_put_is c.loop-rest.rest c.loop-rest.self c.put_byte.new.self c.put_byte.ensures c.loop-rest-test.true c.loop-rest.auto.rest-fits.fits ∙ c.loop-rest.invariant

pub put_byte-requires-2 : goal.put_byte-requires-2
put_byte-requires-2 c = room_left c.loop-rest.rest c.args.number c.loop-rest.self c.args.self.now c.loop-rest.auto.rest-fits.fits c.ranges.number.fits c.loop-rest.invariant c.requires

pub returns : goal.returns
returns c = c.put_byte-2.ensures ∙ last_put c.loop-rest.rest c.loop-rest.self c.loop-rest-test.false ∙ c.loop-rest.invariant
