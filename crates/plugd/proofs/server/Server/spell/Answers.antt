use Rattle.std.proofs.Common.{rules, refl, arith}
use Rattle.binlog_events.proofs.LenLemmas.{transaction_size}
use Rattle.plugd.proofs.SpellLemmas.{events_end, spelt}
use Rattle.plugd.proofs.server.Server.spell.Goals as goal

pub put_transaction-requires-clause-ends : goal.put_transaction-requires-clause-ends
put_transaction-requires-clause-ends c =
    let end = events_end c.len-at.result c.args.xid c.args.changes c.transaction_len.result c.transaction_len.ensures.value in
    let small = c.requires.limit in
    omega (arith, end.0, c.len-at.ensures.value, c.room.ensures, c.from.ensures, c.if-transaction_len-from.false, small)

pub returns-then-transaction_len-from : goal.returns-then-transaction_len-from
returns-then-transaction_len-from c =
    let end = events_end 0 c.args.xid c.args.changes c.transaction_len.result c.transaction_len.ensures.value in
    let small = c.requires.limit in
    record {
      spells = record {
        same = record { log = refl; xids = refl; acks = refl; lines = refl; limit = refl; halted = refl };
        spelt = λ is. cc;
        fits = λ is. cc;
        room = λ is. cc;
        noted = λ is. cc;
        unnoted = λ is. refl;
        spent = λ is. omega (arith, end.1, c.room.ensures, c.from.ensures, c.if-transaction_len-from.true, small);
      };
    }

pub returns : goal.returns
returns c =
    let end = events_end c.len-at.result c.args.xid c.args.changes c.transaction_len.result c.transaction_len.ensures.value in
    let small = c.requires.limit in
    record {
      spells = record {
        same = record { log = refl; xids = refl; acks = c.reserve.ensures.items; lines = refl; limit = refl; halted = refl };
        spelt = λ is. spelt c.args.self.now.log c.len-at.result c.last_crc-prev.result c.args.xid c.transaction_len.result c.args.changes c.put_transaction.new.out.items c.clear.new.self.items
            c.len-at.ensures.value c.last_crc-prev.ensures (omega (arith, c.ranges.xid)) c.requires.some c.requires.fit c.transaction_len.ensures.value
            (omega (arith, c.room.ensures, c.from.ensures, c.if-transaction_len-from.false, small)) c.clear.ensures.items c.in_ok-put_transaction.ensures.ok;
        fits = λ is. omega (arith, transaction_size 0 c.args.changes, end.1, c.room.ensures, c.from.ensures, c.if-transaction_len-from.false, small);
        room = λ is. search rules;
        noted = λ is. search rules;
        spent = λ is. cc;
        unnoted = λ is. cc;
      };
    }
