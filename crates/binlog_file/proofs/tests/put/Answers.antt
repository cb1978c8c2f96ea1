-- One transaction is written behind the log, and the log stays open.
use Rattle.std.proofs.Common.{◌≡◌, [], ◌∷◌, ◌++◌, ℕ, List, refl, sym, ◌∙◌, ap, subst, arith}
use Rattle.frame_codec.specs.Chain.{chain_of, EndsWithin}
use Rattle.binlog_events.specs.Transaction.{events_of}
use Rattle.binlog_file.proofs.TestLemmas.{has_room, one_carried, still_open}
use Rattle.binlog_file.proofs.tests.put.Goals as goal

pub put_transaction-requires-clause-ends : goal.put_transaction-requires-clause-ends
put_transaction-requires-clause-ends g c =
    subst (λ (n : ℕ). EndsWithin n (events_of c.args.txn.now)) (sym c.len.ensures.value)
    (has_room c.args.log.now c.args.txn.now c.room.result c.transaction_len.result c.room.ensures (omega (arith, c.len.ensures.value, c.len.ensures.fits)) (omega (arith, c.if-from-transaction_len.false, c.from.ensures))
    (c.transaction_len.ensures.value c.args.txn.now.xid))

pub append-requires-clause-whole : goal.append-requires-clause-whole
append-requires-clause-whole g c =
    let fits = has_room c.args.log.now c.args.txn.now c.room.result c.transaction_len.result c.room.ensures (omega (arith, c.len.ensures.value, c.len.ensures.fits)) (omega (arith, c.if-from-transaction_len.false, c.from.ensures))
    (c.transaction_len.ensures.value c.args.txn.now.xid) in
    let spelt : c.as_slice.result.now ≡ chain_of c.args.log.now.crc c.args.log.now.len (events_of c.args.txn.now) =
    c.as_slice.ensures.value ∙ c.in_ok-put_transaction.ensures.ok
    ∙ ap (λ (l : List ℕ). l ++ chain_of c.last_crc.result c.len.result (events_of c.args.txn.now)) c.new-bytes.ensures.items
    ∙ ap (λ (n : ℕ). chain_of n c.len.result (events_of c.args.txn.now)) c.last_crc.ensures
    ∙ ap (λ (n : ℕ). chain_of c.args.log.now.crc n (events_of c.args.txn.now)) c.len.ensures.value in
    (c.args.txn.now ∷ [], refl, one_carried c.args.log.now c.args.txn.now c.as_slice.result.now c.requires.fit fits spelt)

pub returns : goal.returns
returns g c =
    let fits = has_room c.args.log.now c.args.txn.now c.room.result c.transaction_len.result c.room.ensures (omega (arith, c.len.ensures.value, c.len.ensures.fits)) (omega (arith, c.if-from-transaction_len.false, c.from.ensures))
    (c.transaction_len.ensures.value c.args.txn.now.xid) in
    let spelt : c.as_slice.result.now ≡ chain_of c.args.log.now.crc c.args.log.now.len (events_of c.args.txn.now) =
    c.as_slice.ensures.value ∙ c.in_ok-put_transaction.ensures.ok
    ∙ ap (λ (l : List ℕ). l ++ chain_of c.last_crc.result c.len.result (events_of c.args.txn.now)) c.new-bytes.ensures.items
    ∙ ap (λ (n : ℕ). chain_of n c.len.result (events_of c.args.txn.now)) c.last_crc.ensures
    ∙ ap (λ (n : ℕ). chain_of c.args.log.now.crc n (events_of c.args.txn.now)) c.len.ensures.value in
    still_open _ _ c.args.log.now c.append.new.self c.args.txn.now c.as_slice.result.now c.in_ok-append.ensures.device.told c.requires.open
    (one_carried c.args.log.now c.args.txn.now c.as_slice.result.now c.requires.fit fits spelt) c.in_ok-append.ensures.ok
