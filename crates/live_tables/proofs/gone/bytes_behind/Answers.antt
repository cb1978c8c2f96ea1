use Rattle.std.proofs.Common.{arith}
use Rattle.engine_api.specs.States.{changes_in}
use Rattle.live_tables.proofs.ShrinkLemmas.{bytes_fit, bytes_both}
use Rattle.live_tables.proofs.gone.bytes_behind.Goals as goal

pub bytes_by-before-requires : goal.bytes_by-before-requires
bytes_by-before-requires c =
    let few = (bytes_fit c.args.name.now (changes_in c.args.pending.now) c.args.own.now c.args.tables.now c.bytes-stored.result c.requires c.bytes-stored.ensures).1 in
    omega (arith, few)

pub bytes_through-requires : goal.bytes_through-requires
bytes_through-requires c =
    let few = (bytes_fit c.args.name.now (changes_in c.args.pending.now) c.args.own.now c.args.tables.now c.bytes-stored.result c.requires c.bytes-stored.ensures).1 in
    omega (arith, few, c.bytes_by-before.ensures.within)

pub returns : goal.returns
returns c =
    bytes_both c.args.name.now (changes_in c.args.pending.now) c.args.own.now c.args.tables.now c.bytes-stored.result c.bytes_by-before.result c.bytes_through.result
    c.requires c.bytes-stored.ensures c.bytes_by-before.ensures.value c.bytes_through.ensures.value
