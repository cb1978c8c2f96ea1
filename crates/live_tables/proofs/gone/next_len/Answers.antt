use Rattle.std.proofs.Common.{sym, subst}
use Rattle.std.proofs.lemmas.List.{append-nil}
use Rattle.engine_api.specs.States.{changes_in}
use Rattle.engine_api.specs.Live.{live_bytes}
use Rattle.live_tables.specs.Live.{CanMake}
use Rattle.live_tables.proofs.ShrinkLemmas.{can_less, taken_within, next_bytes}
use Rattle.live_tables.proofs.gone.next_len.Goals as goal

pub gone_len-requires : goal.gone_len-requires
gone_len-requires c = can_less c.args.pending.now c.args.change.now c.args.tables.now c.args.counted c.requires

pub overflow_sub-result : goal.overflow_sub-result
overflow_sub-result c = taken_within c.args.pending.now c.args.change.now c.args.tables.now c.args.counted c.gone_len.result c.requires c.gone_len.ensures

pub freed_behind-requires : goal.freed_behind-requires
freed_behind-requires c =
    let ts = c.args.tables.now in
    subst (λ l. CanMake ts l (live_bytes ts)) (sym (append-nil (changes_in c.args.pending.now))) (can_less c.args.pending.now c.args.change.now ts c.args.counted c.requires)

pub overflow_sub-result-2 : goal.overflow_sub-result-2
overflow_sub-result-2 c =
    (next_bytes c.args.pending.now c.args.change.now c.args.tables.now c.args.counted c.gone_len.result c.freed_behind.result c.requires c.gone_len.ensures c.freed_behind.ensures).0

pub returns : goal.returns
returns c =
    (next_bytes c.args.pending.now c.args.change.now c.args.tables.now c.args.counted c.gone_len.result c.freed_behind.result c.requires c.gone_len.ensures c.freed_behind.ensures).1
