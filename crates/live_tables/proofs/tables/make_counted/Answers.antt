use Rattle.std.proofs.Common.{◌∙◌, ap}
use Rattle.live_tables.specs.Bytes.{capped}
use Rattle.live_tables.specs.Folds.{freed}
use Rattle.live_tables.proofs.TablesLemmas.{made_bytes}
use Rattle.live_tables.proofs.tables.make_counted.Goals as goal

pub overflow_sub-committed : goal.overflow_sub-committed
overflow_sub-committed c =
    (made_bytes c.args.change c.args.tables.now.items c.make.new.tables.items c.args.committed.now c.change_len-more.result c.freed_len-less.result
    c.requires.made c.requires.fit c.requires.counted c.requires.small c.change_len-more.ensures
    (c.freed_len-less.ensures ∙ ap (λ l. capped (freed c.args.change l)) c.deref.ensures.value) c.in_ok-make.ensures.ok).1

pub returns-clause-counted : goal.returns-clause-counted
returns-clause-counted c =
    (made_bytes c.args.change c.args.tables.now.items c.make.new.tables.items c.args.committed.now c.change_len-more.result c.freed_len-less.result
    c.requires.made c.requires.fit c.requires.counted c.requires.small c.change_len-more.ensures
    (c.freed_len-less.ensures ∙ ap (λ l. capped (freed c.args.change l)) c.deref.ensures.value) c.in_ok-make.ensures.ok).2
