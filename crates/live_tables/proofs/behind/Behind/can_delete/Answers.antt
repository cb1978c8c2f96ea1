use Rattle.std.proofs.Common.{◌++◌, ◌∙◌, ◌&&◌, sym, ap}
use Rattle.log_tables.specs.Tables.{table_named}
use Rattle.log_tables.specs.Changes.{after_changes}
use Rattle.live_tables.proofs.RowBehindLemmas.{delete_found}
use Rattle.live_tables.proofs.behind.Behind.can_delete.Goals as goal

pub returns-then-is_same : goal.returns-then-is_same
returns-then-is_same c = λ applied.
    let it = c.args.self.now in
    let map = c.args.map.now in
    let o = table_named map.table (after_changes (it.done.now ++ it.more.now) it.tables.now) in
    let there = c.has_before.result in
    ap (λ b. b && there) (sym (sym c.is_same.ensures ∙ c.if-is_same.true))
    ∙ delete_found map c.args.place c.args.before.now o c.in-Some.schema.now there (c.in-Some.ensures applied.made) (λ t is keyed. c.has_before.ensures t applied is keyed)
