use Rattle.std.proofs.Common.{◌++◌, ◌∙◌, ◌&&◌, ◌||◌, not, sym, ap}
use Rattle.log_tables.specs.Tables.{table_named}
use Rattle.log_tables.specs.Changes.{after_changes}
use Rattle.engine_api.specs.Live.{is_taken_in}
use Rattle.live_tables.specs.Folds.{same_keys}
use Rattle.live_tables.proofs.RowBehindLemmas.{update_found}
use Rattle.live_tables.proofs.behind.Behind.can_update.Goals as goal

pub returns-then-has_same_key : goal.returns-then-has_same_key
returns-then-has_same_key c = λ applied.
    let it = c.args.self.now in
    let map = c.args.map.now in
    let before = c.args.before.now in
    let after = c.args.after.now in
    let o = table_named map.table (after_changes (it.done.now ++ it.more.now) it.tables.now) in
    let same = same_keys map.schema.key before after in
    let free = not (is_taken_in o after) in
    c.if-has_same_key.true
    ∙ sym (update_found map c.args.place before after o ∙ ap (λ b. b && (same || free)) (sym (c.if-not-can_delete.ensures applied)) ∙ ap (λ b. b || free) (sym c.if-has_same_key.ensures))

pub returns-else-has_same_key : goal.returns-else-has_same_key
returns-else-has_same_key c = λ applied.
    let it = c.args.self.now in
    let map = c.args.map.now in
    let before = c.args.before.now in
    let after = c.args.after.now in
    let o = table_named map.table (after_changes (it.done.now ++ it.more.now) it.tables.now) in
    let same = same_keys map.schema.key before after in
    let free = not (is_taken_in o after) in
    ap not (c.is_taken.ensures applied)
    ∙ sym (update_found map c.args.place before after o ∙ ap (λ b. b && (same || free)) (sym (c.if-not-can_delete.ensures applied)) ∙ ap (λ b. b || free) (sym c.if-has_same_key.ensures))
