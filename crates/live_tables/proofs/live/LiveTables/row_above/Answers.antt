use Rattle.std.proofs.Common.{◌≡◌, ◌∙◌, ◌++◌, ◌+◌, List, [], true, false, append-nil, ap, subst, arith}
use Rattle.row_format.specs.declared.change.Change.{Change}
use Rattle.log_tables.specs.declared.table.Table.{Table}
use Rattle.engine_api.specs.States.{changes_in}
use Rattle.engine_api.specs.Live.{rows_found, live_row}
use Rattle.live_tables.specs.Folds.{Applied}
use Rattle.live_tables.specs.Live.{Live}
use Rattle.live_tables.specs.Places.{below, found_behind}
use Rattle.live_tables.proofs.ScanLemmas.{above_live, lent_some}
use Rattle.live_tables.proofs.live.LiveTables.row_above.Goals as goal

pub returns-then-is_some : goal.returns-then-is_some
returns-then-is_some c =
    let it = c.self.inside in
    let n = c.args.table.now in
    let ts = it.tables.items in
    let done = it.done.items in
    let ps = it.pending.items in
    let column = c.in-Some.column in
    let key = c.args.after.now in
    let front = c.deref-2.result.now ++ changes_in c.deref-3.result.now in
    let changes : front ++ [] ≡ done ++ changes_in ps =
    append-nil front ∙ ap (λ l. l ++ changes_in c.deref-3.result.now) c.deref-2.ensures.value ∙ ap (λ l. done ++ changes_in l) c.deref-3.ensures.value in
    let lows : Applied ts (done ++ changes_in ps) → c.below-low.result ≡ below column key (rows_found (found_behind n ts (done ++ changes_in ps))) =
    subst (λ (l : List Change). Applied ts l → c.below-low.result ≡ below column key (rows_found (found_behind n ts l))) changes
    (subst (λ (l : List Table). Applied l (front ++ []) → c.below-low.result ≡ below column key (rows_found (found_behind n l (front ++ [])))) c.deref.ensures.value c.below-low.ensures.value) in
    c.row_there.ensures
    ∙ above_live n ts done it.left.items ps it.last c.args.self.now.state column key c.below-low.result (c.below-low.result + 1) true c.self.invariant.0 (ap (λ (l : Live). l.state) c.self.view_is) c.in-Some.ensures lows
    (c.if-is_some.ensures ∙ lent_some (λ x. x.now) c.row.result (live_row n key c.args.self.now.state) c.row.ensures) (omega arith)

pub returns-else-is_some : goal.returns-else-is_some
returns-else-is_some c =
    let it = c.self.inside in
    let n = c.args.table.now in
    let ts = it.tables.items in
    let done = it.done.items in
    let ps = it.pending.items in
    let column = c.in-Some.column in
    let key = c.args.after.now in
    let front = c.deref-2.result.now ++ changes_in c.deref-3.result.now in
    let changes : front ++ [] ≡ done ++ changes_in ps =
    append-nil front ∙ ap (λ l. l ++ changes_in c.deref-3.result.now) c.deref-2.ensures.value ∙ ap (λ l. done ++ changes_in l) c.deref-3.ensures.value in
    let lows : Applied ts (done ++ changes_in ps) → c.below-low.result ≡ below column key (rows_found (found_behind n ts (done ++ changes_in ps))) =
    subst (λ (l : List Change). Applied ts l → c.below-low.result ≡ below column key (rows_found (found_behind n ts l))) changes
    (subst (λ (l : List Table). Applied l (front ++ []) → c.below-low.result ≡ below column key (rows_found (found_behind n l (front ++ [])))) c.deref.ensures.value c.below-low.ensures.value) in
    c.row_there-else-is_some.ensures
    ∙ above_live n ts done it.left.items ps it.last c.args.self.now.state column key c.below-low.result (c.below-low.result) false c.self.invariant.0 (ap (λ (l : Live). l.state) c.self.view_is) c.in-Some.ensures lows
    (c.if-is_some.ensures ∙ lent_some (λ x. x.now) c.row.result (live_row n key c.args.self.now.state) c.row.ensures) (omega arith)
