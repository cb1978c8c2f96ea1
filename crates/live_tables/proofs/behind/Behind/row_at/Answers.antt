use Rattle.std.proofs.Common.{◌∙◌, sym}
use Rattle.log_tables.specs.Tables.{table_named}
use Rattle.log_tables.specs.Changes.{after_changes}
use Rattle.live_tables.specs.Folds.{row_in}
use Rattle.live_tables.proofs.BackLemmas.{came_more, came_done, row_both}
use Rattle.live_tables.proofs.behind.Behind.row_at.Goals as goal

pub returns-in-Ok : goal.returns-in-Ok
returns-in-Ok c = λ applied keyless.
    let n = c.args.name.now in
    let cs = c.args.self.now.done.now in
    let ds = c.args.self.now.more.now in
    let ts = c.args.self.now.tables.now in
    let came = came_more n cs ds ts c.count.result applied keyless (c.count.ensures.value applied) c.count.ensures.few c.requires in
    sym (c.in-Ok.ensures.told (after_changes cs ts) came) ∙ row_both n cs ds ts c.args.place

pub returns-in-Ok-walk_back : goal.returns-in-Ok-walk_back
returns-in-Ok-walk_back c = λ applied keyless.
    let n = c.args.name.now in
    let cs = c.args.self.now.done.now in
    let ds = c.args.self.now.more.now in
    let ts = c.args.self.now.tables.now in
    let wanted = row_in c.args.place (table_named n (after_changes ds (after_changes cs ts))) in
    let came = came_more n cs ds ts c.count.result applied keyless (c.count.ensures.value applied) c.count.ensures.few c.requires in
    let stands = c.in-Err.ensures.stood (after_changes cs ts) came in
    let first = came_done n cs ds ts wanted c.in-Err.at.place c.in-Err.at.count applied stands c.count.ensures.few c.requires in
    sym (stands.row ∙ c.in-Ok-walk_back.ensures.told ts first) ∙ row_both n cs ds ts c.args.place

pub returns-in-Err-walk_back : goal.returns-in-Err-walk_back
returns-in-Err-walk_back c = λ applied keyless.
    let n = c.args.name.now in
    let cs = c.args.self.now.done.now in
    let ds = c.args.self.now.more.now in
    let ts = c.args.self.now.tables.now in
    let wanted = row_in c.args.place (table_named n (after_changes ds (after_changes cs ts))) in
    let came = came_more n cs ds ts c.count.result applied keyless (c.count.ensures.value applied) c.count.ensures.few c.requires in
    let stands = c.in-Err.ensures.stood (after_changes cs ts) came in
    let first = came_done n cs ds ts wanted c.in-Err.at.place c.in-Err.at.count applied stands c.count.ensures.few c.requires in
    let stood = c.in-Err-walk_back.ensures.stood ts first in
    c.row_at.ensures ∙ sym (stands.row ∙ stood.row) ∙ row_both n cs ds ts c.args.place
