use Rattle.std.proofs.Common.{◌≡◌, ◌<◌, ◌≤◌, length, arith, sym, ap, ◌∙◌}
use Rattle.log_tables.specs.Tables.{place_named}
use Rattle.log_tables.specs.Changes.{changed}
use Rattle.row_format.specs.declared.change.Change.TheVariants.{Delete}
use Rattle.log_tables.proofs.PlainLemmas.{edited, at_table-nowhere}
use Rattle.log_tables.proofs.plain.delete.Goals as goal

pub returns-then-i-len : goal.returns-then-i-len
returns-then-i-len c =
    let at : c.place_of-i.result ≡ place_named c.args.map.table c.args.tables.now.items = c.place_of-i.ensures ∙ ap (place_named c.args.map.table) c.deref.ensures.value in
    let long : length c.deref.result.now ≡ length c.args.tables.now.items = ap length c.deref.ensures.value in
    let within : c.place_of-i.result < length c.args.tables.now.items = omega arith in
    edited c.args.map.table (Delete c.args.map c.args.place c.args.before) c.args.tables.now.items c.place_of-i.result c.index_mut.result.now _ at within c.index_mut.ensures.value c.delete_in.ensures

pub returns-else-i-len : goal.returns-else-i-len
returns-else-i-len c =
    let at : c.place_of-i.result ≡ place_named c.args.map.table c.args.tables.now.items = c.place_of-i.ensures ∙ ap (place_named c.args.map.table) c.deref.ensures.value in
    let long : length c.deref.result.now ≡ length c.args.tables.now.items = ap length c.deref.ensures.value in
    let nowhere : length c.args.tables.now.items ≤ place_named c.args.map.table c.args.tables.now.items = omega arith in
    sym (at_table-nowhere c.args.map.table (changed (Delete c.args.map c.args.place c.args.before)) c.args.tables.now.items nowhere)
