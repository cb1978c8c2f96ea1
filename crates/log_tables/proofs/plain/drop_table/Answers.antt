use Rattle.std.proofs.Common.{◌≡◌, ◌<◌, ◌≤◌, length, [], arith, sym, ap, ◌∙◌}
use Rattle.std.specs.Prelude.{remove}
use Rattle.log_tables.specs.Tables.{place_named}
use Rattle.log_tables.proofs.PlainLemmas.{at_table-remove, at_table-nowhere}
use Rattle.log_tables.proofs.plain.drop_table.Goals as goal

pub returns-then-i-len : goal.returns-then-i-len
returns-then-i-len c =
    let at : c.place_of-i.result ≡ place_named c.args.table c.args.tables.now.items = c.place_of-i.ensures ∙ ap (place_named c.args.table) c.deref.ensures.value in
    let long : length c.deref.result.now ≡ length c.args.tables.now.items = ap length c.deref.ensures.value in
    let there : place_named c.args.table c.args.tables.now.items < length c.args.tables.now.items = omega arith in
    c.remove.ensures.items ∙ ap (remove c.args.tables.now.items) at ∙ sym (at_table-remove c.args.table c.args.tables.now.items there)

pub returns : goal.returns
returns c =
    let at : c.place_of-i.result ≡ place_named c.args.table c.args.tables.now.items = c.place_of-i.ensures ∙ ap (place_named c.args.table) c.deref.ensures.value in
    let long : length c.deref.result.now ≡ length c.args.tables.now.items = ap length c.deref.ensures.value in
    let nowhere : length c.args.tables.now.items ≤ place_named c.args.table c.args.tables.now.items = omega arith in
    sym (at_table-nowhere c.args.table (λ _. []) c.args.tables.now.items nowhere)
