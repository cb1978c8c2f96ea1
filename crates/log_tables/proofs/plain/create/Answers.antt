use Rattle.std.proofs.Common.{◌≡◌, ◌<◌, ◌≤◌, length, [], ◌∷◌, ◌++◌, arith, sym, ap, ◌∙◌, is_some}
use Rattle.log_tables.specs.Tables.{place_named, table_named}
use Rattle.log_tables.specs.Tables.{new_table}
use Rattle.log_tables.proofs.PartLemmas.{cond_true, cond_false}
use Rattle.log_tables.proofs.PlainLemmas.{table_named-there, table_named-nowhere, place_named-within}
use Rattle.log_tables.proofs.plain.create.Goals as goal

pub returns-in_ok-push : goal.returns-in_ok-push
returns-in_ok-push c =
    let at : c.place_of.result ≡ place_named c.args.table c.args.tables.now.items = c.place_of.ensures ∙ ap (place_named c.args.table) c.deref.ensures.value in
    let long : length c.deref.result.now ≡ length c.args.tables.now.items = ap length c.deref.ensures.value in
    let nowhere : length c.args.tables.now.items ≤ place_named c.args.table c.args.tables.now.items = omega arith in
    let free = ap is_some (table_named-nowhere c.args.table c.args.tables.now.items nowhere) in
    let e = cond_false (is_some (table_named c.args.table c.args.tables.now.items)) c.args.tables.now.items (c.args.tables.now.items ++ new_table c.args.table c.args.engine c.args.schema ∷ []) free in
    c.in_ok-push.ensures.items ∙ ap (λ rs. c.args.tables.now.items ++ record { definition = record { table = c.args.table; engine = c.args.engine; schema = c.args.schema }; rows = rs } ∷ []) (c.new-rows.ensures ∙ c.new.ensures.items) ∙ sym e

pub returns-else-place_of-len : goal.returns-else-place_of-len
returns-else-place_of-len c =
    let at : c.place_of.result ≡ place_named c.args.table c.args.tables.now.items = c.place_of.ensures ∙ ap (place_named c.args.table) c.deref.ensures.value in
    let long : length c.deref.result.now ≡ length c.args.tables.now.items = ap length c.deref.ensures.value in
    let within = place_named-within c.args.table c.args.tables.now.items in
    let there : place_named c.args.table c.args.tables.now.items < length c.args.tables.now.items = omega (arith, at, long, within) in
    sym (cond_true (is_some (table_named c.args.table c.args.tables.now.items)) c.args.tables.now.items (c.args.tables.now.items ++ new_table c.args.table c.args.engine c.args.schema ∷ []) (table_named-there c.args.table c.args.tables.now.items there))
