use Rattle.redo_journal.proofs.TakeLemmas.{some_is, none_is, only_table, table_no_engine, table_no_schema, table_more}
use Rattle.redo_journal.proofs.take.table_of.Goals as goal

pub returns-in_default-2-clause-none : goal.returns-in_default-2-clause-none
returns-in_default-2-clause-none c it =
    let table = some_is _ _ _ c.in-Some.is c.in_ok-table.ensures.found in
    only_table it _ (table_no_engine _ _ _ table.1 (none_is _ _ c.in_default-2.is c.in_ok-engine.ensures.none))

pub returns-in_default-3-clause-none : goal.returns-in_default-3-clause-none
returns-in_default-3-clause-none c it =
    let table = some_is _ _ _ c.in-Some.is c.in_ok-table.ensures.found in
    let engine = some_is _ _ _ c.in-Some-2.is c.in_ok-engine.ensures.found in
    only_table it _ (table_no_schema _ _ _ _ _ table.1 engine.1 (none_is _ _ c.in_default-3.is c.in_ok-schema.ensures.none))

pub returns-then-len-rest-clause-none : goal.returns-then-len-rest-clause-none
returns-then-len-rest-clause-none c it =
    let table = some_is _ _ _ c.in-Some.is c.in_ok-table.ensures.found in
    let engine = some_is _ _ _ c.in-Some-2.is c.in_ok-engine.ensures.found in
    let schema = some_is _ _ _ c.in-Some-3.is c.in_ok-schema.ensures.found in
    only_table it _ (table_more _ _ _ _ _ _ _ table.1 engine.1 schema.0 schema.1 c.if-len-rest.true)
