use Rattle.std.proofs.Common.{◌∙◌, sym, ap}
use Rattle.std.specs.Prelude.{option_map}
use Rattle.std.specs.List.{position}
use Rattle.log_tables.specs.declared.table.Table.{Table}
use Rattle.redo_journal.specs.Index.{is_named_at}
use Rattle.redo_journal.proofs.TableLemmas.{no_table, has_table, schema_found}
use Rattle.redo_journal.proofs.tables.TableIndex.schema_of.Goals as goal

pub returns-in-Some : goal.returns-in-Some
returns-in-Some c = λ tables are.
    let has = has_table c.args.records.now c.args.name.now c.args.self.now.tables.items tables c.in-Some.i are (c.in-Some.ensures ∙ ap (position (is_named_at c.args.records.now c.args.name.now)) c.deref.ensures.value) in
    c.schema_at.ensures ∙ schema_found c.args.records.now c.args.name.now c.args.self.now.tables.items tables c.in-Some.i c.index.result.now has c.index.ensures

pub returns-in-None : goal.returns-in-None
returns-in-None c = λ tables are.
    let none = no_table c.args.records.now c.args.name.now c.args.self.now.tables.items tables are (c.in-None.ensures ∙ ap (position (is_named_at c.args.records.now c.args.name.now)) c.deref.ensures.value) in
    sym (ap (option_map (λ (t : Table). t.definition.schema)) none)
