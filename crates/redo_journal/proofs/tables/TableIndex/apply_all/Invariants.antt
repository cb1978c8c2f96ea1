use Rattle.std.proofs.Common.{◌≡◌, List, Some}
use Rattle.log_tables.specs.declared.table.Table.{Table}
use Rattle.log_tables.specs.declared.gist.Prepared.{Prepared}
use Rattle.redo_journal.specs.Index.{AreTablesAt, prepared_at}
use Rattle.redo_journal.proofs.TableLemmas.{Reached}
use Rattle.redo_journal.proofs.tables.TableIndex.apply_all.Given as goal

abbrev pub invariant-loop-change : goal.invariant-loop-change
invariant-loop-change l = (tables : List Table) (it : Prepared) → AreTablesAt l.records l.initial.self.tables.items tables → prepared_at l.records l.number ≡ Some it
    → Reached l.records l.self.tables.items it.changes l.count l.change tables
