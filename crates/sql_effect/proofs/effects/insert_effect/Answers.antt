use Rattle.std.proofs.Common.{All, List, subst, sym}
use Rattle.sql_value.specs.declared.value.Value.{Value}
use Rattle.row_format.specs.Changes.{AreFitChanges}
use Rattle.row_format.specs.Rows.{IsRow}
use Rattle.sql_effect.specs.Effects.{map_of}
use Rattle.sql_effect.proofs.InsertLemmas.{fit_inserts}
use Rattle.sql_effect.proofs.effects.insert_effect.Goals as goal

pub sized-requires : goal.sized-requires
sized-requires c =
    subst AreFitChanges (sym c.in_ok-changes.ensures)
    (fit_inserts (map_of c.args.table.now.definition) c.in_ok-rows.rows.items (record { named = c.requires.named; schema = c.requires.schema })
    (subst (λ (l : List (List Value)). All (IsRow c.args.table.now.definition.schema) l) c.deref.ensures.value c.in_ok-check_inserts.ensures.rows))
