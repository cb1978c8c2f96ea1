use Rattle.std.proofs.Common.{sym, ap, ◌∙◌, List, Option}
use Rattle.std.specs.Prelude.{is_some}
use Rattle.sql_value.specs.declared.value.Value.{Value}
use Rattle.row_store.proofs.tests.there_and_back.Goals as goal

pub make-requires : goal.make-requires
make-requires c = record { applies = sym c.applies.ensures ∙ c.if-not-applies.false }

pub undo-requires : goal.undo-requires
undo-requires c = record { applies = ap (λ (o : Option (List (List Value))). is_some o) c.in_ok-make.ensures.undone; spare = c.in_ok-make.ensures.room }
