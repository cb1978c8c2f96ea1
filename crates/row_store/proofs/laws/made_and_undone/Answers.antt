use Rattle.std.proofs.Common.{ap, List, Option}
use Rattle.std.specs.Prelude.{is_some, unwrap_or}
use Rattle.sql_value.specs.declared.value.Value.{Value}
use Rattle.row_store.specs.Changes.{made_rows}
use Rattle.row_store.proofs.ChangeLemmas.{undone_made}
use Rattle.row_store.proofs.laws.made_and_undone.Goals as goal

pub returns-clause-applies : goal.returns-clause-applies
returns-clause-applies c = λ key change rows ordered applies. ap (λ (o : Option (List (List Value))). is_some o) (undone_made key change rows ordered applies)

pub returns-clause-before : goal.returns-clause-before
returns-clause-before c = λ key change rows ordered applies. ap (λ (o : Option (List (List Value))). unwrap_or o (made_rows key change rows)) (undone_made key change rows ordered applies)
