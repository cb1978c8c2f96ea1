use Rattle.sql_exec.proofs.SelectLemmas.{key_selects, plan_key, scan_selects}
use Rattle.sql_exec.proofs.selecting.select.Goals as goal

pub select_by_key-requires-clause-key : goal.select_by_key-requires-clause-key
select_by_key-requires-clause-key g c = plan_key _ _ _ _ _ _ c.requires.select c.in-Select.is c.in-Key.is

pub returns-in-Key-clause-selects : goal.returns-in-Key-clause-selects
returns-in-Key-clause-selects g c =
    key_selects _ _ _ _ _ _ _ _ _ c.select_by_key.result c.requires.select c.in-Select.is c.in-Key.is c.as_slice-columns.ensures c.select_by_key.ensures.rows c.select_by_key.ensures.answers

pub returns-in_default-path-clause-selects : goal.returns-in_default-path-clause-selects
returns-in_default-path-clause-selects g c = scan_selects _ _ _ _ _ _ _ _ c.scan.result c.in-Select.is c.as_slice-columns.ensures c.scan.ensures.searches
