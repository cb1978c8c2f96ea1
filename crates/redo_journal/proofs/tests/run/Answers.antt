use Rattle.std.proofs.Common.{[], ◌∙◌}
use Rattle.redo_journal.specs.declared.record.Record.TheVariants.{SnapLast, Prepare}
use Rattle.redo_journal.specs.Appending.{with_one}
use Rattle.redo_journal.proofs.TestLemmas.{fits_first, fits_second, fits_third, opened_empty}
use Rattle.redo_journal.proofs.tests.run.Goals as goal

pub put-requires : goal.put-requires
put-requires g c =
    let found = opened_empty _ _ _ _ _ _ _ c.is_empty.ensures c.if-not-is_empty.false c.in_ok-journal.found.ok.0 c.in_ok-journal.ensures.journal.1 c.open.ensures.device.told (λ told. (c.in_ok-journal.ensures.opened told).1) in
    ([], found, fits_first)

pub put-requires-2 : goal.put-requires-2
put-requires-2 g c =
    let found = opened_empty _ _ _ _ _ _ _ c.is_empty.ensures c.if-not-is_empty.false c.in_ok-journal.found.ok.0 c.in_ok-journal.ensures.journal.1 c.open.ensures.device.told (λ told. (c.in_ok-journal.ensures.opened told).1) in
    (with_one [] (SnapLast 7), c.in_ok-put.ensures [] found fits_first, fits_second _ (c.new-changes.ensures ∙ c.new.ensures.items))

pub put-requires-3 : goal.put-requires-3
put-requires-3 g c =
    let found = opened_empty _ _ _ _ _ _ _ c.is_empty.ensures c.if-not-is_empty.false c.in_ok-journal.found.ok.0 c.in_ok-journal.ensures.journal.1 c.open.ensures.device.told (λ told. (c.in_ok-journal.ensures.opened told).1) in
    let empty = c.new-changes.ensures ∙ c.new.ensures.items in (
      with_one (with_one [] (SnapLast 7)) (Prepare (record { xid = 1; changes = c.new-changes.result })),
      c.in_ok-put-2.ensures (with_one [] (SnapLast 7)) (c.in_ok-put.ensures [] found fits_first) (fits_second _ empty),
      fits_third _ empty,
    )
