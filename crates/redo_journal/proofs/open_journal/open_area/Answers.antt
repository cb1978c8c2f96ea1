use Rattle.std.proofs.Common.{refl, arith, ◌∙◌}
use Rattle.disk_model.proofs.LookingLemmas.{looks_more}
use Rattle.redo_journal.proofs.OpenLemmas.{looks_safe, settle_safe, area_was_read, torn_settled, torn_within, torn_size, torn_safe, area_opens, found_side, reached_bounds}
use Rattle.redo_journal.proofs.open_journal.open_area.Goals as goal

pub returns-in_err-size-clause-any_moment : goal.returns-in_err-size-clause-any_moment
returns-in_err-size-clause-any_moment g c = λ wanted told found. looks_safe wanted _ _ _ (looks_more _ _ _ _ _ c.read_area.ensures.looks c.len.ensures.0) told

pub returns-in_err-settle_both-clause-any_moment : goal.returns-in_err-settle_both-clause-any_moment
returns-in_err-settle_both-clause-any_moment g c = λ wanted told found. settle_safe wanted _ _ _ _ _ (looks_more _ _ _ _ _ c.read_area.ensures.looks c.len.ensures.0) c.settle_both.ensures told

pub cut_torn-requires-clause-settled : goal.cut_torn-requires-clause-settled
cut_torn-requires-clause-settled g c =
    let read = area_was_read _ _ _ _ _ _ _ _ _ _ _ c.file-file.ensures c.requires.found c.read_area.ensures.looks c.len.ensures.0 c.in_ok-size.ensures.1 c.area_checksum.ensures c.in_ok-scan.ensures.reached c.in_ok-scan.ensures.read in
    torn_settled _ _ _ _ _ _ _ _ _ _ _ _ read c.in_ok-settle_both.ensures

pub cut_torn-requires-clause-within : goal.cut_torn-requires-clause-within
cut_torn-requires-clause-within g c =
    let read = area_was_read _ _ _ _ _ _ _ _ _ _ _ c.file-file.ensures c.requires.found c.read_area.ensures.looks c.len.ensures.0 c.in_ok-size.ensures.1 c.area_checksum.ensures c.in_ok-scan.ensures.reached c.in_ok-scan.ensures.read in
    torn_within _ _ _ _ _ _ _ _ _ _ _ _ read c.in_ok-settle_both.ensures _ c.from.ensures

pub cut_torn-requires-clause-size : goal.cut_torn-requires-clause-size
cut_torn-requires-clause-size g c =
    let read = area_was_read _ _ _ _ _ _ _ _ _ _ _ c.file-file.ensures c.requires.found c.read_area.ensures.looks c.len.ensures.0 c.in_ok-size.ensures.1 c.area_checksum.ensures c.in_ok-scan.ensures.reached c.in_ok-scan.ensures.read in
    torn_size _ _ _ _ _ _ _ _ _ _ _ _ read c.in_ok-settle_both.ensures

pub returns-in_err-cut_torn-clause-any_moment : goal.returns-in_err-cut_torn-clause-any_moment
returns-in_err-cut_torn-clause-any_moment g c = λ wanted told found.
    let read = area_was_read _ _ _ _ _ _ _ _ _ _ _ c.file-file.ensures c.requires.found c.read_area.ensures.looks c.len.ensures.0 c.in_ok-size.ensures.1 c.area_checksum.ensures c.in_ok-scan.ensures.reached c.in_ok-scan.ensures.read in
    torn_safe _ _ _ _ _ _ _ _ _ _ _ _ read c.in_ok-settle_both.ensures _ _ _ c.from.ensures c.cut_torn.ensures.changes wanted told (found_side wanted _ _ c.args.found found)

pub invariant_of-area : goal.invariant_of-area
invariant_of-area g c =
    let bounds = reached_bounds _ _ c.in_ok-scan.ensures.reached in
    record { small = omega arith; summed = omega arith; counted = omega (arith, bounds.0, c.len-2.ensures); within = bounds.1 }

pub returns-clause-opened : goal.returns-clause-opened
returns-clause-opened g c = λ wanted told found.
    let read = area_was_read _ _ _ _ _ _ _ _ _ _ _ c.file-file.ensures c.requires.found c.read_area.ensures.looks c.len.ensures.0 c.in_ok-size.ensures.1 c.area_checksum.ensures c.in_ok-scan.ensures.reached c.in_ok-scan.ensures.read in
    area_opens _ _ _ _ _ _ _ _ _ _ _ _ read c.in_ok-settle_both.ensures _ _ _ _ _ c.from.ensures c.in_ok-cut_torn.ensures.changes refl refl refl refl refl refl (c.len-2.ensures ∙ c.in_ok-scan.scan.records.ok.0) wanted told (found_side wanted _ _ c.args.found found)

pub returns-clause-any_moment : goal.returns-clause-any_moment
returns-clause-any_moment g c = λ wanted told found.
    let read = area_was_read _ _ _ _ _ _ _ _ _ _ _ c.file-file.ensures c.requires.found c.read_area.ensures.looks c.len.ensures.0 c.in_ok-size.ensures.1 c.area_checksum.ensures c.in_ok-scan.ensures.reached c.in_ok-scan.ensures.read in
    torn_safe _ _ _ _ _ _ _ _ _ _ _ _ read c.in_ok-settle_both.ensures _ _ _ c.from.ensures c.cut_torn.ensures.changes wanted told (found_side wanted _ _ c.args.found found)
