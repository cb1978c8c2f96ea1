-- A name, and the image of a row of the table with this name.
use Rattle.std.proofs.Common.{◌∙◌, sym, ap}
use Rattle.std.specs.Option.{option_copied}
use Rattle.framed_file.specs.Framed.{header_len}
use Rattle.redo_journal.specs.Reading.{told}
use Rattle.redo_journal.proofs.SoundLemmas.{told-sound}
use Rattle.redo_journal.proofs.TakeLemmas.{some_is, none_is, is_schema, only_row, row_no_table, row_no_row, row_more, row_told}
use Rattle.redo_journal.proofs.take.snap_row_of.Goals as goal

pub returns-in_default-schema_of-clause-none : goal.returns-in_default-schema_of-clause-none
returns-in_default-schema_of-clause-none c =
    let name = some_is _ _ _ c.in-Some.is c.in_ok-table.ensures.found in
    let none = sym (c.schema_of.ensures (told c.args.records.now) c.requires.follows) ∙ ap option_copied c.in_default-schema_of.is in
    only_row _ _ (row_no_table (told c.args.records.now) _ _ _ name.1 none)

pub row_of-requires : goal.row_of-requires
row_of-requires c =
    let found = sym (c.schema_of.ensures (told c.args.records.now) c.requires.follows) ∙ ap option_copied c.in-Some-schema_of.is in
    is_schema _ _ _ (told-sound header_len c.args.records.now c.requires.fit) found

pub returns-in_default-2-clause-none : goal.returns-in_default-2-clause-none
returns-in_default-2-clause-none c =
    let name = some_is _ _ _ c.in-Some.is c.in_ok-table.ensures.found in
    let found = sym (c.schema_of.ensures (told c.args.records.now) c.requires.follows) ∙ ap option_copied c.in-Some-schema_of.is in
    only_row _ _ (row_no_row (told c.args.records.now) _ _ _ _ name.1 found (none_is _ _ c.in_default-2.is c.in_ok-row.ensures.none))

pub returns-then-len-rest-clause-none : goal.returns-then-len-rest-clause-none
returns-then-len-rest-clause-none c =
    let name = some_is _ _ _ c.in-Some.is c.in_ok-table.ensures.found in
    let found = sym (c.schema_of.ensures (told c.args.records.now) c.requires.follows) ∙ ap option_copied c.in-Some-schema_of.is in
    let row = some_is _ _ _ c.in-Some-2.is c.in_ok-row.ensures.found in
    let schema = is_schema _ _ _ (told-sound header_len c.args.records.now c.requires.fit) found in
    only_row _ _ (row_more (told c.args.records.now) _ _ _ _ _ _ name.1 found schema row.0 row.1 c.if-len-rest.true)

pub returns-clause-found : goal.returns-clause-found
returns-clause-found c =
    let name = some_is _ _ _ c.in-Some.is c.in_ok-table.ensures.found in
    let found = sym (c.schema_of.ensures (told c.args.records.now) c.requires.follows) ∙ ap option_copied c.in-Some-schema_of.is in
    let row = some_is _ _ _ c.in-Some-2.is c.in_ok-row.ensures.found in
    row_told (told c.args.records.now) _ _ _ _ _ _ name.0 name.1 found row.0 row.1 c.if-len-rest.false
