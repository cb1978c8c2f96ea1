use Rattle.std.proofs.Common.{refl}
use Rattle.sql_effect.specs.declared.shape.Effect.{Effect}
use Rattle.sql_exec.proofs.BackLemmas.{all_back, rows_back, rows_device, rows_done}
use Rattle.sql_exec.proofs.RowsLemmas.{can_all}
use Rattle.sql_exec.proofs.inserting.insert_rows.Goals as goal

pub add_rows-requires-clause-can : goal.add_rows-requires-clause-can
add_rows-requires-clause-can g c = can_all _ _ _ _ _ _ c.deref.ensures.value c.requires.can

pub returns-then-is_device-clause-carries : goal.returns-then-is_device-clause-carries
returns-then-is_device-clause-carries g c =
    let target = c.args.target.now in
    rows_device Effect target.txn target.table.now target.schema.now c.deref.result.now c.args.rows.items c.add_rows.ensures.carries.0 _ _ c.add_rows.result c.in-Err.fault _ _ _ _ _ c.deref.ensures.value
    c.requires.can.idle c.add_rows.ensures.carries.1 c.in-Err.is (c.if-is_device.ensures.yes refl)

pub returns-in-Err-clause-carries : goal.returns-in-Err-clause-carries
returns-in-Err-clause-carries g c =
    let target = c.args.target.now in
    rows_back Effect target.txn target.table.now target.schema.now c.deref.result.now c.args.rows.items c.add_rows.ensures.carries.0 _ _ _ _ c.add_rows.result c.in-Err.fault _ _ _ _ _ _ _ _ _ c.deref.ensures.value
    c.requires.can.idle c.add_rows.ensures.carries.1 c.in-Err.is (c.is_device.ensures.no c.if-is_device.false) c.add_rows.ensures.same c.take_back.ensures.carries

pub returns-in-Ok-effect_of_rows-clause-carries : goal.returns-in-Ok-effect_of_rows-clause-carries
returns-in-Ok-effect_of_rows-clause-carries g c =
    let target = c.args.target.now in
    rows_done target.txn target.table.now target.schema.now c.deref.result.now c.args.rows.items c.add_rows.ensures.carries.0 _ _ c.add_rows.result c.in-Ok.field-0 _ _ _ _ _ _ c.deref.ensures.value c.requires.can.idle
    c.add_rows.ensures.carries.1 c.in-Ok.is

pub returns-in-Err-effect_of_rows-clause-carries : goal.returns-in-Err-effect_of_rows-clause-carries
returns-in-Err-effect_of_rows-clause-carries g c =
    let target = c.args.target.now in
    all_back Effect target.txn target.table.now target.schema.now c.deref.result.now c.args.rows.items c.add_rows.ensures.carries.0 _ _ _ _ c.add_rows.result c.in-Ok.field-0 _ _ _ _ _ _ _ _ _ c.deref.ensures.value
    c.requires.can.idle c.add_rows.ensures.carries.1 c.in-Ok.is c.add_rows.ensures.same c.take_back-in-Err-effect_of_rows.ensures.carries
