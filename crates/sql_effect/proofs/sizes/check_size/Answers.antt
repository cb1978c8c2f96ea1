use Rattle.std.proofs.Common.{◌≡◌, sym, ap, arith, length}
use Rattle.sql_effect.proofs.SizeLemmas.{many_changes}
use Rattle.sql_effect.proofs.sizes.check_size.Goals as goal

pub returns-then-as_slice-gt-TRANSACTION_LIMIT : goal.returns-then-as_slice-gt-TRANSACTION_LIMIT
returns-then-as_slice-gt-TRANSACTION_LIMIT c =
    let long : length c.as_slice.result.now ≡ length c.args.changes.now = ap length c.as_slice.ensures in
    sym (many_changes c.args.before c.args.changes.now (omega arith))
