use Rattle.std.proofs.Common.{◌≡◌, ap, true, false}
use Rattle.std.specs.Prelude.{◌||◌}
use Rattle.engine_api.specs.Live.{is_key_taken}
use Rattle.sql_effect.proofs.PlaceLemmas.{taken-append}
use Rattle.sql_effect.proofs.keys.is_taken_in_two.Goals as goal

pub returns-then-is_key_taken : goal.returns-then-is_key_taken
returns-then-is_key_taken c =
    let front : is_key_taken c.args.key c.args.front.now c.args.row.now ≡ true = cc in
    cc (taken-append c.args.key c.args.front.now c.args.back.now c.args.row.now, ap (λ b. b || is_key_taken c.args.key c.args.back.now c.args.row.now) front)

pub returns-else-is_key_taken : goal.returns-else-is_key_taken
returns-else-is_key_taken c =
    let front : is_key_taken c.args.key c.args.front.now c.args.row.now ≡ false = cc in
    cc (taken-append c.args.key c.args.front.now c.args.back.now c.args.row.now, ap (λ b. b || is_key_taken c.args.key c.args.back.now c.args.row.now) front)
