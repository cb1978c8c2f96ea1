-- Numbers of so many digits are below so many powers of ten.
use Rattle.std.proofs.Common.{ℕ, ◌+◌, ◌*◌, ◌<◌, ◌≤◌, ◌^◌, arith, lit<, add-one}
use Rattle.std.proofs.Math.Nat.{pow-suc, pow-le-pow_right}

-- what has so many digits, of which there are at most 38, is below 10^38
pub below_limit : (n i : ℕ) → n < 10 ^ i → i ≤ 38 → n < 10 ^ 38
below_limit n i below few = let grows : 10 ^ i ≤ 10 ^ 38 = pow-le-pow_right {n = 10} (lit< tt) few in omega arith

-- a tenth of that limit leaves room for one digit more
pub room_for_digit : (n i : ℕ) → n < 10 ^ i → i < 38 → n < 10 ^ 37
room_for_digit n i below few = let fewer : i ≤ 37 = omega arith in let grows : 10 ^ i ≤ 10 ^ 37 = pow-le-pow_right {n = 10} (lit< tt) fewer in omega arith

pub one_digit_more : (n i d : ℕ) → n < 10 ^ i → d < 10 → n * 10 + d < 10 ^ (i + 1)
one_digit_more n i d below digit = rw (add-one, pow-suc) (omega arith)
