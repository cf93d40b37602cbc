-- A power of two from 2^64 on exceeds the number.
use Rattle.std.proofs.Common.{◌<◌, ◌≤◌, ◌^◌, arith, sym}
use Rattle.std.proofs.Math.Pow.{pow_mono}
use Rattle.std.proofs.Math.Nat.{div-eq_of_lt}
use Rattle.bound.proofs.comparators.shift_down.Goals as goal

pub returns-else-places-lt64 : goal.returns-else-places-lt64
returns-else-places-lt64 c =
    let above : 2 ^ 64 ≤ 2 ^ c.args.places = pow_mono {i = 64} {j = c.args.places} (omega arith) in
    let below : c.args.number < 2 ^ c.args.places = omega arith in
    sym (div-eq_of_lt below)
