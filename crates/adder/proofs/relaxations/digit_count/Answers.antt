use Rattle.std.proofs.Common.{arith}
use Rattle.adder.proofs.Digits.{binary_length_is}
use Rattle.adder.proofs.Sums.{binary_length_le}
use Rattle.adder.proofs.relaxations.digit_count.Goals as goal

pub returns-clause-digits : goal.returns-clause-digits
returns-clause-digits c = binary_length_is c.args.n c.requires

pub returns-clause-few : goal.returns-clause-few
returns-clause-few c =
    omega (arith, binary_length_is c.args.n c.requires, binary_length_le c.args.n)
