use Rattle.std.proofs.Common.{arith}
use Rattle.adder.specs.Network.{total_weight, relaxed_as}
use Rattle.adder.proofs.Sums.{binary_length_le}
use Rattle.adder.proofs.InEachProfile.{adds_up}
use Rattle.adder.proofs.Whole.{columns_are, if_ok_from}
use Rattle.adder.proofs.building.network_as.Goals as goal

pub add_columns-requires : goal.add_columns-requires
add_columns-requires c =
    let p = c.args.instance.now in
    let r = c.in_ok-relaxations.ensures in
    let same = columns_are (relaxed_as c.args.profile p) (total_weight p) r.each r.digits r.fresh in
    let law = adds_up c.args.profile p r.limits in
    record {
      digits = omega (arith, binary_length_le (total_weight p), r.digits);
      small = rw same (omega (arith, law.small.0, r.fresh));
    }

pub returns : goal.returns
returns c =
    let p = c.args.instance.now in
    let r = c.in_ok-relaxations.ensures in
    let same = columns_are (relaxed_as c.args.profile p) (total_weight p) r.each r.digits r.fresh in
    let built = rw same at c.add_columns.ensures in
    record {
      cells = built;
      adds_up = if_ok_from _ c.add_columns.result built (adds_up c.args.profile p r.limits);
    }
