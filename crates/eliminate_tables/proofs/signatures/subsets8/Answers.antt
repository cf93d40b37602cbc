-- A bit of the mask is the test of its lane.
use Rattle.std.proofs.Common.{◌≡◌, ◌<◌, get_or, length, nat_eq, ◌/◌, ◌%◌, ◌^◌, arith, rules}
use Rattle.eliminate_tables.specs.Signatures.{is_within}
use Rattle.eliminate_tables.proofs.Lanes.{filled_more, filled_all, lane_is}
use Rattle.eliminate_tables.proofs.signatures.subsets8.Goals as goal

pub loop-lane-preserved : goal.loop-lane-preserved
loop-lane-preserved c =
    let lt : c.loop-lane.lane < length c.args.block = omega (arith, c.fits-block.0) in
    let here : nat_eq (c.lanes_within-lanes.result / 2 ^ c.loop-lane.lane % 2) 1
    ≡ is_within c.args.sig (get_or c.args.block c.loop-lane.lane 0) =
    rw c.lanes_within-lanes.ensures (lane_is c.args.sig c.args.block c.loop-lane.lane lt) in
    record {
      long = search rules;
      done =
          filled_more c.loop-lane.found c.loop-lane.lane _ _
          (λ k. is_within c.args.sig (get_or c.args.block k 0)) (omega arith) (omega arith)
          c.loop-lane.invariant.done here;
    }

pub returns : goal.returns
returns c =
    let long : length c.args.block ≡ 8 = c.fits-block.0 in
    filled_all c.args.sig c.loop-lane.found c.args.block (omega arith)
    (λ k lt. c.loop-lane.invariant.done k (omega arith))
