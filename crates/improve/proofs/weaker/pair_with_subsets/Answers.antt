-- One clause more has its number.
use Rattle.std.proofs.Common.{drop, arith}
use Rattle.lrat_log.specs.Log.{clauses_in}
use Rattle.improve.proofs.FirstSubsets.{weaker_more}
use Rattle.improve.proofs.weaker.pair_with_subsets.Goals as goal

pub loop-place-preserved : goal.loop-place-preserved
loop-place-preserved c =
    let i = c.loop-place.invariant in
    let cs = clauses_in c.args.given.now in
    record {
      low = (let low = i.low in omega arith);
      paired = weaker_more c.loop-place.weaker.items c.push.new.self.items cs
          (drop c.args.end cs) c.args.start c.args.first c.loop-place.place
          c.lits-lits.result.now c.in_ok-from_slice.field-0 c.first_subset-number.result i.low
          c.lits-lits.ensures i.paired c.in_ok-from_slice.ensures.items
          c.first_subset-number.ensures c.in_ok-push.ensures.items;
    }
