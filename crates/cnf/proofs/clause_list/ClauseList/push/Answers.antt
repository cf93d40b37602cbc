use Rattle.std.proofs.Common.{◌≡◌, ◌+◌, ◌<◌, ◌^◌, length, arith}
use Rattle.cnf.proofs.Cutting.{clause_added, cut_added}
use Rattle.cnf.proofs.clause_list.ClauseList.push.Goals as goal

pub invariant_of-self-2 : goal.invariant_of-self-2
invariant_of-self-2 c =
    let ls = c.self.inside.lits.items in
    let es = c.self.inside.ends.items in
    let start : c.len-start.result ≡ length ls = omega (arith, c.self.inside.lits.ok.0) in
    let few : length ls + length c.args.lits.now < 2 ^ 32 = omega arith in
    rw (
      c.in_ok-push.ensures.items,
      c.in_ok-reserve.ensures.items,
      c.in_ok-extend_from_slice.ensures.items,
      start,
    )
    (cut_added ls c.args.lits.now es c.self.invariant few)

pub returns-clause-ok : goal.returns-clause-ok
returns-clause-ok c =
    let ls = c.self.inside.lits.items in
    let es = c.self.inside.ends.items in
    let start : c.len-start.result ≡ length ls = omega (arith, c.self.inside.lits.ok.0) in
    rw (
      c.in_ok-push.ensures.items,
      c.in_ok-reserve.ensures.items,
      c.in_ok-extend_from_slice.ensures.items,
      start,
      ← c.self.view_is,
    )
    (clause_added ls c.args.lits.now es c.self.invariant)
