-- The fixed clauses and those of the last bound, which are few.
use Rattle.std.proofs.Common.{arith}
use Rattle.std.proofs.lemmas.List.{length-append}
use Rattle.bound.specs.Bound.{fixed_clauses, comparator_for}
use Rattle.bound.proofs.Laws.{clauses_few}
use Rattle.improve.proofs.bounds.Bounds.count_clauses.Goals as goal

pub overflow_add-result : goal.overflow_add-result
overflow_add-result c =
    let s = c.args.self.now in
    let p = c.args.instance.now in
    let over = c.requires.over in
    let b = c.requires.bounded in
    omega (
      arith,
      over.fixed,
      over.last b.1.0 b.0 b.1.1,
      clauses_few s.profile p b.0 over.instance,
      length-append (fixed_clauses s.profile p) (comparator_for s.profile p b.0),
    )

pub returns : goal.returns
returns c = λ before k e.
    let s = c.args.self.now in
    let p = c.args.instance.now in
    let over = c.requires.over in
    omega (
      arith,
      over.fixed,
      over.last before k e,
      length-append (fixed_clauses s.profile p) (comparator_for s.profile p k),
    )
