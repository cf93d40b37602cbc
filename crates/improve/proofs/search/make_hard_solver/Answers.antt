-- The clauses are those of the formula.
use Rattle.std.proofs.Common.{◌∙◌}
use Rattle.improve.proofs.Numbering.{given_whole}
use Rattle.improve.proofs.search.make_hard_solver.Goals as goal

pub returns : goal.returns
returns c =
    let formula = c.in_ok-solver.ensures.given.0 ∙ c.in_ok-formula.ensures.clauses in
    record {
      instance = c.limits.ensures;
      works = c.in_ok-solver.ensures.works;
      formula = formula;
      given = given_whole c.in_ok-solver.solver _ formula c.in_ok-solver.ensures.given.1;
      learned = c.in_ok-solver.ensures.none_learned;
    }
