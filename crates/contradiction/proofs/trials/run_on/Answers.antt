-- What the checker took refutes the hard clauses.
use Rattle.std.proofs.Common.{sym, subst}
use Rattle.std.specs.Prelude.{All}
use Rattle.cnf.specs.Clause.{Satisfies}
use Rattle.contradiction.proofs.trials.run_on.Goals as goal

pub returns-in-Yes : goal.returns-in-Yes
returns-in-Yes c t f =
    let k = c.in_ok-formula.ensures in
    c.in_ok-check_lines-in-Contradiction.ensures.sound c.in-Yes.is t
    (subst (λ x. All (Satisfies t) x.clauses) (sym k.clauses) ((k.feasible t).1 f))
