-- The answers of the solver, about solutions.
use Rattle.std.proofs.Common.{subst, arith}
use Rattle.std.proofs.lemmas.Bool.{false≢true}
use Rattle.lrat_log.specs.Steps.{IsAcceptedLog}
use Rattle.improve.proofs.CheaperBits.{bits_cheaper, cost_cheaper, bits_long, zero_refuted}
use Rattle.improve.proofs.CheaperBits.{above_zero, same_given, solved_over, learned_more}
use Rattle.improve.proofs.bounds.Bounds.solve.Goals as goal

pub price-requires-clause-long : goal.price-requires-clause-long
price-requires-clause-long g c =
    let sat = rw c.in-Sat.is at c.in-Ok.ensures.solves.sat in
    bits_long c.args.instance.now c.args.self.now c.in-Sat.bits.items c.requires.over sat.0

pub price-requires-clause-feasible : goal.price-requires-clause-feasible
price-requires-clause-feasible g c = λ t x.
    let sat = rw c.in-Sat.is at c.in-Ok.ensures.solves.sat in
    let b = c.requires.bounded in
    (bits_cheaper c.args.instance.now c.args.self.now b.1.0 b.0 c.in-Sat.bits.items c.requires.over
    b.1.1 sat.1 t x).0

pub returns-in-Sat-clause-next : goal.returns-in-Sat-clause-next
returns-in-Sat-clause-next g c =
    let p = c.args.instance.now in
    let b = c.args.self.now in
    let bits = c.in-Sat.bits.items in
    let sat = rw c.in-Sat.is at c.in-Ok.ensures.solves.sat in
    let answers = rw c.in-Sat.is at c.in-Ok.ensures.solves.answers in
    record {
      solution = c.price.ensures.solution;
      below =
          λ before k e. cost_cheaper p b before k c.price.result.cost bits c.requires.over e sat.1
          c.price.ensures.cost;
      answers = answers;
    }

pub returns-in-Unsat-clause-next : goal.returns-in-Unsat-clause-next
returns-in-Unsat-clause-next g c =
    let accepted = rw c.in-Unsat.is at c.in-Ok.ensures.solves.unsat in
    let answers = rw c.in-Unsat.is at c.in-Ok.ensures.solves.answers in
    let same =
    same_given c.args.self.now.solver c.solve_watched.new.self
    c.solve_watched.ensures.solves.given in
    record {
      accepted = subst (λ g. IsAcceptedLog g c.solve_watched.new.self.sink) same accepted;
      answers = omega (arith, answers);
    }

pub returns-in-Limit-clause-next : goal.returns-in-Limit-clause-next
returns-in-Limit-clause-next g c =
    let p = c.args.instance.now in
    let b = c.args.self.now in
    let free = rw c.in-Limit.is at c.in-Ok.ensures.solves.stays_open in
    let refuted = rw c.in-Limit.is at c.in-Ok.ensures.solves.refuted in
    let left = rw c.in-Limit.is at c.in-Ok.ensures.solves.limit in
    let answers = rw c.in-Limit.is at c.in-Ok.ensures.solves.answers in
    record {
      open_end = free (λ e. cc);
      above_zero =
          λ before k e. above_zero k
          (λ z. let r = refuted (zero_refuted p b before k c.requires.over e z) in cc);
      none_left = left;
      answers = omega (arith, answers);
    }

pub returns-in-Sat-clause-over : goal.returns-in-Sat-clause-over
returns-in-Sat-clause-over g c =
    let s = c.solve_watched.ensures.solves in
    solved_over c.args.instance.now c.args.self.now c.solve_watched.new.self c.requires.over
    s.given (λ f. false≢true (c.in-Ok.ensures.solves.fails.1 f)) s.lines s.grows s.new

pub returns-in-Unsat-clause-over : goal.returns-in-Unsat-clause-over
returns-in-Unsat-clause-over g c =
    let s = c.solve_watched.ensures.solves in
    solved_over c.args.instance.now c.args.self.now c.solve_watched.new.self c.requires.over
    s.given (λ f. false≢true (c.in-Ok.ensures.solves.fails.1 f)) s.lines s.grows s.new

pub returns-in-Limit-clause-over : goal.returns-in-Limit-clause-over
returns-in-Limit-clause-over g c =
    let s = c.solve_watched.ensures.solves in
    solved_over c.args.instance.now c.args.self.now c.solve_watched.new.self c.requires.over
    s.given (λ f. false≢true (c.in-Ok.ensures.solves.fails.1 f)) s.lines s.grows s.new

pub returns-in_default-clause-learned : goal.returns-in_default-clause-learned
returns-in_default-clause-learned g c =
    let s = c.solve_watched.ensures.solves in
    learned_more c.args.self.now.solver.sink c.solve_watched.new.self.sink
    c.args.budget.now.learned c.solve_watched.new.budget.learned s.grows s.learned

pub returns-in-Sat-clause-learned : goal.returns-in-Sat-clause-learned
returns-in-Sat-clause-learned g c =
    let s = c.solve_watched.ensures.solves in
    learned_more c.args.self.now.solver.sink c.solve_watched.new.self.sink
    c.args.budget.now.learned c.solve_watched.new.budget.learned s.grows s.learned

pub returns-in-Unsat-clause-learned : goal.returns-in-Unsat-clause-learned
returns-in-Unsat-clause-learned g c =
    let s = c.solve_watched.ensures.solves in
    learned_more c.args.self.now.solver.sink c.solve_watched.new.self.sink
    c.args.budget.now.learned c.solve_watched.new.budget.learned s.grows s.learned

pub returns-in-Limit-clause-learned : goal.returns-in-Limit-clause-learned
returns-in-Limit-clause-learned g c =
    let s = c.solve_watched.ensures.solves in
    learned_more c.args.self.now.solver.sink c.solve_watched.new.self.sink
    c.args.budget.now.learned c.solve_watched.new.budget.learned s.grows s.learned
