use Rattle.std.proofs.Common.{rules, subst, sym}
use Rattle.std.proofs.lemmas.Result.{IfOk-from_err}
use Rattle.cuts_log.specs.Logs.{lines_seen}
use Rattle.cdcl.proofs.Laws.{paid_nothing}
use Rattle.cuts_solver.specs.Solving.{PaysLines, SameSolver, SolverState}
use Rattle.cuts_solver.proofs.solver.CutsSolver.search.Goals as goal

pub returns-in_err-is_open-clause-pays : goal.returns-in_err-is_open-clause-pays
returns-in_err-is_open-clause-pays g c =
    let s = c.args.self.now in paid_nothing (s.input).given (lines_seen s.log) c.args.budget.now

pub returns-then-not-branch-clause-pays : goal.returns-then-not-branch-clause-pays
returns-then-not-branch-clause-pays g c =
    let s = c.args.self.now in paid_nothing (s.input).given (lines_seen s.log) c.args.budget.now

pub returns-in_err-end : goal.returns-in_err-end
returns-in_err-end g c =
    let e = c.search_on.ensures in
    record {
      end =
          IfOk-from_err c.from_residual-in_err-end.result _
          c.from_residual-in_err-end.ensures.0;
      pays = e.pays;
      same = e.same;
      waives = e.waives;
      same_seen = e.same_seen;
      follows = e.follows;
    }

pub returns-in_err-bits-in-Satisfied : goal.returns-in_err-bits-in-Satisfied
returns-in_err-bits-in-Satisfied g c =
    let e = c.search_on.ensures in
    let kept = sym c.solution.ensures.kept in
    record {
      end =
          IfOk-from_err c.from_residual-in_err-bits-in-Satisfied.result _
          c.from_residual-in_err-bits-in-Satisfied.ensures.0;
      pays =
          subst (λ (s : SolverState). PaysLines c.args.self.now s c.args.budget.now
          c.search_on.new.budget) kept e.pays;
      same = subst (λ (s : SolverState). SameSolver c.args.self.now s) kept e.same;
      waives = e.waives;
      same_seen = e.same_seen;
      follows = e.follows;
    }

pub returns-in_ok-bits-in-Satisfied : goal.returns-in_ok-bits-in-Satisfied
returns-in_ok-bits-in-Satisfied g c =
    let e = c.search_on.ensures in
    let kept = sym c.solution.ensures.kept in
    record {
      end = search rules;
      pays =
          subst (λ (s : SolverState). PaysLines c.args.self.now s c.args.budget.now
          c.search_on.new.budget) kept e.pays;
      same = subst (λ (s : SolverState). SameSolver c.args.self.now s) kept e.same;
      waives = e.waives;
      same_seen = e.same_seen;
      follows = e.follows;
    }

pub returns-in-Refuted : goal.returns-in-Refuted
returns-in-Refuted g c =
    let e = c.search_on.ensures in
    record {
      end = search rules;
      pays = e.pays;
      same = e.same;
      waives = e.waives;
      same_seen = e.same_seen;
      follows = e.follows;
    }

pub returns-in-Stopped : goal.returns-in-Stopped
returns-in-Stopped g c =
    let e = c.search_on.ensures in
    record {
      end = tt;
      pays = e.pays;
      same = e.same;
      waives = e.waives;
      same_seen = e.same_seen;
      follows = e.follows;
    }

pub returns-in-Spent : goal.returns-in-Spent
returns-in-Spent g c =
    let e = c.search_on.ensures in
    record {
      end = search rules;
      pays = e.pays;
      same = e.same;
      waives = e.waives;
      same_seen = e.same_seen;
      follows = e.follows;
    }
