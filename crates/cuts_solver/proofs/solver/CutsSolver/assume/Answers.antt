use Rattle.std.proofs.Common.{refl, rules, subst, sym}
use Rattle.std.proofs.lemmas.Result.{IfOk-from_err}
use Rattle.cdcl_search.specs.Cores.{IsShown}
use Rattle.cuts_log.specs.Logs.{lines_seen}
use Rattle.cdcl.proofs.Laws.{paid_nothing}
use Rattle.cuts_solver.specs.Solving.{PaysLines, SameSolver, SolverState}
use Rattle.cuts_solver.proofs.Searching.{pays_on, same_on}
use Rattle.cuts_solver.proofs.solver.CutsSolver.assume.Goals as goal

pub returns-in_err-is_open-clause-pays : goal.returns-in_err-is_open-clause-pays
returns-in_err-is_open-clause-pays g c =
    let s = c.args.self.now in paid_nothing (s.input).given (lines_seen s.log) c.args.budget.now

pub returns-then-not-branch-clause-pays : goal.returns-then-not-branch-clause-pays
returns-then-not-branch-clause-pays g c =
    let s = c.args.self.now in paid_nothing (s.input).given (lines_seen s.log) c.args.budget.now

pub returns-in_err-end : goal.returns-in_err-end
returns-in_err-end g c =
    let e = c.search_on.ensures in
    record {
      assumed =
          IfOk-from_err c.from_residual-in_err-end.result _
          c.from_residual-in_err-end.ensures.0;
      pays = e.pays;
      same = e.same;
      waives = e.waives;
      same_seen = e.same_seen;
      same_lits = e.follows c.args.guide.now refl;
    }

pub returns-in_err-bits-in-Satisfied : goal.returns-in_err-bits-in-Satisfied
returns-in_err-bits-in-Satisfied g c =
    let e = c.search_on.ensures in
    let kept = sym c.solution.ensures.kept in
    record {
      assumed =
          IfOk-from_err c.from_residual-in_err-bits-in-Satisfied.result _
          c.from_residual-in_err-bits-in-Satisfied.ensures.0;
      pays =
          subst (λ (s : SolverState). PaysLines c.args.self.now s c.args.budget.now
          c.search_on.new.budget) kept e.pays;
      same = subst (λ (s : SolverState). SameSolver c.args.self.now s) kept e.same;
      waives = e.waives;
      same_seen = e.same_seen;
      same_lits = e.follows c.args.guide.now refl;
    }

pub returns-in_ok-bits-in-Satisfied : goal.returns-in_ok-bits-in-Satisfied
returns-in_ok-bits-in-Satisfied g c =
    let e = c.search_on.ensures in
    let kept = sym c.solution.ensures.kept in
    record {
      assumed = search rules;
      pays =
          subst (λ (s : SolverState). PaysLines c.args.self.now s c.args.budget.now
          c.search_on.new.budget) kept e.pays;
      same = subst (λ (s : SolverState). SameSolver c.args.self.now s) kept e.same;
      waives = e.waives;
      same_seen = e.same_seen;
      same_lits = e.follows c.args.guide.now refl;
    }

pub returns-in-Refuted : goal.returns-in-Refuted
returns-in-Refuted g c =
    let e = c.search_on.ensures in
    record {
      assumed = search rules;
      pays = e.pays;
      same = e.same;
      waives = e.waives;
      same_seen = e.same_seen;
      same_lits = e.follows c.args.guide.now refl;
    }

pub returns-in-Spent : goal.returns-in-Spent
returns-in-Spent g c =
    let e = c.search_on.ensures in
    record {
      assumed = search rules;
      pays = e.pays;
      same = e.same;
      waives = e.waives;
      same_seen = e.same_seen;
      same_lits = e.follows c.args.guide.now refl;
    }

pub returns-in_err-found-in-Stopped : goal.returns-in_err-found-in-Stopped
returns-in_err-found-in-Stopped g c =
    let e = c.search_on.ensures in
    record {
      assumed =
          IfOk-from_err c.from_residual-in_err-found-in-Stopped.result _
          c.from_residual-in_err-found-in-Stopped.ensures.0;
      pays =
          pays_on c.args.self.now c.search_on.new.self c.core.new.self c.args.budget.now
          c.search_on.new.budget c.core.new.budget c.core.ensures.same_input e.pays
          c.core.ensures.pays;
      same =
          same_on c.args.self.now c.search_on.new.self c.core.new.self e.same c.core.ensures.same;
      waives = search rules;
      same_seen = e.same_seen;
      same_lits = e.follows c.args.guide.now refl;
    }

pub returns-in-Some : goal.returns-in-Some
returns-in-Some g c =
    let e = c.search_on.ensures in
    record {
      assumed =
          subst (λ a. IsShown c.core.new.self.search.store.slots a c.in-Some.core.items)
          (e.follows c.args.guide.now refl)
          (rw c.in-Some.is at c.in_ok-found-in-Stopped.ensures.shown);
      pays =
          pays_on c.args.self.now c.search_on.new.self c.core.new.self c.args.budget.now
          c.search_on.new.budget c.core.new.budget c.core.ensures.same_input e.pays
          c.core.ensures.pays;
      same =
          same_on c.args.self.now c.search_on.new.self c.core.new.self e.same c.core.ensures.same;
      waives = search rules;
      same_seen = e.same_seen;
      same_lits = e.follows c.args.guide.now refl;
    }

pub returns-in-None : goal.returns-in-None
returns-in-None g c =
    let e = c.search_on.ensures in
    record {
      assumed = tt;
      pays =
          pays_on c.args.self.now c.search_on.new.self c.core.new.self c.args.budget.now
          c.search_on.new.budget c.core.new.budget c.core.ensures.same_input e.pays
          c.core.ensures.pays;
      same =
          same_on c.args.self.now c.search_on.new.self c.core.new.self e.same c.core.ensures.same;
      waives = search rules;
      same_seen = e.same_seen;
      same_lits = e.follows c.args.guide.now refl;
    }
