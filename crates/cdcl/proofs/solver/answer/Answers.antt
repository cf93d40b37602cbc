use Rattle.std.proofs.Common.{refl}
use Rattle.std.specs.Prelude.{Ok}
use Rattle.std.specs.declared.alloc.AllocError.{AllocError}
use Rattle.cdcl.specs.declared.outcome.Outcome.TheVariants.{Unsat, Limit}
use Rattle.cdcl.proofs.Solved.{err_without, pays_without}
use Rattle.cdcl.proofs.solver.answer.Goals as goal

pub bits-requires-clause-runs : goal.bits-requires-clause-runs
bits-requires-clause-runs g c =
    let e = rw c.in-Satisfied.is at c.in_ok-end.ensures.search.ends in
    (g.S.Sink.lines c.search_undirected.new.sink.sink, e.runs)

pub bits-requires-clause-fixpoint : goal.bits-requires-clause-fixpoint
bits-requires-clause-fixpoint g c =
    let e = rw c.in-Satisfied.is at c.in_ok-end.ensures.search.ends in e.fixpoint

pub returns-in_err-end-clause-pays : goal.returns-in_err-end-clause-pays
returns-in_err-end-clause-pays g c =
    let r = c.from_residual in
    pays_without c.args.budget.now c.search_undirected.new.budget r.result
    (err_without r.result r.ensures.0) c.search_undirected.ensures.search.pays

pub returns-in_err-bits-in-Satisfied-clause-pays : goal.returns-in_err-bits-in-Satisfied-clause-pays
returns-in_err-bits-in-Satisfied-clause-pays g c =
    let r = c.from_residual-in_err-bits-in-Satisfied in
    pays_without c.args.budget.now c.search_undirected.new.budget r.result
    (err_without r.result r.ensures.0) c.search_undirected.ensures.search.pays

pub returns-in-Refuted-clause-pays : goal.returns-in-Refuted-clause-pays
returns-in-Refuted-clause-pays g c =
    pays_without {E = AllocError} c.args.budget.now c.search_undirected.new.budget (Ok Unsat) refl
    c.search_undirected.ensures.search.pays

pub returns-in-Spent-clause-pays : goal.returns-in-Spent-clause-pays
returns-in-Spent-clause-pays g c =
    pays_without {E = AllocError} c.args.budget.now c.search_undirected.new.budget (Ok Limit) refl
    c.search_undirected.ensures.search.pays
