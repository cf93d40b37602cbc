use Rattle.std.proofs.Common.{◌≡◌, true, false, map, refl, rules, subst}
use Rattle.std.proofs.lemmas.Result.{IfOk-from_err}
use Rattle.lrat_log.specs.Log.{axiom_line}
use Rattle.cuts_log.specs.Logs.{Brings}
use Rattle.cuts_solver.specs.Solving.{SolverState}
use Rattle.cuts_solver.proofs.MadeLines.{fails_made}
use Rattle.cuts_solver.proofs.Working.{brings_solver, fails_same, stays_open}
use Rattle.cuts_solver.proofs.solver.CutsSolver.take_made.Goals as goal

pub invariant_of-self : goal.invariant_of-self
invariant_of-self g c =
    let e = c.in_err-is_taken.ensures in
    fails_same _ _ c.self.invariant e.same e.err refl refl refl

pub invariant_of-self-then-not-is_taken : goal.invariant_of-self-then-not-is_taken
invariant_of-self-then-not-is_taken g c =
    let works : c.self.inside.failed ≡ false = search rules in
    stays_open _ _ c.self.invariant works (c.in_ok-is_taken.ensures.refused c.if-not-is_taken.true)

pub invariant_of-self-in_err-give_made : goal.invariant_of-self-in_err-give_made
invariant_of-self-in_err-give_made g c =
    let old : SolverState = record {
      search = c.self.inside.search;
      input = c.self.inside.input;
      log = c.self.inside.log;
      refuted = c.self.inside.refuted;
      failed = c.self.inside.failed;
    } in
    let new : SolverState = record {
      search = c.give_made.new.search;
      input = c.self.inside.input;
      log = c.put_made.new.log;
      refuted = c.self.inside.refuted;
      failed = true;
    } in
    let works : old.failed ≡ false = search rules in
    let going : old.refuted ≡ false = search rules in
    let e = c.in_ok-is_taken.ensures in
    fails_made old new c.self.invariant works going e.same refl refl refl _ c.put_made.new.made
    (e.taken c.if-not-is_taken.false) (e.made c.if-not-is_taken.false)

pub invariant_of-self-2 : goal.invariant_of-self-2
invariant_of-self-2 g c =
    let old : SolverState = record {
      search = c.self.inside.search;
      input = c.self.inside.input;
      log = c.self.inside.log;
      refuted = c.self.inside.refuted;
      failed = c.self.inside.failed;
    } in
    let new : SolverState = record {
      search = c.give_made.new.search;
      input = c.self.inside.input;
      log = c.put_made.new.log;
      refuted = c.self.inside.refuted;
      failed = false;
    } in
    let works : c.self.inside.failed ≡ false = search rules in
    let going : c.self.inside.refuted ≡ false = search rules in
    let e = c.in_ok-is_taken.ensures in
    brings_solver old new c.put_made.new.made c.self.invariant works e.same
    (e.taken c.if-not-is_taken.false) refl refl going c.in_ok-give_made.ensures

pub returns-clause-taken : goal.returns-clause-taken
returns-clause-taken g c = λ _. (
  c.put_made.new.made,
  subst (λ s. Brings (map axiom_line c.put_made.new.made) s.log c.put_made.new.log) c.self.view_is
      (c.in_ok-is_taken.ensures.taken c.if-not-is_taken.false),
)

pub returns-in_err-is_taken-clause-taken : goal.returns-in_err-is_taken-clause-taken
returns-in_err-is_taken-clause-taken g c =
    IfOk-from_err c.from_residual-in_err-is_taken.result _ c.from_residual-in_err-is_taken.ensures.0

pub returns-in_err-is_taken-clause-refused : goal.returns-in_err-is_taken-clause-refused
returns-in_err-is_taken-clause-refused g c =
    IfOk-from_err c.from_residual-in_err-is_taken.result _ c.from_residual-in_err-is_taken.ensures.0

pub returns-in_err-give_made-clause-taken : goal.returns-in_err-give_made-clause-taken
returns-in_err-give_made-clause-taken g c =
    IfOk-from_err c.from_residual-in_err-give_made.result _
    c.from_residual-in_err-give_made.ensures.0

pub returns-in_err-give_made-clause-refused : goal.returns-in_err-give_made-clause-refused
returns-in_err-give_made-clause-refused g c =
    IfOk-from_err c.from_residual-in_err-give_made.result _
    c.from_residual-in_err-give_made.ensures.0
