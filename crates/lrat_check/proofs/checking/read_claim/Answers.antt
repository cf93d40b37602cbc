use Rattle.std.proofs.Common.{ℕ, [], refl}
use Rattle.std.specs.Prelude.{Ok}
use Rattle.lrat_machine.specs.declared.verdicts.Verdict.TheVariants.{Yes}
use Rattle.lrat_check.specs.Verdict.{proof_verdict}
use Rattle.lrat_check.proofs.Judging.{optimum_sound, optimum_verdict, unsat_sound}
use Rattle.lrat_check.proofs.checking.read_claim.Goals as goal

pub returns-in_ok-formula-in-None-clause-verdict : goal.returns-in_ok-formula-in-None-clause-verdict
returns-in_ok-formula-in-None-clause-verdict c =
    let f = c.in_ok-formula-in-None in
    λ proof. optimum_verdict c.args.profile c.args.instance.now c.args.report.now proof
    c.in-Optimum.solution c.in-Optimum.is c.in-None.ensures.fault
    f.formula f.ensures.clauses {E = ℕ} (Ok (proof_verdict f.formula.clauses proof)) refl

pub returns-in_ok-formula-in-None-clause-sound : goal.returns-in_ok-formula-in-None-clause-sound
returns-in_ok-formula-in-None-clause-sound c =
    let f = c.in_ok-formula-in-None in
    λ none. optimum_sound c.args.profile c.args.instance.now c.args.report.now []
    c.in-Optimum.solution c.in-Optimum.is (c.in-None.ensures.right refl) f.ensures.cheaper
    f.formula f.ensures.clauses {E = ℕ} (Ok Yes) (λ _. none) refl

pub returns-in_ok-formula-in-Unsat-clause-sound : goal.returns-in_ok-formula-in-Unsat-clause-sound
returns-in_ok-formula-in-Unsat-clause-sound c =
    let f = c.in_ok-formula-in-Unsat in
    λ none. unsat_sound c.args.profile c.args.instance.now c.args.report.now [] c.in-Unsat.is
    f.ensures.feasible f.formula f.ensures.clauses {E = ℕ} (Ok Yes) (λ _. none) refl
