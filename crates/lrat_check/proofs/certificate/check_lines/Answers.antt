use Rattle.cnf.proofs.Laws.{certificate_sound}
use Rattle.lrat_machine.proofs.Laws.{yes_is_proof, yes_is_sound}
use Rattle.lrat_check.proofs.certificate.check_lines.Goals as goal

pub returns-in-Ok-clause-yes : goal.returns-in-Ok-clause-yes
returns-in-Ok-clause-yes c =
    yes_is_proof c.args.formula.now c.args.proof.now c.in-Ok.verdict c.limits.ensures
    (c.in-Ok.ensures c.args.formula.now.clauses c.in_ok-checker.ensures.judged).all

pub returns-in-Ok-clause-sound : goal.returns-in-Ok-clause-sound
returns-in-Ok-clause-sound c =
    yes_is_sound c.args.formula.now c.args.proof.now c.in-Ok.verdict c.limits.ensures
    (c.in-Ok.ensures c.args.formula.now.clauses c.in_ok-checker.ensures.judged).all

pub returns-in-Ok-clause-accepted : goal.returns-in-Ok-clause-accepted
returns-in-Ok-clause-accepted c = certificate_sound c.args.formula.now.clauses

pub returns-in-Err-clause-accepted : goal.returns-in-Err-clause-accepted
returns-in-Err-clause-accepted c = certificate_sound c.args.formula.now.clauses

pub returns-in_err-checker-clause-accepted : goal.returns-in_err-checker-clause-accepted
returns-in_err-checker-clause-accepted c = certificate_sound c.args.formula.now.clauses
