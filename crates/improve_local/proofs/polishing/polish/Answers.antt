use Rattle.improve_local.proofs.polishing.polish.Goals as goal

pub returns-then-cost-eq0-clause-as_many : goal.returns-then-cost-eq0-clause-as_many
returns-then-cost-eq0-clause-as_many c = c.requires.as_many

pub returns-then-cost-eq0-clause-feasible : goal.returns-then-cost-eq0-clause-feasible
returns-then-cost-eq0-clause-feasible c = c.requires.feasible

pub returns-in-Some-clause-as_many : goal.returns-in-Some-clause-as_many
returns-in-Some-clause-as_many c = c.in-Some.ensures.as_many

pub returns-in-Some-clause-feasible : goal.returns-in-Some-clause-feasible
returns-in-Some-clause-feasible c = c.in-Some.ensures.feasible

pub returns-in-None-clause-as_many : goal.returns-in-None-clause-as_many
returns-in-None-clause-as_many c = c.requires.as_many

pub returns-in-None-clause-feasible : goal.returns-in-None-clause-feasible
returns-in-None-clause-feasible c = c.requires.feasible
