-- What was spent are steps that leave the question open.
use Rattle.std.proofs.Common.{◌+◌, ap}
use Rattle.lrat_log.specs.Steps.{learned_count}
use Rattle.improve.proofs.RightEnds.{right_best}
use Rattle.improve.proofs.search.concluding.conclude_spent.Goals as goal

pub returns-in-Ok-clause-found : goal.returns-in-Ok-clause-found
returns-in-Ok-clause-found c =
    right_best c.args.instance.now c.args.descent.bounds c.args.descent.best.cost
    c.args.descent.best.bits
    (record { hard = c.args.descent.hard; bound = c.in-Ok.bound }) c.requires.over c.in-Ok.ensures
    c.requires.open c.requires.solution c.requires.above c.requires.last c.requires.falling
    c.requires.hard

pub returns-in-Ok-clause-work : goal.returns-in-Ok-clause-work
returns-in-Ok-clause-work c =
    ap (λ n. learned_count c.args.descent.hard + n) c.in-Ok.ensures.learned
