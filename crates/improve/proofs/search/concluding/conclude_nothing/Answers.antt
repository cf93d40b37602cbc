-- The work is that over the hard clauses.
use Rattle.std.proofs.Common.{ap, arith}
use Rattle.lrat_log.specs.Steps.{learned_count}
use Rattle.improve.proofs.HardEnds.{right_nothing}
use Rattle.improve.proofs.search.concluding.conclude_nothing.Goals as goal

pub returns-clause-found : goal.returns-clause-found
returns-clause-found c =
    λ profile. right_nothing profile c.args.instance.now
    (record { hard = c.args.hard; bound = c.new.result }) c.new.ensures c.requires.hard
    c.requires.open

pub returns-clause-work : goal.returns-clause-work
returns-clause-work c = omega (arith, ap learned_count c.new.ensures)
