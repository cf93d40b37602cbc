use Rattle.std.proofs.Common.{◌≡◌, take, map}
use Rattle.lrat_log.specs.declared.lines.Hint.TheVariants.{Plain}
use Rattle.eliminate.specs.Units.{unit_name, falsified_in}
use Rattle.eliminate.proofs.units.Units.hints.Given as goal

abbrev pub invariant-loop-lit : goal.invariant-loop-lit
invariant-loop-lit l =
    l.hints.items ≡ map (λ k. Plain (unit_name l.self.clauses.items l.names.names k))
    (falsified_in l.self (take l.lit-index l.lit-items))
