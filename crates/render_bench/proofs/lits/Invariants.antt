-- The literals so far are in range.
use Rattle.std.specs.Prelude.{All}
use Rattle.cnf.specs.Lrat.{IsId}
use Rattle.render_bench.proofs.lits.Given as goal

abbrev pub invariant-loop-k : goal.invariant-loop-k
invariant-loop-k l = All (λ k. IsId k.variable) l.lits.items
