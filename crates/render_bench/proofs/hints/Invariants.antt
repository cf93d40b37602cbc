-- The hints so far are in range.
use Rattle.std.proofs.Common.{◌<◌, ◌^◌}
use Rattle.std.specs.Prelude.{All}
use Rattle.cnf.specs.Lrat.{IsId}
use Rattle.lrat_log.specs.Log.{id_of, name_of, number_in}
use Rattle.render_bench.specs.declared.TheConstants.{BASE}
use Rattle.render_bench.proofs.hints.Given as goal

abbrev pub invariant-loop-k : goal.invariant-loop-k
invariant-loop-k l = All (λ h. IsId (number_in (name_of h))) l.hints.items
    × All (λ h. id_of BASE (name_of h) < 2 ^ 62) l.hints.items
