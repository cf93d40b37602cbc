-- The ids so far are small.
use Rattle.lrat_log.specs.Log.{HasSmallIds}
use Rattle.render_bench.specs.declared.TheConstants.{BASE}
use Rattle.render_bench.proofs.log.Given as goal

abbrev pub invariant-loop-k : goal.invariant-loop-k
invariant-loop-k l = HasSmallIds BASE l.log
