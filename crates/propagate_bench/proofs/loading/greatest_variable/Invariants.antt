use Rattle.std.proofs.Common.{◌<◌, ◌^◌}
use Rattle.propagate_bench.proofs.loading.greatest_variable.Given as goal

abbrev pub invariant-loop-token : goal.invariant-loop-token
invariant-loop-token l = l.greatest < 2 ^ 27

abbrev pub invariant-loop-number : goal.invariant-loop-number
invariant-loop-number l = l.greatest < 2 ^ 27
