use Rattle.std.proofs.Common.{◌≡◌, ◌≤◌, take}
use Rattle.lrat_live.specs.Counts.{times_in}
use Rattle.lrat_live.proofs.counts.times_in.Given as goal

abbrev pub invariant-loop-own : goal.invariant-loop-own
invariant-loop-own l = record {
  so_far : l.times ≡ times_in l.lit (take l.own-index l.clause);
  bound : l.times ≤ l.own-index;
}
