use Rattle.std.proofs.Common.{◌≡◌, ◌+◌, ◌<◌, ◌≤◌, drop, ◌++◌}
use Rattle.std.specs.Prelude.{All}
use Rattle.cnf.specs.Lrat.{IsId}
use Rattle.lrat_log.specs.Log.{number_in}
use Rattle.eliminate_names.specs.Work.{formula_names}
use Rattle.eliminate_names.proofs.names.Names.of.Given as goal

abbrev pub invariant-loop-place : goal.invariant-loop-place
invariant-loop-place l = record {
  from_one : 0 < l.number;
  few : l.number ≤ l.place + 1;
  numbers : All (λ k. IsId (number_in k)) l.names;
  named : l.names ++ formula_names l.number (drop l.place l.store.slots)
      ≡ formula_names 1 l.store.slots;
}
