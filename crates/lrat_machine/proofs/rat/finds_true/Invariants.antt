use Rattle.std.proofs.Common.{◌≡◌, take, false}
use Rattle.std.specs.List.{list_any}
use Rattle.cnf.specs.Clause.{contains_literal, without_literal}
use Rattle.lrat_machine.proofs.rat.finds_true.Given as goal

abbrev pub invariant-loop-lit : goal.invariant-loop-lit
invariant-loop-lit l =
    list_any (λ k. contains_literal k l.assumed.literals)
    (without_literal l.left_out (take l.lit-index l.clause)) ≡ false
