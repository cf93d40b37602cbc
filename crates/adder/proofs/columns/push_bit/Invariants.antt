use Rattle.std.proofs.Common.{◌≡◌, ◌++◌, take}
use Rattle.adder.specs.Parts.{literals_with}
use Rattle.adder.proofs.columns.push_bit.Given as goal

abbrev pub invariant-loop-relaxation : goal.invariant-loop-relaxation
invariant-loop-relaxation l =
    l.column.items ≡ l.initial.column.items ++ literals_with l.j
    (take l.relaxation-index l.relaxations)
