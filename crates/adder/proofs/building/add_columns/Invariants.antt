use Rattle.std.proofs.Common.{◌+◌, ◌*◌, ◌-◌, [], length}
use Rattle.adder.specs.Network.{columns_from}
use Rattle.adder.specs.Parts.{literals_with}
use Rattle.adder.proofs.Whole.{IsBuilding}
use Rattle.adder.proofs.building.add_columns.Given as goal

abbrev pub invariant-loop-j : goal.invariant-loop-j
invariant-loop-j l =
    let rs = l.relaxations.each.items in
    let whole =
    columns_from (λ j. literals_with j rs) l.relaxations.digits 0 l.relaxations.fresh [] in
    IsBuilding whole (l.relaxations.fresh + 2 * length whole.cells) (λ j. literals_with j rs)
    l.adder.cells.items l.outputs.items (l.relaxations.digits - l.j) l.j l.adder.fresh
    l.adder.carries.items
