use Rattle.std.proofs.Common.{◌≤◌, ◌-◌, length, drop}
use Rattle.adder.specs.Parts.{column_from}
use Rattle.adder.proofs.Queue.{IsAddingUp}
use Rattle.adder.proofs.columns.Adder.add_up.Given as goal

abbrev pub invariant-loop-front : goal.invariant-loop-front
invariant-loop-front l = record {
  within : l.front ≤ length l.column.items;
  adding : IsAddingUp l.initial.self.cells.items l.initial.self.carries.items
      (column_from l.initial.self.fresh l.initial.column.items) l.self.cells.items
      l.self.carries.items l.self.fresh (drop l.front l.column.items);
}

abbrev pub decreases-loop-front : goal.decreases-loop-front
decreases-loop-front l = length l.column.items - l.front
