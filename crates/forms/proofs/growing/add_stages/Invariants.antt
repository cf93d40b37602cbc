-- The stages so far.
use Rattle.std.proofs.Common.{◌≡◌, ◌≤◌, length}
use Rattle.totalizer.specs.Stages.{stages}
use Rattle.forms.proofs.growing.add_stages.Given as goal

abbrev pub invariant-loop-done : goal.invariant-loop-done
invariant-loop-done l =
    let g = stages l.done 1 l.fn.fresh l.fn.totalizer in
    record {
      tree : l.totalizer ≡ g.tree;
      clauses : l.clauses ≡ g.clauses;
      fresh : l.next ≡ g.fresh;
      few : length l.clauses ≤ l.fn.room;
    }
