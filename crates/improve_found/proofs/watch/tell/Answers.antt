-- What is shown is the solution.
use Rattle.std.proofs.Common.{Bool, List, sym, subst}
use Rattle.improve_found.specs.Solutions.{IsSolution}
use Rattle.improve_found.proofs.watch.tell.Goals as goal

pub better-requires : goal.better-requires
better-requires g c =
    subst (λ (b : List Bool). IsSolution c.args.instance.now b c.args.solution.now.cost)
    (sym c.deref.ensures.value) c.requires.solution
