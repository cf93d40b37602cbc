-- The tables are those of the formula.
use Rattle.std.proofs.Common.{refl}
use Rattle.eliminate.proofs.Starting.{simplified_start}
use Rattle.eliminate.proofs.simplifier.Simplifier.new.Goals as goal

pub returns-clause-simplified : goal.returns-clause-simplified
returns-clause-simplified c frozen long =
    simplified_start _ c.args.vars c.args.store.now.slots frozen c.requires long (record {
      vars_are = refl;
      names = c.in_ok-names.ensures.named;
      ids = c.in_ok-names.ensures.numbers;
      rows = c.in-Ok.ensures.rows;
      places = c.in-Ok.ensures.places;
      removals = c.new-3.ensures;
      marks = c.in_ok-marks.ensures.none;
      works = refl;
    })
