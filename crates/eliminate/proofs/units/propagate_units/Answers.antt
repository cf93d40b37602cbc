-- At first nothing is true.
use Rattle.eliminate.proofs.units.propagate_units.Goals as goal

pub propagate-requires : goal.propagate-requires
propagate-requires g c = record {
  is_open = c.requires;
  units = c.in_ok-units.ensures.units c.args.store.now.slots;
  fits = c.in_ok-units.ensures.rows;
}
