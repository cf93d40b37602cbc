-- The laws of this crate that other crates cite, from one place.
pub use Rattle.bound.proofs.Cheaper.{says_cheaper}
pub use Rattle.bound.proofs.Clauses.{feasible}
pub use Rattle.bound.proofs.Compared.{compared_with, comparator_open, comparator_some}
pub use Rattle.bound.proofs.Covers.{covers_larger}
pub use Rattle.bound.proofs.Few.{clauses_few, hard_few, without_bound}
pub use Rattle.bound.proofs.Fits.{IsVariable, bound_is_formula, bound_once, kept_once}
pub use Rattle.bound.proofs.Fits.{outputs_variables}
pub use Rattle.bound.proofs.WeightedCost.{AreTight, feasible_same, weighted_below, weighted_choice}
pub use Rattle.bound.proofs.WeightedCost.{weighted_cost, weighted_hold, weighted_same}
pub use Rattle.bound.proofs.WeightedCost.{solution_cost, solution_small}
