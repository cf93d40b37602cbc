-- The laws of this crate that other crates cite, from one place.
pub use Rattle.linear.proofs.Agreeing.{agrees_falsified, agrees_fixed, agrees_none, agrees_widened}
pub use Rattle.linear.proofs.Agreeing.{fixed_length}
pub use Rattle.linear.proofs.Falsified.{falsified_length}
pub use Rattle.linear.proofs.Values.{form_restarted, form_widened, least_below, literals_width}
pub use Rattle.linear.proofs.Values.{restarted_wide, true_weight, value_constant, value_cost}
pub use Rattle.linear.proofs.Values.{value_literals, value_widened, value_zero, weights_width}
pub use Rattle.linear.proofs.Values.{widened_more, widened_wide, widened_width}
