-- The laws of this crate that other crates cite, from one place.
pub use Rattle.adder.proofs.Choice.{AreRelaxedBelow, IsRelaxedTightly, clause_same}
pub use Rattle.adder.proofs.Choice.{literal_same, relaxed_below, relaxed_choice}
pub use Rattle.adder.proofs.InEachProfile.{adders_with, adds_up, cells_extend, cells_few}
pub use Rattle.adder.proofs.InEachProfile.{outputs_few}
pub use Rattle.adder.proofs.InEachProfile.{outputs_sum}
pub use Rattle.adder.proofs.Small.{filter_le, fresh_few}
pub use Rattle.adder.proofs.Sums.{digit, relaxed_cases, relaxed_soft, relaxed_weights}
pub use Rattle.adder.proofs.Variables.{AreOf, IsCellWith, IsOutputOf, relaxed_with}
