-- The laws of this crate that other crates cite, from one place.
pub use Rattle.totalizer.proofs.Apart.{AreDifferent, IsNew, below_greatest, different_from}
pub use Rattle.totalizer.proofs.Extending.{Extends, bare_means, leaves_same, means_same}
pub use Rattle.totalizer.proofs.Extending.{stage_extends, stages_extend, totalizer_extends}
pub use Rattle.totalizer.proofs.Growing.{bare_has, outputs_count, outputs_more, stage_has}
pub use Rattle.totalizer.proofs.Growing.{stage_worth, stages_has, stages_worth, totalizer_has}
pub use Rattle.totalizer.proofs.Growing.{totalizer_worth, tree_of_size}
pub use Rattle.totalizer.proofs.Meaning.{stage_leaves, stage_means_back, stage_true}
pub use Rattle.totalizer.proofs.Meaning.{stages_leaves, stages_mean_back, stages_true}
pub use Rattle.totalizer.proofs.Meaning.{totalizer_true}
pub use Rattle.totalizer.proofs.Outputs.{count_steps, outputs_at_most, outputs_next, outputs_value}
pub use Rattle.totalizer.proofs.Outputs.{totalizer_leaves, tree_of_leaves}
pub use Rattle.totalizer.proofs.Staging.{TakesFresh, size_positive, stage_takes}
pub use Rattle.totalizer.proofs.Unary.{outputs_unary}
pub use Rattle.totalizer.proofs.Variables.{outputs_below, stage_apart, stage_below, stage_shape}
pub use Rattle.totalizer.proofs.Variables.{stages_apart, stages_below, stages_few, stages_from}
pub use Rattle.totalizer.proofs.Variables.{stages_shape, stages_size, tree_below_more}
pub use Rattle.totalizer.proofs.Variables.{tree_of_apart, tree_of_below}
