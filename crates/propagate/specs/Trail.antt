-- The trail, in the words of the crate that keeps it.
pub use Rattle.propagate_trail.specs.Trail.{Assigned, is_decision, literals_of, depth_of}
pub use Rattle.propagate_trail.specs.Trail.{level_after, level_from, level_in, level_of}
pub use Rattle.propagate_trail.specs.Trail.{position_from, position_in, reason_in, value_in}
pub use Rattle.propagate_trail.specs.Trail.{kept_from, kept_to, IsJustified, HasReasons}
