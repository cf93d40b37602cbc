-- The reasons of literals under new references, in the words of the crate that keeps them.
pub use Rattle.propagate_trail.specs.Renames.{named_reason, named_trail}
