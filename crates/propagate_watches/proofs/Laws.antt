-- The laws of this crate that other crates cite, from one place.
pub use Rattle.propagate_watches.proofs.Attachments.{attachment_set_other, attachment_set_same}
pub use Rattle.propagate_watches.proofs.Moving.{moved_from, moved_to}
