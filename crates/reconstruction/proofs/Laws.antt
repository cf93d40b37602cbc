-- The laws of this crate that other crates cite, from one place.
pub use Rattle.reconstruction.proofs.Extended.{extended-append, length-extended}
