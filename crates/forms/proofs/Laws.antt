-- The laws of this crate that other crates cite, from one place.
pub use Rattle.forms.proofs.NextOutput.{last_push}
