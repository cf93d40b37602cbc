-- The laws of this crate that other crates cite, from one place.
pub use Rattle.cdcl_order.proofs.Seen.{with_seen_none, with_seen_more}
