-- The laws of this crate that other crates cite, from one place.
pub use Rattle.flat_rows.proofs.Rewriting.{IsSieved, sieved_none, sieved_kept, sieved_left}
pub use Rattle.flat_rows.proofs.Rewriting.{sieved_all, IsClosing, closing_none, closing_more}
pub use Rattle.flat_rows.proofs.Rewriting.{closing_all, IsMapped, mapped_none, mapped_more}
pub use Rattle.flat_rows.proofs.Rewriting.{mapped_all, rows_more}
