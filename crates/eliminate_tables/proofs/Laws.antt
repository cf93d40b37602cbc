-- The laws of this crate that other crates cite, from one place.
pub use Rattle.eliminate_tables.proofs.Built.{member_has}
pub use Rattle.eliminate_tables.proofs.Counted.{under_live}
pub use Rattle.eliminate_tables.proofs.Resolve.{contains-either}
pub use Rattle.eliminate_tables.proofs.Resolve.{not-complement_too, resolvent-open}
pub use Rattle.eliminate_tables.proofs.Resolve.{resolvent-open_not, resolvent-parts}
pub use Rattle.eliminate_tables.proofs.Resolve.{resolvent_refutes}
pub use Rattle.eliminate_tables.proofs.Writing.{some_clause}
