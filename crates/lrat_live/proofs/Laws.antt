-- The laws of this crate that other crates cite, from one place.
pub use Rattle.lrat_live.proofs.CountLaws.{ne_codes}
pub use Rattle.lrat_live.proofs.Listed.{Rises, above_kept, increasing_from_rises, listed_at-push}
pub use Rattle.lrat_live.proofs.Listed.{listed_at-without, listed_from-all, listed_here}
pub use Rattle.lrat_live.proofs.Listed.{listed_numbered, listed_there, rises_from, rises_from_pairs}
pub use Rattle.lrat_live.proofs.Listed.{rises_kept, rises_listed, rises_push, some_of}
