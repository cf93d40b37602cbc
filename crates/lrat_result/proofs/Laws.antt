-- The laws of this crate that other crates cite, from one place.
pub use Rattle.lrat_result.proofs.Reports.{report_from_says, says_from_report}
