-- The laws of this crate that other crates cite, from one place.
pub use Rattle.explain_text.proofs.Sheets.{Leads, cut_off, finished, leads_on, leads_same, more}
pub use Rattle.explain_text.proofs.Sheets.{nothing, written}
