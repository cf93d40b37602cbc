-- The laws of this crate that other crates cite, from one place.
pub use Rattle.lrat_cuts.proofs.EndedParts.{ended_none, ended_part-more}
pub use Rattle.lrat_cuts.proofs.LawLimits.{have_ids, right_up_to}
pub use Rattle.lrat_cuts.proofs.LawSound.{cuts_sound}
pub use Rattle.lrat_cuts.proofs.LawVerdicts.{accepted_least, accepted_none, lower_least}
pub use Rattle.lrat_cuts.proofs.LawWorth.{cuts_prove}
pub use Rattle.lrat_cuts.proofs.Putting.{put_all-last, put_all-live, put_all-worth}
