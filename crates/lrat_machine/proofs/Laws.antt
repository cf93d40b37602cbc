-- The laws of this crate that other crates cite, from one place.
pub use Rattle.lrat_machine.proofs.Base.{live_of-start}
pub use Rattle.lrat_machine.proofs.Judged.{state_of}
pub use Rattle.lrat_machine.proofs.Proofs.{proof_verdict-Yes}
pub use Rattle.lrat_machine.proofs.Steps.{small_none}
pub use Rattle.lrat_machine.proofs.Whole.{yes_is_proof, yes_is_sound}
pub use Rattle.lrat_machine.proofs.Walk.{NoneRepeats, refutes_from_walk, walk_from_refutes}
