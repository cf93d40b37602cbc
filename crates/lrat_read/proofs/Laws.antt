-- The laws of this crate that other crates cite, from one place.
pub use Rattle.lrat_read.proofs.Lines.{addition_line, deletion_line, groups_of-signed_hints}
pub use Rattle.lrat_read.proofs.Lines.{leading-signed_hints, line_read, parsed_of, signed_hints}
pub use Rattle.lrat_read.proofs.WordLaws.{parsed_no_word}
pub use Rattle.lrat_read.proofs.WordSpelling.{word_line_read}
