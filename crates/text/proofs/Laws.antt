-- The laws of this crate that other crates cite, from one place.
pub use Rattle.text.proofs.CappedNumbers.{value_on-push}
pub use Rattle.text.proofs.Cuts.{cut-ended, cut-kept, cut-nothing, line_lengths, lines-ended}
pub use Rattle.text.proofs.Cuts.{line_tokens-first, line_tokens-last, read_nothing}
pub use Rattle.text.proofs.Cuts.{lines-rest, taken-nothing, taken-on, taken-whole}
pub use Rattle.text.proofs.FirstPieces.{lines-split, parts-cons}
pub use Rattle.text.proofs.Items.{all_taken, flat_map-append, items_fault, items_more}
pub use Rattle.text.proofs.Numbers.{decimal-number_of, decimal_numerals, digit_bounds, digit_from}
pub use Rattle.text.proofs.Numbers.{digit_is_no_blank, is_number, is_number-decimal}
pub use Rattle.text.proofs.Numbers.{literal_of-text, number_of-decimal, number_of-is}
pub use Rattle.text.proofs.Numbers.{text-literal_of}
pub use Rattle.text.proofs.Passing.{first_fault, part-more, passed-more, passed-nil}
pub use Rattle.text.proofs.Passing.{passed_fault, passed_part, passed_part-more, passed_whole}
pub use Rattle.text.proofs.Passing.{joined-last, part-kept, puts_after, spaced-joined, spaced-last}
pub use Rattle.text.proofs.Passing.{writes-part}
pub use Rattle.text.proofs.Passing.{writes_after, writes_as}
pub use Rattle.text.proofs.Passing.{writes_kept, writes_next}
