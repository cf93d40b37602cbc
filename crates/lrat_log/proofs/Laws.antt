-- The laws of this crate that other crates cite, from one place.
pub use Rattle.lrat_log.proofs.Accepting.{accepted_log}
pub use Rattle.lrat_log.proofs.Additions.{additions_cons, additions_few, additions_push, after_line}
pub use Rattle.lrat_log.proofs.Additions.{last_numbered}
pub use Rattle.lrat_log.proofs.Additions.{numbered_on-append}
pub use Rattle.lrat_log.proofs.Axioms.{LiveChain, axiom_adds, axiom_kept, follow_append, live_chain}
pub use Rattle.lrat_log.proofs.Axioms.{live_end, open_log, open_split, open_steps_push, own_append}
pub use Rattle.lrat_log.proofs.Axioms.{own_log, stays_open, stays_own}
pub use Rattle.lrat_log.proofs.GivenNumbers.{base_more, base_of, clauses_given, given_at-given_of}
pub use Rattle.lrat_log.proofs.GivenNumbers.{given_on, numbered_right}
pub use Rattle.lrat_log.proofs.Growing.{base_front, chain_join, ids_covered, live_after-append}
pub use Rattle.lrat_log.proofs.Growing.{live_more, one_apart, open_push, refutes_covered}
pub use Rattle.lrat_log.proofs.Growing.{stops_push}
pub use Rattle.lrat_log.proofs.Ids.{accepted_ids, small_ids}
pub use Rattle.lrat_log.proofs.LineTexts.{hints_spaced, item_fault, literals_spaced, with_spaces}
pub use Rattle.lrat_log.proofs.MoreGiven.{new_more, new_searched}
pub use Rattle.lrat_log.proofs.Names.{steps_from_chain}
pub use Rattle.lrat_log.proofs.NewLines.{first_new, none_new}
pub use Rattle.lrat_log.proofs.Numbering.{given_below, none_of}
pub use Rattle.lrat_log.proofs.RebasedLines.{learned_rebased, open_rebased}
pub use Rattle.lrat_log.proofs.Rebasing.{accepts_of_log, steps_of_log}
pub use Rattle.lrat_log.proofs.Refusals.{when_err}
pub use Rattle.lrat_log.proofs.Text.{IsWord, dashed_word, decimal_word, joined_text, line_words}
pub use Rattle.lrat_log.proofs.Text.{literal_word, no_feed, number_word, token_lines-spaced}
pub use Rattle.lrat_log.proofs.Text.{words_append, words_clause, words_decimal, zero_word}
