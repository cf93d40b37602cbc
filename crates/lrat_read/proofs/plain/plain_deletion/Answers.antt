-- The number, the letter, and the ids up to the end of the line.
use Rattle.std.proofs.Common.{◌≡◌, ℕ, ◌+◌, ◌<◌, ◌∷◌, ◌∙◌, [], ap, arith, drop, length, refl}
use Rattle.std.proofs.Common.{get_or, sym}
use Rattle.std.proofs.lemmas.List.{drop_more}
use Rattle.text.specs.Text.{tokens_of}
use Rattle.lrat_read.specs.Form.{line_of}
use Rattle.lrat_read.specs.Plain.{before_feed}
use Rattle.lrat_read.proofs.Lines.{deletes_block}
use Rattle.lrat_read.proofs.PlainLaws.{before_at, before_length}
use Rattle.lrat_read.proofs.plain.plain_deletion.Goals as goal

pub returns-clause-read : goal.returns-clause-read
returns-clause-read c =
    let line = c.args.line.now in
    let bf = before_feed line in
    let at = c.args.lead.end in
    let ids : ℕ = c.in_ok-ids.ids in
    let past = c.in_ok-ids.ensures in
    let read = c.in_ok-hints_end.ensures.read in
    let number = c.requires.number in
    let inside : at + 2 < length line = omega (arith, past.behind, past.within) in
    let long = before_length line in
    let next : ℕ = at + 1 in
    let last : next + 1 ≡ ids = sym past.behind in
    let letter : get_or bf at 0 ≡ 100 = before_at line at (omega (arith, inside))
    ∙ c.requires.letter in
    let blank : get_or bf next 0 ≡ 32 = before_at line next (omega (arith, inside)) ∙ past.space in
    let one : drop at bf ≡ 100 ∷ drop next bf = drop_more bf at 0 (omega (arith, inside, long))
    ∙ ap (λ b. b ∷ drop next bf) letter in
    let two : drop next bf ≡ 32 ∷ drop ids bf = drop_more bf next 0 (omega (arith, inside, long))
    ∙ ap (λ b. b ∷ drop (next + 1) bf) blank ∙ ap (λ j. 32 ∷ drop j bf) last in
    let words : tokens_of bf ≡ number.0 ∷ (100 ∷ []) ∷ tokens_of (drop ids bf) =
    number.1 ∙ ap (λ bs. number.0 ∷ tokens_of bs) (one ∙ ap (λ bs. 100 ∷ bs) two) in
    λ lits h. record {
      read =
          ap line_of words ∙ deletes_block number.0 (tokens_of (drop ids bf)) c.args.lead.id _
          number.2 read.block (read.undashed refl);
      last = read.last;
      lits_start = omega arith;
      hints_start = omega arith;
      within = record {
        lits_order = omega arith;
        lits = h;
        hints_order = read.order;
        hints = read.room;
        small = number.3;
      };
    }
