-- One blank more.
use Rattle.std.proofs.Common.{◌≡◌, get_or, true, arith, sym, ◌∙◌, ap}
use Rattle.std.proofs.lemmas.Bool.{cond-true}
use Rattle.std.proofs.lemmas.List.{drop_more}
use Rattle.text.specs.Text.{is_blank, tokens_of}
use Rattle.lrat_read.proofs.Scan.{run_push}
use Rattle.lrat_read.proofs.numbers.skip_blanks.Goals as goal

pub loop-place-preserved : goal.loop-place-preserved
loop-place-preserved c =
    let line = c.args.line.now in
    let place = c.loop-place.place in
    let inv = c.loop-place.invariant in
    let blank : is_blank (get_or line place 0) ≡ true =
    sym c.is_blank_byte.ensures ∙ c.if-is_blank_byte.true in
    record {
      from = omega (arith, inv.from);
      within = omega arith;
      same =
          sym (ap tokens_of (drop_more line place 0 c.loop-place-test.true)
          ∙ cond-true (is_blank (get_or line place 0)) _ _ blank) ∙ inv.same;
      blank =
          run_push is_blank line c.args.at place inv.from c.loop-place-test.true inv.blank blank;
    }
