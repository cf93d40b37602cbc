-- A line more, and the end.
use Rattle.std.proofs.Common.{◌≡◌, ◌∷◌, ◌∙◌, ap, sym, subst, arith, rules, true, false}
use Rattle.std.specs.Prelude.{IsErr}
use Rattle.text.specs.Text.{tokens_of}
use Rattle.text.proofs.Laws.{line_lengths}
use Rattle.lrat_cuts.specs.LastForm.{ended_lines, form_facts}
use Rattle.lrat_cuts.specs.Machine.{judged_after}
use Rattle.lrat_cuts.proofs.LastForms.{ended_lines-first, ended_lines-none, line_fails, line_on}
use Rattle.lrat_cuts.proofs.last_form.take_lines.Goals as goal

pub returns-then-not-branch : goal.returns-then-not-branch
returns-then-not-branch c =
    let l = c.loop-line in
    let after = ended_lines c.in-Some.after.now in
    let e =
    ended_lines-first l.left.now c.in-Some.line.now c.in-Some.after.now c.in-Some.ensures
    ∙ ap (λ x. tokens_of x ∷ after) (sym c.without_return.ensures) in
    let wrong : c.in_ok-take_line.field-0 ≡ false = search rules in
    subst IsErr (ap (judged_after l.machine) (sym e) ∙ l.invariant.judged)
    (line_fails l.machine c.take_line.new.machine l.facts.items c.take_line.new.facts.items
    (tokens_of c.without_return.result.now) c.in_ok-take_line.field-0
    c.in_ok-take_line.ensures after wrong)

pub loop-line-preserved : goal.loop-line-preserved
loop-line-preserved c =
    let l = c.loop-line in
    let after = ended_lines c.in-Some.after.now in
    let e =
    ended_lines-first l.left.now c.in-Some.line.now c.in-Some.after.now c.in-Some.ensures
    ∙ ap (λ x. tokens_of x ∷ after) (sym c.without_return.ensures) in
    let right : c.in_ok-take_line.field-0 ≡ true = search rules in
    let on =
    line_on l.machine c.take_line.new.machine l.facts.items c.take_line.new.facts.items
    (tokens_of c.without_return.result.now) c.in_ok-take_line.field-0
    c.in_ok-take_line.ensures after right in
    record {
      judged = sym on.0 ∙ ap (judged_after l.machine) (sym e) ∙ l.invariant.judged;
      facts = sym on.1 ∙ ap (form_facts l.facts.items) (sym e) ∙ l.invariant.facts;
      room = (let n = line_lengths l.left.now c.in-Some.line.now c.in-Some.after.now
          c.in-Some.ensures in
          omega (arith, on.2, n, l.invariant.room));
    }

pub returns : goal.returns
returns c =
    let l = c.loop-line in
    let none = ended_lines-none l.left.now c.in_default.ensures in (
      sym l.invariant.judged ∙ ap (judged_after l.machine) none,
      ap (form_facts l.facts.items) (sym none) ∙ l.invariant.facts,
    )
