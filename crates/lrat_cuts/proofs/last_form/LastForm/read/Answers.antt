-- All lines that a line feed ends are right, or one is not.
use Rattle.lrat_cuts.proofs.LastForms.{form_is_last, no_form_is}
use Rattle.lrat_cuts.proofs.last_form.LastForm.read.Goals as goal

pub returns-in-Ok-true : goal.returns-in-Ok-true
returns-in-Ok-true c =
    form_is_last c.in_ok-machine.machine c.take_lines-judged.new.machine c.new-facts.result.items
    c.take_lines-judged.new.facts.items c.args.instance.now c.args.proof.now
    c.in-Ok-true.field-0 c.in_ok-machine.ensures c.new-facts.ensures.items
    c.in-Ok-true.ensures c.in-Ok-true.field-0-test

pub returns-in-Ok-false : goal.returns-in-Ok-false
returns-in-Ok-false c =
    no_form_is c.in_ok-machine.machine c.take_lines-judged.new.machine c.new-facts.result.items
    c.take_lines-judged.new.facts.items c.args.instance.now c.args.proof.now
    c.in-Ok-false.field-0 c.in_ok-machine.ensures c.new-facts.ensures.items
    c.in-Ok-false.ensures c.in-Ok-false.field-0-test
