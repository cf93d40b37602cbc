use Rattle.std.proofs.Common.{◌∙◌, sym, ap}
use Rattle.propagate.specs.Trail.{value_in, level_in}
use Rattle.cdcl_search.proofs.Ranked.{open_asked, false_asked}
use Rattle.cdcl_search.proofs.levelling.level_false.Goals as goal

pub returns-then-ne-clause-open_below : goal.returns-then-ne-clause-open_below
returns-then-ne-clause-open_below c =
    let T = c.args.engine.now.trail in
    open_asked T c.args.lit c.value.result c.depth.result
    (c.value.ensures ∙ ap (value_in T) c.negation.ensures) c.if-ne.ensures

pub returns-in-Some-clause-low : goal.returns-in-Some-clause-low
returns-in-Some-clause-low c =
    let T = c.args.engine.now.trail in
    (false_asked T c.args.lit c.value.result c.in-Some.level
    (c.value.ensures ∙ ap (value_in T) c.negation.ensures) c.if-ne.ensures
    (sym (ap (level_in T) c.variable.ensures.variable) ∙ sym c.in-Some.ensures)).1

pub returns-in-Some-clause-open_below : goal.returns-in-Some-clause-open_below
returns-in-Some-clause-open_below c =
    let T = c.args.engine.now.trail in
    (false_asked T c.args.lit c.value.result c.in-Some.level
    (c.value.ensures ∙ ap (value_in T) c.negation.ensures) c.if-ne.ensures
    (sym (ap (level_in T) c.variable.ensures.variable) ∙ sym c.in-Some.ensures)).0
