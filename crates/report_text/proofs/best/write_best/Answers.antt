-- The text, by its parts.
use Rattle.std.proofs.Common.{◌++◌, ◌∙◌, ap}
use Rattle.text.specs.Writing.{spaced}
use Rattle.text.proofs.Laws.{writes_as}
use Rattle.lrat_result.specs.Result.{cost_tokens}
use Rattle.report_text.specs.Answering.{words_text}
use Rattle.report_text.proofs.BestTexts.{satisfiable_best, satisfiable_true}
use Rattle.report_text.proofs.best.write_best.Goals as goal

pub returns-clause-writes : goal.returns-clause-writes
returns-clause-writes g c =
    let bits = c.args.bits.now in
    let cost = c.args.cost in
    let e = ap (λ z. spaced (cost_tokens cost) ++ words_text z bits) c.spell_satisfiable.ensures in
    writes_as c.write_solution.result _ _ (e ∙ satisfiable_best cost bits) c.write_solution.ensures

pub returns-clause-true_text : goal.returns-clause-true_text
returns-clause-true_text g c =
    satisfiable_true c.args.instance.now c.args.cost c.args.bits.now c.limits.ensures
    c.requires
