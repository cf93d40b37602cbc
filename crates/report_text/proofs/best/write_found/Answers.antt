-- The text of each end, by its parts.
use Rattle.std.proofs.Common.{◌++◌, refl, sym, ◌∙◌, ap}
use lib.Chars.{codes}
use Rattle.text.specs.Writing.{spaced}
use Rattle.text.proofs.Laws.{writes_as}
use Rattle.lrat_result.specs.Result.{cost_tokens}
use Rattle.report_text.specs.Best.{best_text, said_by}
use Rattle.report_text.proofs.Answered.{end_is}
use Rattle.report_text.proofs.BestTexts.{satisfiable_best, optimum_best, said_true}
use Rattle.report_text.proofs.best.write_found.Goals as goal

pub returns-in-Optimum-clause-writes : goal.returns-in-Optimum-clause-writes
returns-in-Optimum-clause-writes g c =
    let cost = c.in-Optimum.cost in
    let bits = c.in-Optimum.bits.now in
    let e = end_is (codes "s OPTIMUM FOUND\n") _ bits _ _ c.spell_optimum.ensures refl refl in
    writes_as c.write_solution.result _ _
    (ap (λ z. spaced (cost_tokens cost) ++ z) e ∙ optimum_best cost bits
    ∙ ap (λ f. best_text (said_by f)) (sym c.in-Optimum.is)) c.write_solution.ensures

pub returns-in-Optimum-clause-true_text : goal.returns-in-Optimum-clause-true_text
returns-in-Optimum-clause-true_text g c =
    said_true c.args.instance.now (said_by c.args.finding.now) c.limits.ensures c.requires

pub returns-in-Unsat-clause-writes : goal.returns-in-Unsat-clause-writes
returns-in-Unsat-clause-writes g c =
    writes_as c.write_words.result _ _ (ap (λ f. best_text (said_by f)) (sym c.in-Unsat.is))
    c.write_words.ensures

pub returns-in-Unsat-clause-true_text : goal.returns-in-Unsat-clause-true_text
returns-in-Unsat-clause-true_text g c =
    said_true c.args.instance.now (said_by c.args.finding.now) c.limits.ensures c.requires

pub returns-in-Best-clause-writes : goal.returns-in-Best-clause-writes
returns-in-Best-clause-writes g c =
    let cost = c.in-Best.cost in
    let bits = c.in-Best.bits.now in
    let e = end_is (codes "s SATISFIABLE\n") _ bits _ _ c.spell_satisfiable.ensures refl refl in
    writes_as c.write_solution-in-Best.result _ _
    (ap (λ z. spaced (cost_tokens cost) ++ z) e ∙ satisfiable_best cost bits
    ∙ ap (λ f. best_text (said_by f)) (sym c.in-Best.is)) c.write_solution-in-Best.ensures

pub returns-in-Best-clause-true_text : goal.returns-in-Best-clause-true_text
returns-in-Best-clause-true_text g c =
    said_true c.args.instance.now (said_by c.args.finding.now) c.limits.ensures c.requires

pub returns-in-Nothing-clause-writes : goal.returns-in-Nothing-clause-writes
returns-in-Nothing-clause-writes g c =
    writes_as c.write_unknown.result _ _ (ap (λ f. best_text (said_by f)) (sym c.in-Nothing.is))
    c.write_unknown.ensures

pub returns-in-Nothing-clause-true_text : goal.returns-in-Nothing-clause-true_text
returns-in-Nothing-clause-true_text g c =
    said_true c.args.instance.now (said_by c.args.finding.now) c.limits.ensures c.requires
