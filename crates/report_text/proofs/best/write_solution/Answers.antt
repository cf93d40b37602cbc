-- The line of the cost, then the end.
use Rattle.std.proofs.lemmas.Result.{err_from_is_err_and}
use Rattle.text.specs.Writing.{spaced}
use Rattle.text.proofs.Laws.{part-more, writes_next}
use Rattle.lrat_result.specs.Result.{cost_tokens}
use Rattle.report_text.specs.Answering.{words_text}
use Rattle.report_text.proofs.best.write_solution.Goals as goal

pub returns-in_err-write_cost : goal.returns-in_err-write_cost
returns-in_err-write_cost g c =
    let p = err_from_is_err_and c.from_residual.result c.from_residual.ensures.1 in
    rw p.1 (part-more _ _ (spaced (cost_tokens c.args.cost))
    (words_text c.args.words.now c.args.bits.now) c.in_err-write_cost.ensures)

pub returns : goal.returns
returns g c =
    writes_next c.write_words.result _ _ _ (spaced (cost_tokens c.args.cost))
    (words_text c.args.words.now c.args.bits.now) c.in_ok-write_cost.ensures
    c.write_words.ensures
