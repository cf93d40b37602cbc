-- Where a fault came, a beginning of the literals was put.
use Rattle.std.proofs.Common.{◌≡◌, [], rules}
use Rattle.std.proofs.lemmas.Result.{err_from_is_err_and}
use Rattle.text.proofs.Laws.{items_more}
use Rattle.cnf.specs.Literal.{Literal}
use Rattle.lrat_log.specs.Texts.{number_text}
use Rattle.lrat_log.proofs.LineTexts.{item_fault}
use Rattle.lrat_log.proofs.spelling.put_literals.Goals as goal

pub returns-in_err-put_number : goal.returns-in_err-put_number
returns-in_err-put_number g c =
    let p = err_from_is_err_and c.from_residual.result c.from_residual.ensures.1 in
    let text : number_text c.is_negated.result c.from.result ≡ number_text c.lit-item.result.negated
    c.lit-item.result.variable = cc in
    rw (p.1) (item_fault (λ (l : Literal). number_text l.negated l.variable) _ _ _ _ _
    c.args.lits.now c.loop-lit.lit-index c.lit-item.result (search rules) c.lit-item.is
    c.loop-lit.invariant (rw text at c.in_err-put_number.ensures))

pub loop-lit-preserved : goal.loop-lit-preserved
loop-lit-preserved g c =
    let text : number_text c.is_negated.result c.from.result ≡ number_text c.lit-item.result.negated
    c.lit-item.result.variable = cc in
    items_more (λ (l : Literal). number_text l.negated l.variable) _ _ _ _ _ _ [] c.args.lits.now
    c.loop-lit.lit-index c.lit-item.result (search rules) c.lit-item.is c.loop-lit.invariant
    (rw text at c.in_ok-put_number.ensures)
